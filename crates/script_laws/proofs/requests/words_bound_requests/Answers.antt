use Rattle.script_laws.proofs.LineVerbs.{read_by_verbs, words_bound_requests}
use Rattle.script_laws.proofs.requests.words_bound_requests.Goals as goal

pub returns-clause-verbs : goal.returns-clause-verbs
returns-clause-verbs c = read_by_verbs (record { denoted = c.value_of_is_denoted.ensures; of_kind = c.denoted_is_of_kind.ensures })

pub returns-clause-requests : goal.returns-clause-requests
returns-clause-requests c = words_bound_requests (record { denoted = c.value_of_is_denoted.ensures; of_kind = c.denoted_is_of_kind.ensures })
