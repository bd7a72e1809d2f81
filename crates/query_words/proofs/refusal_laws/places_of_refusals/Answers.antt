use Rattle.query_words.proofs.RefusalLemmas.{places_of_refusals}
use Rattle.query_words.proofs.refusal_laws.places_of_refusals.Goals as goal

pub returns : goal.returns
returns c = places_of_refusals c.value_of_is_denoted.ensures
