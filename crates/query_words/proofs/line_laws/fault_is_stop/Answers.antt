use Rattle.query_words.proofs.LineLawLemmas.{fault_stop}
use Rattle.query_words.proofs.line_laws.fault_is_stop.Goals as goal

pub returns : goal.returns
returns c = fault_stop c.value_of_is_denoted.ensures
