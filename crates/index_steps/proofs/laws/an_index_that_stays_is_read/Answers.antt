use Rattle.index_steps.proofs.Views.{reads_index}
use Rattle.index_steps.proofs.laws.an_index_that_stays_is_read.Goals as goal

pub returns : goal.returns
returns c = λ shape e d lock locked w s. reads_index shape e d lock locked w s
