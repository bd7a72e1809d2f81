use Rattle.script_semantics.proofs.Numbers.{numbers_rise}
use Rattle.script_semantics.proofs.journal_fronts.numbers_rise.Goals as goal

pub returns : goal.returns
returns c = numbers_rise
