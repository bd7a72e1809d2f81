use Rattle.script_semantics.proofs.Unseen.{dead_rows_are_unseen}
use Rattle.script_semantics.proofs.journal_fronts.dead_rows_are_unseen.Goals as goal

pub returns : goal.returns
returns c = dead_rows_are_unseen
