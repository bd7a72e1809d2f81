use Rattle.model_laws.proofs.Removals.{no_row_removed_twice}
use Rattle.model_laws.proofs.laws.no_row_removed_twice.Goals as goal

pub returns : goal.returns
returns c = no_row_removed_twice
