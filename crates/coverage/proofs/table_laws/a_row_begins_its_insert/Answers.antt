use Rattle.coverage.proofs.OneIndexSteps.{row_begins}
use Rattle.coverage.proofs.table_laws.a_row_begins_its_insert.Goals as goal

pub returns : goal.returns
returns c = row_begins
