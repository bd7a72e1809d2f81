use Rattle.data_tests.proofs.FiveRows.{nulls_are_taken}
use Rattle.data_tests.proofs.five_columns.add_nulls.Goals as goal

pub add_row-requires : goal.add_row-requires
add_row-requires c = nulls_are_taken _ c.requires
