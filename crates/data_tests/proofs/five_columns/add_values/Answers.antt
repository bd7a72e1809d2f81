use Rattle.data_tests.proofs.FiveRows.{values_are_taken}
use Rattle.data_tests.proofs.five_columns.add_values.Goals as goal

pub add_row-requires : goal.add_row-requires
add_row-requires c = values_are_taken _ _ _ _ c.requires
