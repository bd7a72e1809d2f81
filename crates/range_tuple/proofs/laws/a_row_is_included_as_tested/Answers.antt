use Rattle.range_tuple.proofs.TestedRows.{row_included, row_includes}
use Rattle.range_tuple.proofs.laws.a_row_is_included_as_tested.Goals as goal

pub returns : goal.returns
returns c = λ t row. (row_included t row, row_includes t row)
