use Rattle.std.proofs.Common.{arith}
use Rattle.page_layout.specs.RowSizes.{sizes_small}
use Rattle.page_layout.proofs.row.row_size.Goals as goal

pub overflow_add-result : goal.overflow_add-result
overflow_add-result c = let s = sizes_small c.as_slice.result.now in record { fits = omega (arith, c.columns_size.ensures) }
