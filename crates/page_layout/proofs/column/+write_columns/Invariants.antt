use Rattle.std.proofs.Common.{length}
use Rattle.page_layout.proofs.column.+write_columns.Given as goal

abbrev pub decreases-write_columns : goal.decreases-write_columns
decreases-write_columns l = length l.kinds.now
