use Rattle.std.proofs.Common.{◌≡◌, List, length}
use Rattle.block_model.specs.declared.schema.Column.{Column}
use Rattle.command_line.specs.DeclarationReading.{column_at, others_at, columns_at}
use Rattle.command_line.specs.Words.{AreRead}
use Rattle.command_line.proofs.MoreItems.{goes_on}
use Rattle.command_line.proofs.column.columns.Given as goal

abbrev pub invariant-more : goal.invariant-more
invariant-more l = (cs : List Column) × (columns_at l.text ≡ goes_on cs (others_at column_at l.rest)) × AreRead l.fn.kept l.wanted l.columns cs

abbrev pub decreases-more : goal.decreases-more
decreases-more l = length l.rest
