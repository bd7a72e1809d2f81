use Rattle.std.proofs.Common.{arith}
use Rattle.page_redo.proofs.index_fitting.can_set_entry.Goals as goal

pub returns-clause-is : goal.returns-clause-is
returns-clause-is c = λ e. let is = c.is_of_kind.ensures.is e in (is.0, is.1, omega (arith, c.if-entry-ge-MAP_ENTRIES.false))
