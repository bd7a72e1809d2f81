use Rattle.std.proofs.Common.{length}
use Rattle.page_redo.proofs.redoing.+drop_rows.Given as goal

abbrev pub decreases-drop_rows : goal.decreases-drop_rows
decreases-drop_rows l = length l.slots.now
