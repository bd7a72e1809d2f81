use Rattle.std.proofs.Common.{◌≡◌, ◌++◌, drop}
use Rattle.plain_script.specs.KeptLines.{lines_kept}
use Rattle.plain_script.specs.SessionLines.{numbers_from, numbers_of}
use Rattle.plain_script.proofs.kept.numbers_of.Given as goal

abbrev pub invariant-lines : goal.invariant-lines
invariant-lines l = l.numbers ++ numbers_from l.i l.session (lines_kept (drop l.i l.lines)) ≡ numbers_of l.session (lines_kept l.lines)
