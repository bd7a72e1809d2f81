use Rattle.std.proofs.Common.{◌≡◌, drop}
use Rattle.store_layout.specs.SessionNumbers.{session_from}
use Rattle.plain_script.specs.KeptLines.{names_kept}
use Rattle.plain_script.proofs.kept.number_of.Given as goal

abbrev pub invariant-sessions : goal.invariant-sessions
invariant-sessions l = session_from (names_kept (drop l.i l.sessions)) l.i l.name ≡ session_from (names_kept l.sessions) 0 l.name
