use Rattle.std.proofs.Common.{◌≡◌, drop}
use Rattle.store_layout.specs.SessionNumbers.{session_from}
use Rattle.session_core.specs.SessionLists.{names_of}
use Rattle.session_core.proofs.sessions.number_of.Given as goal

abbrev pub invariant-sessions : goal.invariant-sessions
invariant-sessions l = session_from (names_of (drop l.i l.sessions)) l.i l.name ≡ session_from (names_of l.sessions) 0 l.name
