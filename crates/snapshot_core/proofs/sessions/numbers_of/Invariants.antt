use Rattle.std.proofs.Common.{◌≡◌, ◌++◌, ◌+◌, ◌-◌, ◌≤◌, drop, length}
use Rattle.std.specs.Vec.{vec_capacity}
use Rattle.snapshot_core.specs.SessionChanges.{numbers_of}
use Rattle.snapshot_core.proofs.sessions.numbers_of.Given as goal

abbrev pub invariant-sessions : goal.invariant-sessions
invariant-sessions l = record {
  so_far : l.numbers.items ++ numbers_of (drop l.session-index l.sessions) ≡ numbers_of l.sessions;
  room : length l.numbers.items + (length l.sessions - l.session-index) ≤ vec_capacity l.numbers;
}
