-- events that fit a disk
use Rattle.std.specs.Prelude.{ℕ, ◌+◌, ◌≤◌, List, [], ◌∷◌, length}
use Rattle.disk_trait.specs.Event.{Event, wrote, synced}

-- each write lies within so many bytes
abbrev pub AreWithin : ℕ → List Event → Type 0
AreWithin size [] = Unit {0}
AreWithin size (wrote at replaced ∷ events) = (at + length replaced ≤ size) × AreWithin size events
AreWithin size (synced ∷ events) = AreWithin size events
