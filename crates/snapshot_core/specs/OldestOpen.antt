-- which of the open transactions has the oldest view
use Rattle.std.specs.Prelude.{nat_lt, Bool, ◌&&◌, ◌||◌, ◌==◌, List, [], ◌∷◌, length, Option, None, Some, if◌then◌else◌}
use Rattle.snapshot_core.specs.declared.sessions.Open.{Open}
use Rattle.snapshot_core.specs.declared.snapshots.Snapshot.{Snapshot}

-- The one view was taken before the other: its next number is lower, or both have the same one and more transactions were under way. Between two
-- views with one next number none began, so that the earlier one has the more.
abbrev pub is_earlier : Snapshot → Snapshot → Bool
is_earlier one other = nat_lt one.next other.next || ((one.next == other.next) && nat_lt (length other.active) (length one.active))

-- the one with the earlier view
abbrev pub older : Option Open → Option Open → Option Open
older None other = other
older (Some first) None = Some first
older (Some first) (Some second) = if is_earlier second.snapshot first.snapshot then Some second else Some first

abbrev pub oldest_from : Option Open → List (Option Open) → Option Open
oldest_from so_far [] = so_far
oldest_from so_far (place ∷ places) = oldest_from (older so_far place) places

-- the open transaction with the oldest view, if one is open
abbrev pub oldest_of : List (Option Open) → Option Open
oldest_of places = oldest_from None places
