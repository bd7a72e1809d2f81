-- row versions that nobody sees any more ("Routine Vacuuming": what was deleted is kept as long as someone may still see it)
use Rattle.std.specs.Prelude.{ℕ, List, Bool, true, false, ◌&&◌, ◌||◌}
use Rattle.std.specs.List.{list_all}
use Rattle.snapshot_core.specs.declared.statuses.Status.{Status}
use Rattle.snapshot_core.specs.declared.statuses.Status.TheVariants.{Unused, Begun, Committed, RolledBack}
use Rattle.snapshot_core.specs.declared.snapshots.Snapshot.{Snapshot}
use Rattle.snapshot_core.specs.Visibility.{in_snapshot, is_committed}

-- the transaction has rolled back
abbrev pub is_rolled_back : Status → Bool
is_rolled_back Unused = false
is_rolled_back Begun = false
is_rolled_back Committed = false
is_rolled_back RolledBack = true

-- the deleter has committed, and is in each of the snapshots
abbrev pub is_deleted_for_all : List Snapshot → ℕ → Status → Bool
is_deleted_for_all live deleter gone = is_committed gone && list_all (λ s. in_snapshot s deleter gone) live

-- a row is dead to all: the transaction that put it rolled back, or it is deleted for all
abbrev pub is_dead_to_all : List Snapshot → ℕ → Status → Status → Bool
is_dead_to_all live deleter put gone = is_rolled_back put || is_deleted_for_all live deleter gone
