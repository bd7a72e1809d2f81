-- what a transaction sees with its snapshot ("Transaction Isolation": what was committed before it began, and its own
-- changes)
use Rattle.std.specs.Prelude.{◌≤◌, ℕ, Bool, true, false, not, ◌&&◌, ◌||◌, ◌==◌, ◌⊎◌, nat_lt, Contains}
use Rattle.std.specs.List.{list_any}
use Rattle.snapshot_core.specs.declared.statuses.Status.{Status}
use Rattle.snapshot_core.specs.declared.statuses.Status.TheVariants.{Unused, Begun, Committed, RolledBack}
use Rattle.snapshot_core.specs.declared.snapshots.Snapshot.{Snapshot}

-- the transaction has committed
abbrev pub is_committed : Status → Bool
is_committed Unused = false
is_committed Begun = false
is_committed Committed = true
is_committed RolledBack = false

-- the transaction was under way when the snapshot was taken
abbrev pub was_active : Snapshot → ℕ → Bool
was_active s t = list_any (λ u. u == t) s.active

-- it had begun and ended when the snapshot was taken
abbrev pub had_ended : Snapshot → ℕ → Bool
had_ended s t = nat_lt t s.next && not (was_active s t)

-- a commit in the snapshot
abbrev pub in_snapshot : Snapshot → ℕ → Status → Bool
in_snapshot s t status = is_committed status && had_ended s t

-- what the transaction t did has happened for the one numbered own: it is own or a commit in the snapshot
abbrev pub has_done : Snapshot → ℕ → ℕ → Status → Bool
has_done s own t status = (t == own) || in_snapshot s t status

-- the row is own or of a commit in the snapshot, and its deleter is neither own nor such a commit
abbrev pub sees : Snapshot → ℕ → ℕ → ℕ → Status → Status → Bool
sees s own t deleter put gone = has_done s own t put && not (has_done s own deleter gone)

-- the transaction had not ended when the snapshot was taken: it was under way, or hadn't begun
abbrev pub IsUnfinished : Snapshot → ℕ → Type 0
IsUnfinished s t = (s.next ≤ t) ⊎ Contains s.active t
