-- changes of the sessions' transactions
use Rattle.std.specs.Prelude.{ℕ, Bool, List, [], ◌∷◌, Option, None, Some, true, if◌then◌else◌}
use Rattle.snapshot_core.specs.declared.statuses.Status.{Status}
use Rattle.snapshot_core.specs.declared.statuses.Status.TheVariants.{Committed, RolledBack}
use Rattle.snapshot_core.specs.declared.sessions.Open.{Open}

-- the numbers of the open transactions
abbrev pub numbers_of : List (Option Open) → List ℕ
numbers_of [] = []
numbers_of (None ∷ places) = numbers_of places
numbers_of (Some o ∷ places) = o.t ∷ numbers_of places

-- the same transaction with another place for its next row
abbrev pub with_next_k : Open → ℕ → Open
with_next_k o k = record o { next_k = k }

-- the same transaction, failed
abbrev pub failed_open : Open → Open
failed_open o = record o { failed = true }

-- how a transaction stands after it was to commit
abbrev pub ended : Bool → Status
ended failed = if failed then RolledBack else Committed
