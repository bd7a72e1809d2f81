-- how many locks actors hold
use Rattle.std.specs.Prelude.{◌≡◌, ◌≢◌, ◌==◌, ℕ, ◌+◌, ◌≤◌, count_by}
use Rattle.std.specs.FinMap as map
use Rattle.page_locks.specs.LockHolders.{LockState, count_of}

-- how many locks the actor holds
abbrev pub locks_of : LockState → ℕ → ℕ
locks_of s actor = count_by (λ n. n == actor) (map.values s.holders)

-- the actor holds at most so many locks more, and each other as many as before
pub record AddsAtMost (old new : LockState) (actor more : ℕ) : Type 0 where
  pub own : locks_of new actor ≤ locks_of old actor + more
  pub others : (a : ℕ) → a ≢ actor → locks_of new a ≡ locks_of old a
  pub all : count_of new ≤ count_of old + more
