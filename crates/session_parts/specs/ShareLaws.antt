-- what is promised to all sessions, and how many locks they hold
use Rattle.std.specs.Prelude.{◌≡◌, ◌≢◌, ℕ, zero, suc, ◌+◌, ◌<◌, ◌≤◌, List, Option, Some}
use Rattle.block_model.specs.declared.place.Place.{Place}
use Rattle.page_locks.specs.LockCounts.{locks_of}
use Rattle.page_locks.specs.LockHolders.{LockState, holder}
use Rattle.snapshot_core.specs.declared.sessions.Open.{Open}
use Rattle.snapshot_core.specs.StoredVersions.{transaction_of}
use Rattle.session_parts.specs.declared.hand.Hand.{Hand}
use Rattle.session_parts.specs.declared.limits.TheConstants.{LOCKS_A_SESSION}
use Rattle.session_parts.specs.HandFits.{locks_held}
use Rattle.session_parts.specs.Shares.{share_of}
use Rattle.session_parts.specs.StoreStates.{hand_in}

-- the shares of the sessions below this number
abbrev pub shares_below : (count : ℕ) → List (Option Hand) → List (Option Open) → ℕ
shares_below zero hands opens = 0
shares_below (suc n) hands opens = shares_below n hands opens + share_of (hand_in hands n) (transaction_of opens n)

-- where one session's share changes, the sum changes by as much
abbrev pub SharesChange : Type 0
SharesChange = (count n : ℕ) (hands now : List (Option Hand)) (opens then : List (Option Open)) → n < count
    → ((m : ℕ) → m ≢ n → hand_in now m ≡ hand_in hands m) → ((m : ℕ) → m ≢ n → transaction_of then m ≡ transaction_of opens m)
    → shares_below count now then + share_of (hand_in hands n) (transaction_of opens n) ≡ shares_below count hands opens + share_of (hand_in now n) (transaction_of then n)

-- each share is one of them
abbrev pub ShareIsWithin : Type 0
ShareIsWithin = (count n : ℕ) (hands : List (Option Hand)) (opens : List (Option Open)) → n < count → share_of (hand_in hands n) (transaction_of opens n) ≤ shares_below count hands opens

-- so what is promised stays the sum, as a step leaves it
abbrev pub PromisesStay : Type 0
PromisesStay = (count n promised after : ℕ) (hands now : List (Option Hand)) (opens then : List (Option Open)) → n < count
    → ((m : ℕ) → m ≢ n → hand_in now m ≡ hand_in hands m) → ((m : ℕ) → m ≢ n → transaction_of then m ≡ transaction_of opens m)
    → after + share_of (hand_in hands n) (transaction_of opens n) ≡ promised + share_of (hand_in now n) (transaction_of then n)
    → promised ≡ shares_below count hands opens → after ≡ shares_below count now then

-- a statement in hand holds no more page locks than a session may
abbrev pub FewLocksEach : Type 0
FewLocksEach = (hand : Option Hand) → locks_held hand ≤ LOCKS_A_SESSION

-- one that locks a page holds a lock
abbrev pub HolderHasLock : Type 0
HolderHasLock = (locks : LockState) (page : Place) (actor : ℕ) → holder locks page ≡ Some actor → 1 ≤ locks_of locks actor
