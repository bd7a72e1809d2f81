-- what every step of a statement leaves on any disk, and when each fault comes
use Rattle.std.specs.Prelude.{◌≡◌, ◌≢◌, ◌⊎◌, ℕ, ◌+◌, ◌≤◌, ◌<◌, length, None, Some}
use Rattle.disk_trait.specs.Told.{Told}
use Rattle.store_layout.specs.declared.limits.TheConstants.{MAX_ENTRIES}
use Rattle.store_layout.specs.declared.statement.Statement.{Statement}
use Rattle.store_layout.specs.declared.statement.Statement.TheVariants as statements
use Rattle.page_locks.specs.LockCounts.{locks_of}
use Rattle.page_locks.specs.RightHolders.{right_of}
use Rattle.page_map.specs.declared.faults.StoreError.TheVariants as errors
use Rattle.page_map.specs.Keeps.{Keeps, Leaves, Untold}
use Rattle.page_map.specs.Outcome.{Refused}
use Rattle.page_map.specs.PageMap.{View}
use Rattle.snapshot_core.specs.StoredVersions.{transaction_of}
use Rattle.session_parts.specs.declared.faults.StoreFault.{StoreFault}
use Rattle.session_parts.specs.declared.faults.StoreFault.TheVariants as stops
use Rattle.session_parts.specs.declared.hand.Hand.{Hand}
use Rattle.session_parts.specs.declared.hand.Stepped.{Stepped}
use Rattle.session_parts.specs.declared.hand.Stepped.TheVariants as stepped
use Rattle.session_parts.specs.DamagedPages.{IsPageStart}
use Rattle.session_parts.specs.Hands.{statement_of}
use Rattle.session_parts.specs.Shares.{share_of}
use Rattle.session_parts.specs.StoreStates.{StoreState, dropped_in, hand_at}

-- what a step of session n leaves to the others: their transactions, how many locks each holds, no summarise lock that they hadn't, what each asked for
-- in vain, and what of the journal is promised beside its own
pub record LeavesSessions {D : Type 0} (told : D → Told) (old new : StoreState D) (n : ℕ) : Type 0 where
  pub leaves : Leaves told old.pages new.pages
  pub transactions : (m : ℕ) → m ≢ n → transaction_of new.transactions.opens m ≡ transaction_of old.transactions.opens m
  pub locks : (m : ℕ) → m ≢ n → locks_of new.locks m ≡ locks_of old.locks m
  pub dropped : (m : ℕ) → m ≢ n → dropped_in new.dropped m ≡ dropped_in old.dropped m
  pub rights : (m table : ℕ) → m ≢ n → right_of new.rights table ≡ Some m → right_of old.rights table ≡ Some m
  pub promised : new.journal.promised + share_of (hand_at old n) (transaction_of old.transactions.opens n)
      ≡ old.journal.promised + share_of (hand_at new n) (transaction_of new.transactions.opens n)

-- where a disk fault wasn't kept, none is now
abbrev pub StaysReady : {D : Type 0} → View D → View D → Type 0
StaysReady old new = (old.failed ≡ None) × (new.failed ≡ None)

-- Why a step isn't done, by the pages' disk. A disk fault comes only where the count of faults rose, and is kept with the count; from then
-- on each step answers it. A page is damaged only where the disk doesn't tell its contents, and is told by the byte at which it begins.
abbrev pub HasFaultCause : {D : Type 0} → (D → Told) → View D → View D → StoreFault → Type 0
HasFaultCause told old new (stops.Spent entries) = StaysReady old new
HasFaultCause told old new stops.Disk = Refused told (Untold told old) old new errors.Disk
HasFaultCause told old new (stops.Reopen faults) = Refused told (Untold told old) old new (errors.Reopen faults)
HasFaultCause told old new (stops.Damaged at) = Refused told (Untold told old) old new (errors.Damaged at) × IsPageStart old.layout at

abbrev pub HasCause : {D : Type 0} → (D → Told) → View D → View D → Stepped → Type 0
HasCause told old new (stepped.Undone fault hand) = HasFaultCause told old new fault
HasCause told old new answer = StaysReady old new

-- nothing changes; the statement in hand may be kept anew, but is the same one at the same step
pub record StaysAsItWas {D : Type 0} (told : D → Told) (old new : StoreState D) : Type 0 where
  pub pages : Keeps told old.pages new.pages
  pub transactions : new.transactions ≡ old.transactions
  pub locks : new.locks ≡ old.locks
  pub rights : new.rights ≡ old.rights
  pub journal : new.journal.entries ≡ old.journal.entries
  pub queue : new.queue ≡ old.queue
  pub dropped : new.dropped ≡ old.dropped

-- session m is another one than n, and holds a page lock, or a table's summarise lock
abbrev pub IsHolderOf : {D : Type 0} → StoreState D → (n m : ℕ) → Type 0
IsHolderOf s n m = (m ≢ n) × ((1 ≤ locks_of s.locks m) ⊎ ((table : ℕ) × (right_of s.rights table ≡ Some m)))

-- how many requests a step of the statement may enter: with its first mark a delete enters its look
abbrev pub most_entered : Statement → ℕ
most_entered (statements.Delete q) = 2
most_entered statement = 1

-- the journal has no room for what a step of the statement may enter
abbrev pub IsSpentFor : {D : Type 0} → StoreState D → Statement → Type 0
IsSpentFor s statement = MAX_ENTRIES < length s.journal.entries + most_entered statement

-- Where it waits for what another session holds, and where the journal lacks room, nothing changes; and where the step isn't done it enters nothing. What is
-- told then is so on any disk: another session that holds a lock, and how many entries a full journal has.
abbrev pub StaysWhereUndone : {D : Type 0} → (D → Told) → (old new : StoreState D) → (n : ℕ) → Hand → Stepped → Type 0
StaysWhereUndone told old new n was (stepped.Moved point hand) = statement_of hand ≡ statement_of was
StaysWhereUndone told old new n was (stepped.Done reply) = Unit {0}
StaysWhereUndone told old new n was (stepped.Blocked what holder hand) = StaysAsItWas told old new × (statement_of hand ≡ statement_of was) × IsHolderOf old n holder
StaysWhereUndone told old new n was (stepped.Undone (stops.Spent entries) hand) =
    StaysAsItWas told old new × (statement_of hand ≡ statement_of was) × (entries ≡ length old.journal.entries) × IsSpentFor old (statement_of was)
StaysWhereUndone told old new n was (stepped.Undone fault hand) = (new.journal.entries ≡ old.journal.entries) × (statement_of hand ≡ statement_of was)
