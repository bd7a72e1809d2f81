-- when a session is there, when a statement is taken, and what a session has in hand behind a step
use Rattle.std.specs.Prelude.{◌≡◌, ◌≢◌, ℕ, ◌<◌, nat_lt, List, ◌++◌, [], ◌∷◌, length, true, false, Option, None, Some, IsSome, Result, Ok, Err, if◌then◌else◌}
use Rattle.block_model.specs.declared.reply.Refusal.{Refusal}
use Rattle.disk_trait.specs.Told.{Told}
use Rattle.store_layout.specs.declared.limits.TheConstants.{MAX_SESSIONS}
use Rattle.store_layout.specs.SessionNumbers.{session_number, with_session, is_past_sessions}
use Rattle.session_parts.specs.declared.faults.Step.{Step}
use Rattle.session_parts.specs.declared.faults.Step.TheVariants as steps
use Rattle.session_parts.specs.declared.faults.StoreFault.{StoreFault}
use Rattle.session_parts.specs.declared.faults.StoreFault.TheVariants as stops
use Rattle.session_parts.specs.declared.hand.Hand.{Hand}
use Rattle.session_parts.specs.declared.hand.Hand.TheVariants as hands
use Rattle.session_parts.specs.Hands.{statement_of}
use Rattle.session_parts.specs.StepAnswers.{IsHolderOf, IsSpentFor, LeavesSessions, StaysAsItWas}
use Rattle.session_parts.specs.StoreStates.{StoreState, hand_at}
use Rattle.session_core.specs.declared.faults.SessionFault.{SessionFault}
use Rattle.session_core.specs.declared.faults.SessionFault.TheVariants as faults

-- a session of that name is there, made where it is new, with nothing in hand
abbrev pub with_name : {D : Type 0} → StoreState D → List ℕ → StoreState D
with_name s name = record s {
  names = with_session s.names name;
  hands = if nat_lt (session_number s.names name) (length s.names) then s.hands else s.hands ++ None ∷ [];
}

-- A session of that name gets its number, and is one of the store's then. A further one than there may be is refused, exactly
-- there; else memory may be short. After a refusal nothing is changed.
abbrev pub HasSession : {D : Type 0} → StoreState D → List ℕ → StoreState D → Result ℕ SessionFault → Type 0
HasSession s name s' (Ok n) = (is_past_sessions s.names name ≡ false) × (n ≡ session_number s.names name) × (s' ≡ with_name s name) × (n < length s'.names)
HasSession s name s' (Err (faults.Limit limit)) = (is_past_sessions s.names name ≡ true) × (limit ≡ MAX_SESSIONS) × (s' ≡ s)
HasSession s name s' (Err faults.Memory) = (is_past_sessions s.names name ≡ false) × (s' ≡ s)

-- why a statement was refused, if it was
abbrev pub refusal_in : {T : Type 0} → Result T Refusal → Option Refusal
refusal_in (Ok _) = None
refusal_in (Err refusal) = Some refusal

-- behind a step the statement is in hand, but behind its reply nothing is
abbrev pub IsInHandThen : Result Step StoreFault → Option Hand → Type 0
IsInHandThen (Ok (steps.Moved point)) hand = IsSome hand
IsInHandThen (Ok (steps.Done reply)) hand = hand ≡ None
IsInHandThen (Ok (steps.Blocked what holder)) hand = IsSome hand
IsInHandThen (Err fault) hand = IsSome hand

-- where a step waits, it is for one of so many sessions
abbrev pub NamesASession : ℕ → Step → Type 0
NamesASession sessions (steps.Blocked what holder) = holder < sessions
NamesASession sessions step = Unit {0}

-- and on any disk for another one than session n, which holds a lock
abbrev pub WaitsForAnother : {D : Type 0} → StoreState D → (n : ℕ) → Step → Type 0
WaitsForAnother s n (steps.Blocked what holder) = IsHolderOf s n holder
WaitsForAnother s n step = Unit {0}

-- what is told of the journal is so on any disk: how many entries it has, and that it has no room for what a step of the statement in hand may enter
abbrev pub TellsJournal : {D : Type 0} → StoreState D → Option Hand → StoreFault → Type 0
TellsJournal s (Some hand) (stops.Spent entries) = (entries ≡ length s.journal.entries) × IsSpentFor s (statement_of hand)
TellsJournal s hand fault = Unit {0}

-- of the other sessions each has in hand what it had, and keeps its transaction, its locks, and what it asked for in vain
pub record LeavesTheRest {D : Type 0} (told : D → Told) (old new : StoreState D) (n : ℕ) : Type 0 where
  pub hands : (m : ℕ) → m ≢ n → hand_at new m ≡ hand_at old m
  pub sessions : LeavesSessions told old new n

-- what stays in hand is the statement that was in hand
abbrev pub IsSameStatement : (old new : Option Hand) → Type 0
IsSameStatement (Some was) (Some hand) = statement_of hand ≡ statement_of was
IsSameStatement old new = Unit {0}

-- where a step waits, and where the journal lacks room for it, nothing is changed
abbrev pub StaysStill : {D : Type 0} → (D → Told) → (old new : StoreState D) → Result Step StoreFault → Type 0
StaysStill told old new (Ok (steps.Blocked what holder)) = StaysAsItWas told old new
StaysStill told old new (Err (stops.Spent entries)) = StaysAsItWas told old new
StaysStill told old new answer = Unit {0}

-- any statement in hand but an insert before its row
abbrev pub IsNoPut : Hand → Type 0
IsNoPut (hands.Puts table values) = ⊥
IsNoPut hand = Unit {0}
