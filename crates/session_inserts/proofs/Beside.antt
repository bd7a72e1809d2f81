-- what a step is fit for then, and what it leaves to the other sessions, by what its session has in hand
use Rattle.std.proofs.Common.{◌≡◌, ◌≢◌, ◌+◌, ℕ, List, Option, None, Some, refl, sym, ap, subst, ◌∙◌, false, inl, inr, ◌<◌, ◌≤◌, arith}
use Rattle.std.specs.Prelude.{IsSome}
use Rattle.std.proofs.lemmas.Bool.{cases_lt, false≢true}
use Rattle.store_layout.specs.DiskLayout.{DiskLayout}
use Rattle.page_map.specs.PageMap.{View}
use Rattle.tx_table.specs.Kept.{over_kept}
use Rattle.tx_table.specs.Statuses.{status_relation}
use Rattle.tx_table.specs.TxState.{IsOver, TxState}
use Rattle.index_contents.specs.IndexContents.{relation_of as index_relation}
use Rattle.brin_insert.specs.InsertAnswers.{LeavesOtherRelations, relation_at}
use Rattle.brin_insert.proofs.Outcomes.{index_next}
use Rattle.disk_trait.specs.Told.{Told}
use Rattle.block_model.specs.declared.place.Spot.{Spot}
use Rattle.page_map.specs.Keeps.{Leaves}
use Rattle.page_locks.specs.LockCounts.{locks_of}
use Rattle.page_locks.specs.RightHolders.{right_of}
use Rattle.snapshot_core.specs.declared.sessions.Open.{Open}
use Rattle.snapshot_core.specs.StoredVersions.{transaction_of}
use Rattle.brin_insert.specs.declared.insert.Insert.{Insert}
use Rattle.brin_insert.specs.InsertHands.{InsertHand}
use Rattle.brin_insert.specs.Inserts.{HasStepAt, HasStepLeft, IsAtWorkIn, work_of}
use Rattle.session_parts.specs.declared.hand.Hand.{Hand}
use Rattle.session_parts.specs.declared.hand.Stepped.{Stepped}
use Rattle.session_parts.specs.declared.parts.Parts.{Parts}
use Rattle.session_parts.specs.HandFits.{IsOwnRow, IsUnderWay}
use Rattle.session_parts.specs.Shares.{share_of}
use Rattle.session_parts.specs.StepIs.{hand_after}
use Rattle.session_parts.specs.Stepping.{LeavesTheOthers, StaysFit}
use Rattle.session_parts.specs.StoreLaws.{HandChanges}
use Rattle.session_parts.specs.StoreStates.{dropped_in}
use Rattle.session_parts.specs.UndoneLaws.{FitOfStores, FitsParts}

pub stays_fit : {D : Type 0} (told : D → Told) (changes : HandChanges) (stores : FitOfStores told) (old new : Parts D) (n : ℕ) (hand : Hand) (answer : Stepped) → FitsParts told new n (hand_after answer)
    → StaysFit told old new n hand answer
stays_fit told changes stores old new n hand answer fits = λ names hands has. stores new n (hand_after answer) names _ fits (changes hands n hand (hand_after answer) has).own

pub record LeavesWith {D : Type 0} (told : D → Told) (old new : Parts D) (n : ℕ) (was now : Option Hand) : Type 0 where
  pub leaves : Leaves told old.pages new.pages
  pub transactions : (m : ℕ) → m ≢ n → transaction_of new.transactions.opens m ≡ transaction_of old.transactions.opens m
  pub locks : (m : ℕ) → m ≢ n → locks_of new.locks m ≡ locks_of old.locks m
  pub dropped : (m : ℕ) → m ≢ n → dropped_in new.dropped m ≡ dropped_in old.dropped m
  pub rights : new.rights ≡ old.rights
  pub promised : new.journal.promised + share_of was (transaction_of old.transactions.opens n) ≡ old.journal.promised + share_of now (transaction_of new.transactions.opens n)

pub leaves_others : {D : Type 0} (told : D → Told) (changes : HandChanges) (old new : Parts D) (n : ℕ) (hand : Hand) (answer : Stepped) → LeavesWith told old new n (Some hand) (hand_after answer)
    → LeavesTheOthers told old new n hand answer
leaves_others told changes old new n hand answer leaves = λ names hands has. record {
  leaves = leaves.leaves;
  transactions = leaves.transactions;
  locks = leaves.locks;
  dropped = leaves.dropped;
  rights = λ m table apart holds. ap (λ (r : List (Option ℕ)). right_of r table) (sym leaves.rights) ∙ holds;
  promised =
      ap (λ (h : Option Hand). new.journal.promised + share_of h (transaction_of old.transactions.opens n)) has ∙ leaves.promised
      ∙ ap (λ (h : Option Hand). old.journal.promised + share_of h (transaction_of new.transactions.opens n)) (sym (changes hands n hand (hand_after answer) has).own);
}

-- a transaction that is under way
pub record UnderWay (transaction : Option Open) : Type 0 where
  pub own : Open
  pub is : transaction ≡ Some own
  pub whole : own.failed ≡ false

pub under_way : (transaction : Option Open) → IsUnderWay transaction → UnderWay transaction
under_way None under = absurd under
under_way (Some own) under = record { own = own; is = refl; whole = under }

-- an insert that has put its row and has a step left is at an index
pub record AtWork (insert : Insert) : Type 0 where
  pub x : Spot
  pub placed : insert.place ≡ Some x
  pub hand : InsertHand
  pub got : work_of insert ≡ Some hand

pub at_work_of : (insert : Insert) → HasStepLeft insert → IsSome insert.place → AtWork insert
at_work_of insert left some = by_place insert.place refl some
  where
    by_work : (x : Spot) → insert.place ≡ Some x → (o : Option InsertHand) → work_of insert ≡ o → IsAtWorkIn o → AtWork insert
    by_work x placed None is work = absurd work
    by_work x placed (Some hand) is work = record { x = x; placed = placed; hand = hand; got = is }

    by_place : (o : Option Spot) → insert.place ≡ o → IsSome o → AtWork insert
    by_place None is some = absurd (false≢true some)
    by_place (Some x) is some = by_work x is (work_of insert) refl (subst (λ (o : Option Spot). HasStepAt o (work_of insert)) is left)

-- the transaction of an insert at work
pub own_of : (transaction : Option Open) → IsUnderWay transaction → (t : ℕ) → IsOwnRow transaction t → (o : Open) → transaction ≡ Some o → t ≡ o.t
own_of transaction under t own o is = subst (λ (s : Option Open). IsOwnRow s t) is own

-- pages of a relation that isn't that of the statuses
pub over_beside : {D : Type 0} (told : D → Told) (tx : TxState) (old new : View D) (relation : ℕ) → (status_relation ≡ relation → ⊥) → IsOver told tx old → LeavesOtherRelations told relation old new → IsOver told tx new
over_beside told tx old new relation other over leaves = over_kept told tx old new over leaves.leaves (λ tells block. leaves.pages tells (record { relation = status_relation; block = block }) other)

-- as those of the index that an insert is at
pub at_no_status : (layout : DiskLayout) (insert : Insert) → HasStepLeft insert → IsSome insert.place → status_relation ≡ relation_at layout insert → ⊥
at_no_status layout insert left some same =
    let work = at_work_of insert left some in
    let e : status_relation ≡ index_relation layout work.hand.index = same ∙ index_next layout insert work.x work.hand work.placed work.got in
    omega (arith, e)

-- where one more doesn't fit
pub past_room : (n limit : ℕ) → (n + 1 ≤ limit → ⊥) → limit ≤ n
past_room n limit none = elim (cases_lt n limit) [ inl below ↦ absurd (none (omega arith)) | inr past ↦ past ]

pub past_one : (n limit : ℕ) → limit ≤ n → limit < n + 1
past_one n limit past = omega (arith, past)
