-- what a stop leaves of a step, also in a store in which a disk fault was kept
use Rattle.std.proofs.Common.{◌≡◌, ℕ, List, Option, None, Some, IfSome, IsSome, Result, Err, refl, sym, subst, arith}
use Rattle.std.proofs.lemmas.Bool.{false≢true}
use Rattle.disk_trait.specs.Told.{Told}
use Rattle.page_store.specs.Survives.{Survives}
use Rattle.page_map.specs.declared.faults.StoreError.{StoreError}
use Rattle.page_map.specs.declared.faults.StoreError.TheVariants as errors
use Rattle.page_map.specs.Keeps.{Leaves}
use Rattle.page_map.specs.Outcome.{IsReopen}
use Rattle.script_semantics.specs.Place.{Place}
use Rattle.session_parts.specs.declared.faults.Step.{Step}
use Rattle.session_parts.specs.declared.faults.StoreFault.{StoreFault}
use Rattle.session_parts.specs.declared.faults.StoreFault.TheVariants as stops
use Rattle.session_parts.specs.declared.hand.Hand.{Hand}
use Rattle.session_parts.specs.declared.hand.Hand.TheVariants as hands
use Rattle.session_parts.specs.declared.parts.Parts.{Parts}
use Rattle.session_parts.specs.HandFits.{FitsStore}
use Rattle.session_parts.specs.ShowsPlace.{ShowsPlace}
use Rattle.session_parts.specs.StoreFaults.{fault_of}
use Rattle.session_parts.specs.StoreStates.{StoreState, hand_at, hand_in, store_of}
use Rattle.session_starts.specs.StopRule.{AllHaveTable, StepStopsWhole, StopsWhole}
use Rattle.session_starts.specs.Stops.{StopsSo}
use Rattle.session_transactions.proofs.Stopping.{passes_no_commit, passes_nothing}
use Rattle.session_core.specs.Sessions.{TellsJournal}
use Rattle.session_core.specs.declared.slots.Slot.{Slot}
use Rattle.session_core.specs.StoreKept.{IsStoreKept}
use Rattle.session_core.proofs.Lists.{inside}

module _ {D : Type 0} (told : D → Told) (s : StoreState D) (n : ℕ) where
  module _ (stays : Survives told (λ pages. ⊥) s.pages s.pages) (faults : ℕ) where
    stops_so : (hand : Hand) → StopsSo told s.transactions n s.pages s.pages hand (Err (stops.Reopen faults))
    stops_so hands.Commits = (passes_no_commit told s.pages stays s.transactions n, tt)
    stops_so hand = passes_nothing told s.pages stays

    stops_of : (hand : Option Hand) → IfSome hand (λ h. StopsSo told s.transactions n s.pages s.pages h (Err (stops.Reopen faults)))
    stops_of None = tt
    stops_of (Some hand) = stops_so hand

-- a step of a store that is not ready passes nothing
pub stops_reopened : {D : Type 0} (told : D → Told) (s : StoreState D) (n : ℕ) (error : StoreError) (fault : StoreFault) → Survives told (λ pages. ⊥) s.pages s.pages → IsReopen error → fault ≡ fault_of error
    → IfSome (hand_at s n) (λ hand. StopsSo told s.transactions n s.pages s.pages hand (Err fault))
stops_reopened told s n errors.Disk fault stays reopens is = absurd reopens
stops_reopened told s n (errors.Damaged at) fault stays reopens is = absurd reopens
stops_reopened told s n (errors.Reopen faults) fault stays reopens is =
    subst (λ (f : StoreFault). IfSome (hand_at s n) (λ hand. StopsSo told s.transactions n s.pages s.pages hand (Err f))) (sym is) (stops_of told s n stays faults (hand_at s n))

-- nothing is told of its journal
untold_journal : {D : Type 0} (s : StoreState D) (hand : Option Hand) (faults : ℕ) → TellsJournal s hand (stops.Reopen faults)
untold_journal s None faults = tt
untold_journal s (Some hand) faults = tt

pub journal_reopened : {D : Type 0} (s : StoreState D) (hand : Option Hand) (error : StoreError) (fault : StoreFault) → IsReopen error → fault ≡ fault_of error → TellsJournal s hand fault
journal_reopened s hand errors.Disk fault reopens is = absurd reopens
journal_reopened s hand (errors.Damaged at) fault reopens is = absurd reopens
journal_reopened s hand (errors.Reopen faults) fault reopens is = subst (λ (f : StoreFault). TellsJournal s hand f) (sym is) (untold_journal s hand faults)

-- a session with a statement in hand is fit for its step
pub fits_here : {D : Type 0} (told : D → Told) (parts : Parts D) (names : List (List ℕ)) (hands : List (Option Hand)) (slots : List Slot) (n : ℕ) → IsStoreKept told (store_of parts names hands) slots
    → IsSome (hand_in hands n) → FitsStore told (store_of parts names hands) n
fits_here told parts names hands slots n kept some = go (hand_in hands n) refl some
  where
    go : (hand : Option Hand) → hand_in hands n ≡ hand → IsSome hand → FitsStore told (store_of parts names hands) n
    go None is some = absurd (false≢true some)
    go (Some hand) is some = kept.fits n (omega (arith, inside hands n hand is, kept.a_hand_each, kept.few_sessions))

-- what a stop leaves of a step whose statement is in hand and fit
pub stops_whole : {D : Type 0} (told : D → Told) (old new : StoreState D) (n : ℕ) (answer : Result Step StoreFault) → StepStopsWhole told → IsSome (hand_at old n) → FitsStore told old n → Leaves told old.pages new.pages
    → IfSome (hand_at old n) (λ hand. StopsSo told old.transactions n old.pages new.pages hand answer) → (p : Place) → ShowsPlace old p → AllHaveTable told old.pages p → StopsWhole told old new p n answer
stops_whole told old new n answer law some fits leaves stops p shows all = go (hand_at old n) refl some stops
  where
    go : (hand : Option Hand) → hand_at old n ≡ hand → IsSome hand → IfSome hand (λ h. StopsSo told old.transactions n old.pages new.pages h answer) → StopsWhole told old new p n answer
    go None is some stops = absurd (false≢true some)
    go (Some hand) is some stops = law old new p n hand answer shows is fits leaves stops all
