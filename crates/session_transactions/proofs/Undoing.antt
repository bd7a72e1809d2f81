-- Steps that aren't done.
use Rattle.std.proofs.Common.{◌≡◌, ℕ, ◌+◌, ◌<◌, ◌≤◌, List, length, Option, None, Some, refl, sym, subst, arith}
use Rattle.block_model.specs.declared.row.Query.{Query}
use Rattle.disk_trait.specs.Told.{Told}
use Rattle.page_map.specs.declared.faults.StoreError.{StoreError}
use Rattle.page_map.specs.Keeps.{Leaves, Untold}
use Rattle.page_map.specs.Outcome.{Refused}
use Rattle.tx_table.specs.TxState.{IsOver}
use Rattle.store_layout.specs.declared.limits.TheConstants.{MAX_ENTRIES}
use Rattle.script_semantics.specs.Place.{Place}
use Rattle.script_semantics.specs.StatementSteps.{LacksRoom}
use Rattle.session_parts.specs.declared.faults.StoreFault.{StoreFault}
use Rattle.session_parts.specs.declared.faults.StoreFault.TheVariants as stops
use Rattle.session_parts.specs.declared.hand.Hand.{Hand}
use Rattle.session_parts.specs.declared.hand.Stepped.TheVariants as stepped
use Rattle.session_parts.specs.declared.parts.Parts.{Parts}
use Rattle.session_parts.specs.Hands.{statement_of}
use Rattle.session_parts.specs.Shares.{look_share}
use Rattle.session_parts.specs.ShowsPlace.{ShowsPlace}
use Rattle.session_parts.specs.DamagedPages.{NamesAPage}
use Rattle.session_parts.specs.StepAnswers.{most_entered}
use Rattle.session_parts.specs.Stepping.{IsFit}
use Rattle.session_parts.specs.StoreFaults.{fault_of}
use Rattle.session_parts.specs.StoreStates.{hand_in, store_of}
use Rattle.session_parts.specs.UndoneLaws.{SameBesidePages, StepsSo}
use Rattle.session_parts.proofs.Undone.{refused_is_undone, spent_is_undone}

-- the pages refuse the step
pub refused_by : {D : Type 0} (told : D → Told) (old new : Parts D) (n : ℕ) (hand : Hand) (error : StoreError) (fault : StoreFault) → IsFit told old n hand → IsOver told new.transactions.tx new.pages
    → Leaves told old.pages new.pages → SameBesidePages old new → Refused told (Untold told old.pages) old.pages new.pages error → NamesAPage old.pages.layout error → fault ≡ fault_of error
    → StepsSo told old new n hand (stepped.Undone fault hand)
refused_by told old new n hand error fault fits over leaves same refused names is =
    subst (λ (f : StoreFault). StepsSo told old new n hand (stepped.Undone f hand)) (sym is) (refused_is_undone told old new n hand error fits over leaves same refused names)

-- a full journal has no room for one more, and where there is none for a mark with its look there is none for two
pub none_more : (long : ℕ) → MAX_ENTRIES ≤ long → MAX_ENTRIES < long + 1
none_more long full = omega (arith, full)

pub none_marked : (look : Option Query) (long : ℕ) → MAX_ENTRIES < long + (look_share look + 1) → MAX_ENTRIES < long + 2
none_marked None long full = omega (arith, full)
none_marked (Some look) long full = omega (arith, full)

-- the journal has no room
pub no_room_for : {D : Type 0} (told : D → Told) (parts : Parts D) (n : ℕ) (hand : Hand) (fault : StoreFault) → IsFit told parts n hand → parts.pages.failed ≡ None
    → fault ≡ stops.Spent (length parts.journal.entries) → MAX_ENTRIES < length parts.journal.entries + most_entered (statement_of hand)
    → ((names : List (List ℕ)) (hands : List (Option Hand)) (p : Place) → hand_in hands n ≡ Some hand → ShowsPlace (store_of parts names hands) p → LacksRoom p n)
    → StepsSo told parts parts n hand (stepped.Undone fault hand)
no_room_for told parts n hand fault fits ready is full lacks =
    subst (λ (f : StoreFault). StepsSo told parts parts n hand (stepped.Undone f hand)) (sym is)
    (spent_is_undone told parts n hand (length parts.journal.entries) fits ready refl full (λ names hands p there tells shown. lacks names hands p there shown))
