-- a step of the map's growth, as a step of the summarise for whose range the map grows
use Rattle.std.proofs.Common.{◌≡◌, ℕ, ◌≤◌, refl, sym, ap, subst, ◌∙◌, arith}
use Rattle.std.specs.Prelude.{IfOk, OnOk, Result, Ok, Err}
use Rattle.disk_trait.specs.Told.{Told}
use Rattle.store_layout.specs.DiskLayout.{DiskLayout}
use Rattle.page_locks.specs.declared.did.Did.{Did}
use Rattle.page_locks.specs.declared.did.Did.TheVariants as did
use Rattle.page_locks.specs.LockHolders.{LockState}
use Rattle.page_map.specs.declared.faults.MachineFault.{MachineFault}
use Rattle.page_map.specs.PageMap.{PageMap, View, block_at}
use Rattle.coverage.specs.IndexView.{IndexView, Pages}
use Rattle.coverage.specs.Statements.{Vacant}
use Rattle.index_layout.specs.IndexReading.{map_pages_of}
use Rattle.index_contents.specs.IndexContents.{IndexContents, contents, relation_of}
use Rattle.index_steps.specs.IndexTuples.{IndexShape, shape_of}
use Rattle.index_steps.specs.ShownIndex.{Shows, lock_in}
use Rattle.index_steps.specs.StepAnswers.{BlockedWell}
use Rattle.index_steps.specs.declared.growth_stage.Stage.{Stage as GrowthStage}
use Rattle.index_steps.specs.declared.growth_stage.Stage.TheVariants as growth
use Rattle.index_steps.specs.GrowthHands.{GrowthHand, RestsAt as GrowthRests}
use Rattle.index_steps.specs.GrowthSteps.{GrowthAt, IsNeeded, StandsAfter as GrowthStands, StepFull as GrowthFull, Stepped as GrowthStepped, phase_of as growth_phase}
use Rattle.index_steps.specs.StageLocks.{Gives, held_at as held_to_grow}
use Rattle.summarise_core.specs.declared.range_stage.Stage.{Stage}
use Rattle.summarise_core.specs.declared.range_stage.Stage.TheVariants as stages
use Rattle.summarise_core.specs.Growths.{onward}
use Rattle.summarise_core.specs.ShownHeap.{Heap}
use Rattle.summarise_core.specs.StageLocks.{EndsMove, held_at}
use Rattle.summarise_core.specs.SummariseHands.{SummariseHand}
use Rattle.summarise_core.specs.SummariseSteps.{RestsBlocked, StandsAfter, StepFull, Stepped}
use Rattle.summarise_core.proofs.Stepped.{at_hand}

-- how many pages of the map are counted
pub counted_is : (layout : DiskLayout) (pages : PageMap) (index relation counted : ℕ) → relation ≡ relation_of layout index → counted ≡ map_pages_of (block_at pages relation 0) → counted ≡ (contents layout pages index).pages.map_pages
unfolding contents
counted_is layout pages index relation counted at is = is ∙ ap (λ (r : ℕ). map_pages_of (block_at pages r 0)) at

-- a growth that is to judge is none yet
vacant : (shape : IndexShape) (hand : GrowthHand) → hand.stage ≡ growth.Judge → growth_phase shape hand ≡ Vacant
vacant shape hand rests = subst (λ (h : GrowthHand). growth_phase shape h ≡ Vacant) (λ j. record hand { stage = sym rests j }) refl

-- a growth that waits has in hand what it had, but for the tuple that it read
waits_as : (old new : GrowthHand) → old.stage ≡ growth.Judge → GrowthRests old.stage old new → new ≡ record old { moved = new.moved }
waits_as old new rests same = subst (λ (stage : GrowthStage). GrowthRests stage old new → new ≡ record old { moved = new.moved }) (sym rests) (λ is. is) same

-- of an index of that number
abbrev pub growth_in : DiskLayout → PageMap → LockState → ℕ → GrowthHand → GrowthAt
growth_in layout pages locks index hand = record { pages = contents layout pages index; lock = lock_in layout locks index; hand = hand }

module _ (layout : DiskLayout) (old new : PageMap) (locks locked : LockState) (index s range : ℕ) (before after : GrowthHand) (of : before.index ≡ index) where
  abbrev shape : IndexShape
  shape = shape_of layout index

  abbrev c : IndexContents
  c = contents layout old index

  here : (done : Did) → after.index ≡ before.index → GrowthStepped (shape_of layout before.index) s (growth_in layout old locks before.index before) (growth_in layout new locked after.index after) done
      → GrowthStepped shape s (growth_in layout old locks index before) (growth_in layout new locked index after) done
  here done same made =
      subst (λ (i : ℕ). GrowthStepped (shape_of layout i) s (growth_in layout old locks i before) (growth_in layout new locked i after) done) of
      (subst (λ (i : ℕ). GrowthStepped (shape_of layout before.index) s (growth_in layout old locks before.index before) (growth_in layout new locked i after) done) same made)

  module _ (needed : IsNeeded c.pages range before.stage) where
    needed_in : (w : IndexView) → Shows shape c (lock_in layout locks index) w → IsNeeded w.pages range before.stage
    needed_in w shows = subst (λ (pages : Pages). IsNeeded pages range before.stage) (sym shows.pages) needed

    module _ (heap : Heap) (hand : SummariseHand) where
      by_done : (done : Did) → GrowthStands before after done → GrowthStepped shape s (growth_in layout old locks index before) (growth_in layout new locked index after) done
          → Stepped shape heap s range (at_hand c (lock_in layout locks index) (record hand { stage = stages.Place; growth = before }))
          (at_hand (contents layout new index) (lock_in layout locked index) (record hand { stage = stages.Place; growth = after })) (onward done)
      by_done (did.Moved point) stands made = ((0, (λ w shows rows its knows pages. made.0 range w shows (needed_in w shows) knows pages), refl), tt)
      by_done (did.Finished point) stands made = ((0, (λ w shows rows its knows pages. made.0 range w shows (needed_in w shows) knows pages), refl), tt)
      by_done (did.Blocked held) stands made = (
        (λ w shows rows knows. made range w shows (needed_in w shows) knows),
        refl,
        vacant shape after (ap (λ (h : GrowthHand). h.stage) (waits_as before after stands.0 stands.1) ∙ stands.0) ∙ sym (vacant shape before stands.0),
      )
      by_done (did.NoRight by) stands made = absurd made

    pub full_to_grow : (number : ℕ) → GrowthFull shape s (growth_in layout old locks index before) number → (hand : SummariseHand)
        → StepFull shape s range (at_hand c (lock_in layout locks index) (record hand { stage = stages.Place; growth = before })) number
    full_to_grow number full hand w shows = full range w shows (needed_in w shows)

-- it stays one of its index
pub same_index : (before after : GrowthHand) (done : Did) → GrowthStands before after done → after.index ≡ before.index
same_index before after (did.Moved point) stands = stands
same_index before after (did.Finished point) stands = stands.0
same_index before after (did.Blocked held) stands = ap (λ (h : GrowthHand). h.index) (waits_as before after stands.0 stands.1)
same_index before after (did.NoRight by) stands = absurd stands

pub grown : (layout : DiskLayout) (old new : PageMap) (locks locked : LockState) (index s range : ℕ) (before after : GrowthHand) (of : before.index ≡ index) (heap : Heap) (hand : SummariseHand) (done : Did)
    → IsNeeded (contents layout old index).pages range before.stage → GrowthStands before after done
    → GrowthStepped (shape_of layout before.index) s (growth_in layout old locks before.index before) (growth_in layout new locked after.index after) done
    → Stepped (shape_of layout index) heap s range (at_hand (contents layout old index) (lock_in layout locks index) (record hand { stage = stages.Place; growth = before }))
    (at_hand (contents layout new index) (lock_in layout locked index) (record hand { stage = stages.Place; growth = after })) (onward done)
grown layout old new locks locked index s range before after of heap hand done needed stands made =
    by_done layout old new locks locked index s range before after of needed heap hand done stands
    (here layout old new locks locked index s range before after of done (same_index before after done stands) made)

-- it stays where the placeholder is to be put, and where it waits it has in hand what it had
pub stands_on : (before after : GrowthHand) (done : Did) → GrowthStands before after done → StandsAfter before.stage stages.Place stages.Place (onward done)
stands_on before after (did.Moved point) stands = tt
stands_on before after (did.Finished point) stands = tt
stands_on before after (did.Blocked held) stands = subst (λ (stage : GrowthStage). StandsAfter stage stages.Place stages.Place (did.Blocked held)) (sym stands.0) ((omega arith), refl)
stands_on before after (did.NoRight by) stands = absurd stands

pub rests_on : (before after : GrowthHand) (hand : SummariseHand) (done : Did) → GrowthStands before after done
    → RestsBlocked (record hand { stage = stages.Place; growth = before }) (record hand { stage = stages.Place; growth = after }) (onward done)
rests_on before after hand (did.Moved point) stands = tt
rests_on before after hand (did.Finished point) stands = tt
rests_on before after hand (did.Blocked held) stands = ap (λ (h : GrowthHand). record hand { stage = stages.Place; growth = h }) (waits_as before after stands.0 stands.1)
rests_on before after hand (did.NoRight by) stands = absurd stands

pub blocked_on : {D : Type 0} (told : D → Told) (index actor : ℕ) (old new : View D) (before after : LockState) (done : Did) → BlockedWell told index actor old new before after done → BlockedWell told index actor old new before after (onward done)
blocked_on told index actor old new before after (did.Moved point) well = tt
blocked_on told index actor old new before after (did.Finished point) well = tt
blocked_on told index actor old new before after (did.Blocked held) well = well
blocked_on told index actor old new before after (did.NoRight by) well = tt

-- the last step of a move gives all locks
pub ends_give : (stage : GrowthStage) (done : Did) → EndsMove stage → Gives stage done
ends_give growth.Judge done ends = absurd ends
ends_give growth.Count done ends = absurd ends
ends_give (growth.Set range from to) done ends = absurd ends
ends_give (growth.Drop range from) done ends = tt

-- at an error it stays at its stage
pub rests_there : (before after : GrowthHand) → GrowthRests before.stage before after → after.stage ≡ before.stage
rests_there before after rests = at_stage before.stage rests
  where
    at_stage : (stage : GrowthStage) → GrowthRests stage before after → after.stage ≡ before.stage
    at_stage growth.Judge is = ap (λ (h : GrowthHand). h.stage) is
    at_stage growth.Count is = ap (λ (h : GrowthHand). h.stage) is
    at_stage (growth.Set range from to) is = ap (λ (h : GrowthHand). h.stage) is
    at_stage (growth.Drop range from) is = ap (λ (h : GrowthHand). h.stage) is

-- it stays where the placeholder is to be put, with no more locks than there
pub own_to_place : (result : Result (Stage × Did) MachineFault) (at to : GrowthStage) (n m : ℕ) → IfOk result (λ o. o.0 ≡ stages.Place) → OnOk result (n ≤ held_to_grow at → m ≤ held_to_grow to) → IfOk result (λ o. n ≤ held_to_grow at → m ≤ held_at to o.0)
own_to_place (Ok o) at to n m stays own = λ few. subst (λ (stage : Stage). m ≤ held_at to stage) (sym stays) (own few)
own_to_place (Err fault) at to n m stays own = tt
