-- a growth of the map as the protocol's summariser has it between its steps, and what each step makes of the index
use Rattle.std.specs.Prelude.{◌≡◌, ℕ, Bool, IsTrue, Option}
use Rattle.block_model.specs.declared.place.Spot.{Spot}
use Rattle.block_model.specs.declared.reply.Point.{Point}
use Rattle.block_model.specs.declared.reply.Point.TheVariants as points
use Rattle.store_layout.specs.DiskLayout.{DiskLayout}
use Rattle.page_map.specs.PageMap.{PageMap}
use Rattle.page_locks.specs.declared.did.Did.{Did}
use Rattle.page_locks.specs.declared.did.Did.TheVariants as did
use Rattle.page_locks.specs.LockHolders.{LockState}
use Rattle.coverage.specs.IndexPart.{SummariseMakes}
use Rattle.coverage.specs.IndexView.{IndexView, IsPastMap, Pages, next_map_page}
use Rattle.coverage.specs.Knowing.{Knows}
use Rattle.coverage.specs.PageOrder.{KnowsPages}
use Rattle.coverage.specs.Statements.{Dropping, Evacuating, Growing, Maintaining, Moving, Phase, Vacant}
use Rattle.coverage.specs.Waiting.{IsPhaseFull, IsPhaseWaiting}
use Rattle.index_contents.specs.IndexContents.{IndexContents, contents}
use Rattle.index_steps.specs.IndexTuples.{IndexShape, seen, shape_of}
use Rattle.index_steps.specs.ShownIndex.{Shows, lock_in, shown_part}
use Rattle.index_steps.specs.declared.growth_stage.Stage.{Stage}
use Rattle.index_steps.specs.declared.growth_stage.Stage.TheVariants as stages
use Rattle.index_steps.specs.GrowthHands.{GrowthHand, RestsAt}

-- a growth: the index's pages, who locks them, and what it has in hand
pub record GrowthAt : Type 0 where
  pub pages : IndexContents
  pub lock : ℕ → Option ℕ
  pub hand : GrowthHand

abbrev pub growth_at : DiskLayout → PageMap → LockState → GrowthHand → GrowthAt
growth_at layout pages locks hand = record { pages = contents layout pages hand.index; lock = lock_in layout locks hand.index; hand = hand }

-- it, as the phase of the summariser for which the map grows
abbrev pub phase_at : IndexShape → GrowthHand → Stage → Phase
phase_at shape hand stages.Judge = Vacant
phase_at shape hand stages.Count = Growing
phase_at shape hand (stages.Set range from to) = Evacuating range (Moving from to (seen shape hand.moved) (seen shape hand.moved))
phase_at shape hand (stages.Drop range from) = Evacuating range (Dropping from)

abbrev pub phase_of : IndexShape → GrowthHand → Phase
phase_of shape hand = phase_at shape hand hand.stage

-- where the growth is to begin or to go on, the map has no page for the range's entry yet
abbrev pub IsNeeded : Pages → (range : ℕ) → Stage → Type 0
IsNeeded pages range stages.Judge = IsPastMap pages range
IsNeeded pages range stage = Unit {0}

-- of the tuples that were unnamed at the opening no more stand there
abbrev pub IsFewer : (old new : Spot → Bool) → Type 0
IsFewer old new = (x : Spot) → IsTrue (new x) → IsTrue (old x)

-- Of each index that pages and locks showed, and in which the summariser at a range without an entry's page knows what it has to, this is
-- a step of it. Where a tuple is dropped that was unnamed at the opening, it is none of these any more.
abbrev pub StepMakes : IndexShape → (s : ℕ) → (old new : GrowthAt) → Point → Type 0
StepMakes shape s old new point = (range : ℕ) (w : IndexView) → Shows shape old.pages old.lock w → IsNeeded w.pages range old.hand.stage
    → Knows w s (Maintaining range (phase_of shape old.hand)) → KnowsPages w s (Maintaining range (phase_of shape old.hand))
    → (unnamed : Spot → Bool) × IsFewer w.unnamed unnamed
    × SummariseMakes s range w (shown_part shape new.pages new.lock unnamed) (phase_of shape old.hand) (Maintaining range (phase_of shape new.hand)) point 0

-- in each such index as many pages of the map are counted then
abbrev pub StepCounts : IndexShape → (s : ℕ) → (old new : GrowthAt) → (count : ℕ) → Type 0
StepCounts shape s old new count = (range : ℕ) (w : IndexView) → Shows shape old.pages old.lock w → IsNeeded w.pages range old.hand.stage
    → Knows w s (Maintaining range (phase_of shape old.hand)) → new.pages.pages.map_pages ≡ count

-- the growth waits for the lock of this page
abbrev pub StepWaits : IndexShape → (s : ℕ) → GrowthAt → (page : ℕ) → Type 0
StepWaits shape s old page = (range : ℕ) (w : IndexView) → Shows shape old.pages old.lock w → IsNeeded w.pages range old.hand.stage
    → Knows w s (Maintaining range (phase_of shape old.hand)) → IsPhaseWaiting w s range (phase_of shape old.hand) page

-- no page is left for the map, or for a tuple that is to be moved, of so many that the index may have
abbrev pub StepFull : IndexShape → (s : ℕ) → GrowthAt → (number : ℕ) → Type 0
StepFull shape s old number = (range : ℕ) (w : IndexView) → Shows shape old.pages old.lock w → IsNeeded w.pages range old.hand.stage
    → IsPhaseFull w s range (phase_of shape old.hand) number

-- What a step did: it goes on, with as many pages counted as before; or it is done, and one page more is; or it waits, and is where it was.
abbrev pub Stepped : IndexShape → (s : ℕ) → (old new : GrowthAt) → Did → Type 0
Stepped shape s old new (did.Moved point) = StepMakes shape s old new point × StepCounts shape s old new old.pages.pages.map_pages
Stepped shape s old new (did.Finished point) = StepMakes shape s old new point × StepCounts shape s old new (next_map_page old.pages.pages)
Stepped shape s old new (did.Blocked held) = StepWaits shape s old held.page.block
Stepped shape s old new (did.NoRight by) = ⊥

-- a step of the growth, over the pages and locks of a store before and after it
abbrev pub StepsAt : DiskLayout → (old new : PageMap) → (locks locked : LockState) → (s : ℕ) → (before after : GrowthHand) → Did → Type 0
StepsAt layout old new locks locked s before after done =
    Stepped (shape_of layout before.index) s (growth_at layout old locks before) (growth_at layout new locked after) done

-- Where it stands after a step, of any disk: the count of the page is the last one, and a step that waits leaves what it has in hand, at
-- a stage at which it takes locks. No step lacks the summarise lock.
abbrev pub StandsAfter : (old new : GrowthHand) → Did → Type 0
StandsAfter old new (did.Moved point) = new.index ≡ old.index
StandsAfter old new (did.Finished point) = (new.index ≡ old.index) × (new.stage ≡ stages.Judge) × (point ≡ points.Meta)
StandsAfter old new (did.Blocked held) = (old.stage ≡ stages.Judge) × RestsAt old.stage old new
StandsAfter old new (did.NoRight by) = ⊥
