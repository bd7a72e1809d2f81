-- what a summarise has of an index between its steps at a range, and what each step makes of the index
use Rattle.std.specs.Prelude.{◌≡◌, ℕ, ◌+◌, ◌<◌, Bool, Option}
use Rattle.block_model.specs.declared.place.Spot.{Spot}
use Rattle.block_model.specs.declared.reply.Point.{Point}
use Rattle.store_layout.specs.DiskLayout.{DiskLayout}
use Rattle.page_map.specs.PageMap.{PageMap}
use Rattle.page_locks.specs.declared.did.Did.{Did}
use Rattle.page_locks.specs.declared.did.Did.TheVariants as did
use Rattle.page_locks.specs.LockHolders.{LockState}
use Rattle.range_tuple.specs.TupleBytes.{tuple_bytes}
use Rattle.coverage.specs.IndexPart.{SummariseMakes}
use Rattle.coverage.specs.IndexView.{IndexView, IsRangeOf, Progress, ExtentUnread, Passing}
use Rattle.coverage.specs.Knowing.{Knows}
use Rattle.coverage.specs.PageOrder.{KnowsPages}
use Rattle.coverage.specs.Statements.{Empty, Held, Copied, Moving, Dropping, Phase, NotBuilding, Placing, IsAt, Statement, Holding, Maintaining}
use Rattle.coverage.specs.Waiting.{IsPhaseFull, IsPhaseWaiting}
use Rattle.index_contents.specs.IndexContents.{IndexContents, contents}
use Rattle.index_steps.specs.declared.swapping.Within.{Within}
use Rattle.index_steps.specs.IndexTuples.{IndexShape, seen, shape_of}
use Rattle.index_steps.specs.ShownIndex.{Shows, lock_in, shown_part}
use Rattle.index_steps.specs.declared.growth_stage.Stage.{Stage as GrowthStage}
use Rattle.index_steps.specs.GrowthSteps.{IsFewer, phase_of as growth_phase}
use Rattle.summarise_core.specs.declared.range_stage.Stage.{Stage}
use Rattle.summarise_core.specs.declared.range_stage.Stage.TheVariants as stages
use Rattle.summarise_core.specs.ShownHeap.{Heap, ShowsHeap}
use Rattle.summarise_core.specs.StageLocks.{taken_at}
use Rattle.summarise_core.specs.SummariseHands.{SummariseHand}

-- a summarise at a range: the index's pages, who locks them, and what it has in hand
pub record SummariseAt : Type 0 where
  pub pages : IndexContents
  pub lock : ℕ → Option ℕ
  pub hand : SummariseHand

abbrev pub summarise_at : DiskLayout → PageMap → LockState → (index : ℕ) → SummariseHand → SummariseAt
summarise_at layout pages locks index hand = record { pages = contents layout pages index; lock = lock_in layout locks index; hand = hand }

-- the rows of the blocks below the next one are added to the result
abbrev pub passing_of : IndexShape → SummariseHand → Progress
passing_of shape hand = Passing hand.extent hand.next (seen shape (tuple_bytes hand.running))

-- it, as the protocol's summariser at the range
abbrev pub phase_at : IndexShape → SummariseHand → Stage → Phase
phase_at shape hand stages.Map = NotBuilding Empty
phase_at shape hand (stages.Tuple x) = NotBuilding (Held x)
phase_at shape hand stages.Place = growth_phase shape hand.growth
phase_at shape hand (stages.Name x) = Placing x
phase_at shape hand stages.Extent = IsAt ExtentUnread Empty
phase_at shape hand stages.Pass = IsAt (passing_of shape hand) Empty
phase_at shape hand (stages.Copy x) = IsAt (passing_of shape hand) (Held x)
phase_at shape hand (stages.Swap x) = IsAt (passing_of shape hand) (Copied x (seen shape hand.copied) (seen shape (tuple_bytes hand.united)))
phase_at shape hand (stages.Set x y) = IsAt (passing_of shape hand) (Moving x y (seen shape hand.copied) (seen shape (tuple_bytes hand.united)))
phase_at shape hand (stages.Drop x) = NotBuilding (Dropping x)
phase_at shape hand stages.Had = NotBuilding Empty
phase_at shape hand stages.Made = NotBuilding Empty

abbrev pub phase_of : IndexShape → SummariseHand → Phase
phase_of shape hand = phase_at shape hand hand.stage

-- and as its statement, which only holds the summarise lock once the range is done
abbrev pub statement_at : IndexShape → (range : ℕ) → SummariseHand → Stage → Statement
statement_at shape range hand stages.Had = Holding
statement_at shape range hand stages.Made = Holding
statement_at shape range hand stage = Maintaining range (phase_at shape hand stage)

abbrev pub statement_of : IndexShape → (range : ℕ) → SummariseHand → Statement
statement_of shape range hand = statement_at shape range hand hand.stage

-- it has a step left at the range
abbrev pub IsAtWork : Stage → Type 0
IsAtWork stages.Had = ⊥
IsAtWork stages.Made = ⊥
IsAtWork stage = Unit {0}

abbrev pub IsDone : Stage → Type 0
IsDone stages.Had = Unit {0}
IsDone stages.Made = Unit {0}
IsDone stage = ⊥

-- Where it stands after a step, of any disk: with work left, or with none; or where it was, which takes locks, with the growth at that
-- stage. No step lacks the summarise lock.
abbrev pub StandsAfter : GrowthStage → (old new : Stage) → Did → Type 0
StandsAfter at old new (did.Moved point) = IsAtWork new
StandsAfter at old new (did.Finished point) = IsDone new
StandsAfter at old new (did.Blocked held) = (0 < taken_at at old) × (new ≡ old)
StandsAfter at old new (did.NoRight by) = ⊥

-- it has in hand what it had, but that the placeholder which is to be put, or the tuple that a growth is to move, is there anew
abbrev pub RestsAt : Stage → (old new : SummariseHand) → Type 0
RestsAt stages.Place old new = new ≡ record old { united = new.united; growth = record old.growth { moved = new.growth.moved } }
RestsAt stage old new = new ≡ old

-- so it is, of any disk, where a step is blocked
abbrev pub RestsBlocked : (old new : SummariseHand) → Did → Type 0
RestsBlocked old new (did.Blocked held) = RestsAt old.stage old new
RestsBlocked old new done = Unit {0}

-- how many final tuples the map came to name by it at this range
abbrev pub made_at : Stage → ℕ
made_at (stages.Drop x) = 1
made_at stages.Made = 1
made_at stage = 0

-- Of each index and heap that pages and locks showed, where the range is one of the table and the summarise knows what it has to, this is
-- a step of it, which counts so many ranges. Where the map's growth drops a tuple that was unnamed at the opening, it is none of these any
-- more.
abbrev pub StepMakes : IndexShape → Heap → (s range : ℕ) → (old new : SummariseAt) → Point → (count : ℕ) → Type 0
StepMakes shape heap s range old new point count = (w : IndexView) → Shows shape old.pages old.lock w → ShowsHeap heap w → IsRangeOf w range
    → Knows w s (Maintaining range (phase_of shape old.hand)) → KnowsPages w s (Maintaining range (phase_of shape old.hand))
    → (unnamed : Spot → Bool) × IsFewer w.unnamed unnamed
    × SummariseMakes s range w (shown_part shape new.pages new.lock unnamed) (phase_of shape old.hand) (statement_of shape range new.hand) point count

-- the summarise waits for the lock of this page
abbrev pub StepWaits : IndexShape → Heap → (s range : ℕ) → SummariseAt → (page : ℕ) → Type 0
StepWaits shape heap s range old page = (w : IndexView) → Shows shape old.pages old.lock w → ShowsHeap heap w
    → Knows w s (Maintaining range (phase_of shape old.hand)) → IsPhaseWaiting w s range (phase_of shape old.hand) page

-- no page is left for the tuple that it has to put, of so many that the index may have
abbrev pub StepFull : IndexShape → (s range : ℕ) → SummariseAt → (number : ℕ) → Type 0
StepFull shape s range old number = (w : IndexView) → Shows shape old.pages old.lock w → IsPhaseFull w s range (phase_of shape old.hand) number

-- a step that counts as the ranges that are made say
abbrev pub StepCounts : IndexShape → Heap → (s range : ℕ) → (old new : SummariseAt) → Point → Type 0
StepCounts shape heap s range old new point =
    (count : ℕ) × StepMakes shape heap s range old new point count × (made_at new.hand.stage ≡ made_at old.hand.stage + count)

-- What a step did: it goes on, or the range is done; or it waits, and is where it was.
abbrev pub Stepped : IndexShape → Heap → (s range : ℕ) → (old new : SummariseAt) → Did → Type 0
Stepped shape heap s range old new (did.Moved point) = StepCounts shape heap s range old new point × IsAtWork new.hand.stage
Stepped shape heap s range old new (did.Finished point) = StepCounts shape heap s range old new point × IsDone new.hand.stage
Stepped shape heap s range old new (did.Blocked held) = StepWaits shape heap s range old held.page.block × (new.hand.stage ≡ old.hand.stage)
    × (phase_of shape new.hand ≡ phase_of shape old.hand)
Stepped shape heap s range old new (did.NoRight by) = ⊥

-- a step of the summarise at the range, over the pages and locks of a store before and after it
abbrev pub StepsAt : DiskLayout → (old new : PageMap) → (locks locked : LockState) → Within → Heap → (before after : SummariseHand) → Did → Type 0
StepsAt layout old new locks locked at heap before after done =
    Stepped (shape_of layout at.index) heap at.actor at.range (summarise_at layout old locks at.index before) (summarise_at layout new locked at.index after) done
