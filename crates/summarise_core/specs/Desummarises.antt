-- a desummarise of a range of an index, and what each of its steps does
use Rattle.std.specs.Prelude.{◌≡◌, ◌≢◌, ℕ, ◌+◌, ◌/◌, ◌<◌, List, length, slice_set, Option, Some}
use Rattle.block_model.specs.declared.reply.Point.{Point}
use Rattle.block_model.specs.declared.reply.Point.TheVariants as points
use Rattle.disk_trait.specs.Told.{Told}
use Rattle.store_layout.specs.DiskLayout.{DiskLayout}
use Rattle.page_layout.specs.PageContents.{Slot}
use Rattle.page_map.specs.Keeps.{Keeps}
use Rattle.page_map.specs.PageMap.{PageMap, View}
use Rattle.page_locks.specs.declared.did.Did.{Did}
use Rattle.page_locks.specs.declared.did.Did.TheVariants as did
use Rattle.page_locks.specs.LockHolders.{LockState}
use Rattle.page_locks.specs.RightHolders.{right_of}
use Rattle.coverage.specs.IndexPart.{DesummariseMakes}
use Rattle.coverage.specs.IndexView.{IndexView}
use Rattle.coverage.specs.Knowing.{Knows}
use Rattle.coverage.specs.Statements.{Empty, Held, Dropping, Phase, NotBuilding, Statement, Holding, Maintaining}
use Rattle.coverage.specs.Verdicts.{ClearVerdict, Waits}
use Rattle.index_contents.specs.IndexContents.{IndexContents, contents}
use Rattle.index_steps.specs.IndexTuples.{IndexShape, index_at, shape_of}
use Rattle.index_steps.specs.Readings.{IsMisnamed}
use Rattle.index_steps.specs.ShownIndex.{Shows, lock_in, shown_part}
use Rattle.summarise_core.specs.declared.desummarise_stage.Stage.{Stage}
use Rattle.summarise_core.specs.declared.desummarise_stage.Stage.TheVariants as stages

-- a desummarise: its index, the heap block whose range is meant, and where it stands
pub record DesummariseState : Type 0 where
  pub index : ℕ
  pub block : ℕ
  pub stage : Stage

abbrev pub state_of : (index block : ℕ) → Stage → DesummariseState
state_of index block stage = record { index = index; block = block; stage = stage }

-- the table of the index, and how many heap blocks a range of it has
abbrev pub table_of : DiskLayout → ℕ → ℕ
table_of layout index = (index_at layout index).table

abbrev pub in_range_of : DiskLayout → ℕ → ℕ
in_range_of layout index = (index_at layout index).pages_per_range

-- the range of its block, which may lie past the table's extent
abbrev pub range_of : DiskLayout → DesummariseState → ℕ
range_of layout a = a.block / in_range_of layout a.index

-- it is one of an index of the layout
pub record IsDesummariseOf (layout : DiskLayout) (a : DesummariseState) : Type 0 where
  pub index : a.index < length layout.schema.indexes

-- it has a step left; one at its range; or none
abbrev pub IsLeft : Stage → Type 0
IsLeft stages.Lacked = ⊥
IsLeft stages.Cleared = ⊥
IsLeft stage = Unit {0}

abbrev pub IsAtWork : Stage → Type 0
IsAtWork stages.Map = Unit {0}
IsAtWork (stages.Clear x) = Unit {0}
IsAtWork (stages.Drop x) = Unit {0}
IsAtWork stage = ⊥

abbrev pub IsDone : Stage → Type 0
IsDone stages.Lacked = Unit {0}
IsDone stages.Cleared = Unit {0}
IsDone stage = ⊥

-- how many entries left the map by it
abbrev pub count_at : Stage → ℕ
count_at (stages.Drop x) = 1
count_at stages.Cleared = 1
count_at stage = 0

-- at most so many page locks does its next step take, and at most so many are its own before it: that of the tuple's page, and that of the
-- map's; the last step gives them
abbrev pub taken_at : Stage → ℕ
taken_at (stages.Clear x) = 2
taken_at stage = 0

abbrev pub held_at : Stage → ℕ
held_at (stages.Drop x) = 2
held_at stage = 0

abbrev pub GivesAt : Stage → Type 0
GivesAt (stages.Drop x) = Unit {0}
GivesAt stage = ⊥

-- where it stands after a step, of any disk: at its range, or done; or where it was, waiting for a page, or for the summarise lock
abbrev pub StandsAfter : (old new : Stage) → Did → Type 0
StandsAfter old new (did.Moved point) = IsAtWork new
StandsAfter old new (did.Finished point) = IsDone new
StandsAfter old new (did.Blocked held) = (0 < taken_at old) × (new ≡ old)
StandsAfter old new (did.NoRight by) = (old ≡ stages.Right) × (new ≡ old)

-- it, as the protocol's desummarise at the range, and as its statement, which only holds the summarise lock once the range is done
abbrev pub phase_at : Stage → Phase
phase_at (stages.Clear x) = NotBuilding (Held x)
phase_at (stages.Drop x) = NotBuilding (Dropping x)
phase_at stage = NotBuilding Empty

abbrev pub statement_at : (range : ℕ) → Stage → Statement
statement_at range stages.Lacked = Holding
statement_at range stages.Cleared = Holding
statement_at range stage = Maintaining range (phase_at stage)

-- a desummarise at a range: the index's pages, who locks them, and where it stands
pub record DesummariseAt : Type 0 where
  pub pages : IndexContents
  pub lock : ℕ → Option ℕ
  pub stage : Stage

abbrev pub desummarise_at : DiskLayout → PageMap → LockState → (index : ℕ) → Stage → DesummariseAt
desummarise_at layout pages locks index stage = record { pages = contents layout pages index; lock = lock_in layout locks index; stage = stage }

-- Of each index that pages and locks showed, where the desummarise knows what it has to, this is a step of it, with which so many ranges
-- lose their entry. The tuples that were unnamed at the opening stay.
abbrev pub StepMakes : IndexShape → (s range : ℕ) → (old new : DesummariseAt) → Point → (count : ℕ) → Type 0
StepMakes shape s range old new point count = (w : IndexView) → Shows shape old.pages old.lock w → Knows w s (Maintaining range (phase_at old.stage))
    → DesummariseMakes s range w (shown_part shape new.pages new.lock w.unnamed) (phase_at old.stage) (statement_at range new.stage) point count

-- it waits for the lock of this page, before it takes the entry out
abbrev pub IsWaitingAt : IndexView → (s range : ℕ) → Stage → (page : ℕ) → Type 0
IsWaitingAt w s range (stages.Clear x) page = ClearVerdict w s range x (Waits page)
IsWaitingAt w s range stage page = ⊥

abbrev pub StepWaits : IndexShape → (s range : ℕ) → DesummariseAt → (page : ℕ) → Type 0
StepWaits shape s range old page = (w : IndexView) → Shows shape old.pages old.lock w → IsWaitingAt w s range old.stage page

-- a step that counts as the entries that left the map say
abbrev pub StepCounts : IndexShape → (s range : ℕ) → (old new : DesummariseAt) → Point → Type 0
StepCounts shape s range old new point = (count : ℕ) × StepMakes shape s range old new point count × (count_at new.stage ≡ count_at old.stage + count)

-- What a step at the range did: it goes on, or the range is done; or it waits, and is where it was.
abbrev pub Stepped : IndexShape → (s range : ℕ) → (old new : DesummariseAt) → Did → Type 0
Stepped shape s range old new (did.Moved point) = StepCounts shape s range old new point × IsAtWork new.stage
Stepped shape s range old new (did.Finished point) = StepCounts shape s range old new point × IsDone new.stage
Stepped shape s range old new (did.Blocked held) = StepWaits shape s range old held.page.block × (new.stage ≡ old.stage)
Stepped shape s range old new (did.NoRight by) = ⊥

-- a step at the range, over the pages and locks of a store before and after it
abbrev pub StepsAt : DiskLayout → (old new : PageMap) → (locks locked : LockState) → (index range s : ℕ) → (before after : Stage) → Did → Type 0
StepsAt layout old new locks locked index range s before after done =
    Stepped (shape_of layout index) s range (desummarise_at layout old locks index before) (desummarise_at layout new locked index after) done

-- a store, its page locks and its summarise locks before a step of an actor and after it, and the blocks of the heap
pub record StoreStep : Type 0 where
  pub layout : DiskLayout
  pub pages : PageMap
  pub paged : PageMap
  pub locks : LockState
  pub locked : LockState
  pub rights : List (Option ℕ)
  pub righted : List (Option ℕ)
  pub actor : ℕ
  pub blocks : List (List Slot)

-- nothing of it changes
pub record StoreStays (step : StoreStep) : Type 0 where
  pub pages : step.paged ≡ step.pages
  pub locks : step.locked ≡ step.locks
  pub rights : step.righted ≡ step.rights

-- nobody but the actor held the table's summarise lock, and now the actor holds it; no page and no page lock changes
pub record TakesRight (step : StoreStep) (table : ℕ) : Type 0 where
  pub free : (n : ℕ) → right_of step.rights table ≡ Some n → n ≡ step.actor
  pub taken : step.righted ≡ slice_set step.rights table (Some step.actor)
  pub pages : step.paged ≡ step.pages
  pub locks : step.locked ≡ step.locks

-- What a step of a desummarise of this range of the index does, and where it leaves it.
pub data StageDoes (step : StoreStep) (index range : ℕ) (old : Stage) : Stage → Did → Type 0 where
  -- another actor holds the summarise lock
  LacksRight : (by : ℕ) → old ≡ stages.Right → right_of step.rights (table_of step.layout index) ≡ Some by → by ≢ step.actor → StoreStays step
      → StageDoes step index range old old (did.NoRight by)
  -- it takes the summarise lock
  Begins : old ≡ stages.Right → TakesRight step (table_of step.layout index) → StageDoes step index range old stages.Map (did.Moved points.Right)
  -- it works at the range
  Works : (new : Stage) (answer : Did) → IsAtWork old
      → StepsAt step.layout step.pages step.paged step.locks step.locked index range step.actor old new answer
      → step.righted ≡ step.rights
      → StageDoes step index range old new answer

-- its index and block stay
pub record DesummariseDoes (step : StoreStep) (a b : DesummariseState) (answer : Did) : Type 0 where
  pub stays : b ≡ record a { stage = b.stage }
  pub does : StageDoes step a.index (range_of step.layout a) a.stage b.stage answer

abbrev pub step_of : DiskLayout → (pages paged : PageMap) → (locks locked : LockState) → (rights righted : List (Option ℕ)) → (actor : ℕ) → List (List Slot) → StoreStep
step_of layout pages paged locks locked rights righted actor blocks = record {
  layout = layout;
  pages = pages;
  paged = paged;
  locks = locks;
  locked = locked;
  rights = rights;
  righted = righted;
  actor = actor;
  blocks = blocks;
}

-- of any disk, the first step tells who holds the summarise lock where that is another actor, and else takes it; no later one touches it
abbrev pub RightAnswers : (table actor : ℕ) → (rights righted : List (Option ℕ)) → Stage → Did → Type 0
RightAnswers table actor rights righted stages.Right (did.NoRight by) = (right_of rights table ≡ Some by) × (by ≢ actor) × (righted ≡ rights)
RightAnswers table actor rights righted stages.Right answer = ((n : ℕ) → right_of rights table ≡ Some n → n ≡ actor) × (righted ≡ slice_set rights table (Some actor))
RightAnswers table actor rights righted stage answer = righted ≡ rights

-- of any disk, a step that lacks the summarise lock changes no page and no page lock
abbrev pub StaysWithoutRight : {D : Type 0} → (D → Told) → (old new : View D) → (before after : LockState) → Did → Type 0
StaysWithoutRight told old new before after (did.NoRight by) = (after ≡ before) × Keeps told old new
StaysWithoutRight told old new before after answer = Unit {0}

-- what is damaged where a step finds damage: the map names a tuple for the range that isn't one of it
abbrev pub DamageAt : DiskLayout → PageMap → (index range : ℕ) → Stage → Type 0
DamageAt layout pages index range stages.Map = IsMisnamed (contents layout pages index) range
DamageAt layout pages index range stage = ⊥

abbrev pub DamageIn : DiskLayout → PageMap → DesummariseState → Type 0
DamageIn layout pages a = DamageAt layout pages a.index (range_of layout a) a.stage
