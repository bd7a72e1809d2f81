-- a summarise over the ranges of an index, and what each of its steps does
use Rattle.std.specs.Prelude.{◌≡◌, ◌≢◌, ℕ, ◌+◌, ◌*◌, ◌/◌, ◌≤◌, ◌<◌, List, length, slice_set, Option, Some}
use Rattle.block_model.specs.declared.reply.Point.{Point}
use Rattle.block_model.specs.declared.reply.Point.TheVariants as points
use Rattle.disk_trait.specs.Told.{Told}
use Rattle.store_layout.specs.DiskLayout.{DiskLayout}
use Rattle.page_layout.specs.PageContents.{Slot}
use Rattle.page_map.specs.Keeps.{Keeps}
use Rattle.page_map.specs.PageMap.{PageMap, View}
use Rattle.page_locks.specs.declared.did.Did.{Did}
use Rattle.page_locks.specs.declared.did.Did.TheVariants as did
use Rattle.page_locks.specs.declared.held.Held.{Held}
use Rattle.page_locks.specs.LockHolders.{LockState}
use Rattle.page_locks.specs.RightHolders.{right_of}
use Rattle.index_contents.specs.IndexContents.{contents}
use Rattle.index_steps.specs.IndexTuples.{index_at, shape_of}
use Rattle.summarise_core.specs.declared.course.Course.{Course}
use Rattle.summarise_core.specs.declared.course.Standing.{Standing}
use Rattle.summarise_core.specs.declared.course.Standing.TheVariants as standings
use Rattle.summarise_core.specs.declared.wish.Wish.{Wish}
use Rattle.summarise_core.specs.declared.wish.Wish.TheVariants as wishes
use Rattle.summarise_core.specs.ShownHeap.{heap_of}
use Rattle.summarise_core.specs.ExactSummaries.{IsExactAt}
use Rattle.summarise_core.specs.StageLocks.{GivesAt, held_at, taken_at}
use Rattle.summarise_core.specs.StepCauses.{DamageAt, IsReady}
use Rattle.summarise_core.specs.SummariseHands.{IsHandOf, SummariseHand, begun, table_of}
use Rattle.summarise_core.specs.SummariseSteps.{IsAtWork, RestsAt, StepFull, StepsAt, made_at, summarise_at}

-- A summarise: its index; what is asked for; where it stands; the extent that it read; the range that it is at, and to how many ranges
-- before that one it gave a final tuple; and what it has in hand of the range.
pub record SummariseState : Type 0 where
  pub index : ℕ
  pub wish : Wish
  pub standing : Standing
  pub extent : ℕ
  pub range : ℕ
  pub made : ℕ
  pub hand : SummariseHand

abbrev pub state_of : ℕ → Course → SummariseHand → SummariseState
state_of index course hand = record {
  index = index;
  wish = course.wish;
  standing = course.standing;
  extent = course.extent;
  range = course.range;
  made = course.made;
  hand = hand;
}

-- how many heap blocks a range of the index has
abbrev pub in_range_of : DiskLayout → ℕ → ℕ
in_range_of layout index = (index_at layout index).pages_per_range

-- the first range that it looks at
abbrev pub first_of : Wish → (in_range : ℕ) → ℕ
first_of wishes.New in_range = 0
first_of (wishes.Block block) in_range = block / in_range
first_of wishes.Complete in_range = 0

-- it goes over this range: its first block is below the extent, and it is the one that is asked for, if one is; or all its blocks are below
abbrev pub GoesOver : Wish → (in_range extent range : ℕ) → Type 0
GoesOver wishes.New in_range extent range = range * in_range < extent
GoesOver (wishes.Block block) in_range extent range = (range ≡ block / in_range) × (range * in_range < extent)
GoesOver wishes.Complete in_range extent range = (range + 1) * in_range ≤ extent

-- It is one of an index of the layout. Where it is at a range, it goes over that one, and has work there.
pub record IsSummariseOf (layout : DiskLayout) (a : SummariseState) : Type 0 where
  pub index : a.index < length layout.schema.indexes
  pub hand : IsHandOf layout a.index a.hand
  pub extent : a.extent ≤ layout.sizes.heap_blocks
  pub few : a.made ≤ 131072
  pub at_range : a.standing ≡ standings.AtRange → GoesOver a.wish (in_range_of layout a.index) a.extent a.range × (a.made ≤ a.range) × (a.range < 131072) × IsAtWork a.hand.stage

-- how many ranges it has given a final tuple
abbrev pub count_at : SummariseState → Standing → ℕ
count_at a standings.Begins = 0
count_at a standings.AtRange = a.made + made_at a.hand.stage
count_at a standings.Done = a.made

abbrev pub count_of : SummariseState → ℕ
count_of a = count_at a a.standing

-- where it stands after a step, of any disk: at a range, or done; or as it was, waiting for a page at its range, or for the summarise lock
abbrev pub StandsThen : (old new : SummariseState) → Did → Type 0
StandsThen old new (did.Moved point) = new.standing ≡ standings.AtRange
StandsThen old new (did.Finished point) = new.standing ≡ standings.Done
StandsThen old new (did.Blocked held) = (old.standing ≡ standings.AtRange) × (0 < taken_at old.hand.growth.stage old.hand.stage) × (new ≡ record old { hand = new.hand }) × RestsAt old.hand.stage old.hand new.hand
StandsThen old new (did.NoRight by) = (old.standing ≡ standings.Begins) × (new ≡ old)

-- at most so many page locks does its next step take, and at most so many are its own before it; and that step gives all
abbrev pub taken_in : SummariseState → Standing → ℕ
taken_in a standings.AtRange = taken_at a.hand.growth.stage a.hand.stage
taken_in a standing = 0

abbrev pub taken_by : SummariseState → ℕ
taken_by a = taken_in a a.standing

abbrev pub held_in : SummariseState → Standing → ℕ
held_in a standings.AtRange = held_at a.hand.growth.stage a.hand.stage
held_in a standing = 0

abbrev pub held_by : SummariseState → ℕ
held_by a = held_in a a.standing

abbrev pub GivesBy : SummariseState → Type 0
GivesBy a = (a.standing ≡ standings.AtRange) × GivesAt a.hand.growth.stage a.hand.stage

-- a store, its page locks and its summarise locks before a step of an actor and after it, and the blocks of the heap
pub record StoreStep : Type 0 where
  pub layout : DiskLayout
  pub pages : PageMap
  pub paged : PageMap
  pub locks : LockState
  pub locked : LockState
  pub rights : List (Option ℕ)
  pub righted : List (Option ℕ)
  pub actor : ℕ
  pub blocks : List (List Slot)

-- nothing of it changes
pub record StoreStays (step : StoreStep) : Type 0 where
  pub pages : step.paged ≡ step.pages
  pub locks : step.locked ≡ step.locks
  pub rights : step.righted ≡ step.rights

-- nobody but the actor held the table's summarise lock, and now the actor holds it; no page and no page lock changes
pub record TakesRight (step : StoreStep) (table : ℕ) : Type 0 where
  pub free : (n : ℕ) → right_of step.rights table ≡ Some n → n ≡ step.actor
  pub taken : step.righted ≡ slice_set step.rights table (Some step.actor)
  pub pages : step.paged ≡ step.pages
  pub locks : step.locked ≡ step.locks

-- its work at the range makes a step, after which it has this in hand
abbrev pub WorksAt : StoreStep → SummariseState → SummariseHand → Did → Type 0
WorksAt step a hand answer =
    StepsAt step.layout step.pages step.paged step.locks step.locked (record { index = a.index; range = a.range; actor = step.actor })
    (heap_of step.layout a.index step.blocks) a.hand hand answer

-- under this point it comes to its range, if that is one that it goes over; else it is done
pub data ComesTo (in_range : ℕ) (a : SummariseState) (point : Point) : SummariseState → Did → Type 0 where
  RangeIsNext : GoesOver a.wish in_range a.extent a.range
      → ComesTo in_range a point (record a { standing = standings.AtRange; hand = begun a.hand }) (did.Moved point)
  NoneIsLeft : (GoesOver a.wish in_range a.extent a.range → ⊥) → ComesTo in_range a point (record a { standing = standings.Done }) (did.Finished point)

-- the extent is read, and its first range comes; or a range is done, and the one behind it comes
abbrev pub at_first : DiskLayout → (extent : ℕ) → SummariseState → SummariseState
at_first layout extent a = record a { extent = extent; range = first_of a.wish (in_range_of layout a.index); made = 0 }

abbrev pub after_range : SummariseState → SummariseHand → SummariseState
after_range a hand = record a { range = a.range + 1; made = a.made + made_at hand.stage; hand = hand }

-- What a step of a summarise does, and where it leaves it.
pub data SummariseDoes (step : StoreStep) (a : SummariseState) : SummariseState → Did → Type 0 where
  -- another actor holds the summarise lock
  LacksRight : (by : ℕ) → a.standing ≡ standings.Begins → right_of step.rights (table_of step.layout a.index) ≡ Some by → by ≢ step.actor → StoreStays step
      → SummariseDoes step a a (did.NoRight by)
  -- it takes the summarise lock, and reads the extent
  Begins : (b : SummariseState) (answer : Did) → a.standing ≡ standings.Begins → TakesRight step (table_of step.layout a.index)
      → ComesTo (in_range_of step.layout a.index) (at_first step.layout (length step.blocks) a) points.Right b answer → SummariseDoes step a b answer
  -- it stays at its range, or waits there
  GoesOn : (hand : SummariseHand) (point : Point) → a.standing ≡ standings.AtRange → WorksAt step a hand (did.Moved point) → step.righted ≡ step.rights
      → SummariseDoes step a (record a { hand = hand }) (did.Moved point)
  Waits : (hand : SummariseHand) (held : Held) → a.standing ≡ standings.AtRange → WorksAt step a hand (did.Blocked held) → step.righted ≡ step.rights
      → SummariseDoes step a (record a { hand = hand }) (did.Blocked held)
  -- its range is done
  EndsRange : (hand : SummariseHand) (point : Point) (b : SummariseState) (answer : Did) → a.standing ≡ standings.AtRange
      → WorksAt step a hand (did.Finished point)
      → step.righted ≡ step.rights
      → ComesTo (in_range_of step.layout a.index) (after_range a hand) point b answer → SummariseDoes step a b answer

abbrev pub step_of : DiskLayout → (pages paged : PageMap) → (locks locked : LockState) → (rights righted : List (Option ℕ)) → (actor : ℕ) → List (List Slot) → StoreStep
step_of layout pages paged locks locked rights righted actor blocks = record {
  layout = layout;
  pages = pages;
  paged = paged;
  locks = locks;
  locked = locked;
  rights = rights;
  righted = righted;
  actor = actor;
  blocks = blocks;
}

-- of any disk, the first step tells who holds the summarise lock where that is another actor, and else takes it; no later one touches it
abbrev pub RightAnswers : (table actor : ℕ) → (rights righted : List (Option ℕ)) → Standing → Did → Type 0
RightAnswers table actor rights righted standings.Begins (did.NoRight by) = (right_of rights table ≡ Some by) × (by ≢ actor) × (righted ≡ rights)
RightAnswers table actor rights righted standings.Begins answer = ((n : ℕ) → right_of rights table ≡ Some n → n ≡ actor) × (righted ≡ slice_set rights table (Some actor))
RightAnswers table actor rights righted standing answer = righted ≡ rights

-- of any disk, a step that lacks the summarise lock changes no page and no page lock
abbrev pub StaysWithoutRight : {D : Type 0} → (D → Told) → (old new : View D) → (before after : LockState) → Did → Type 0
StaysWithoutRight told old new before after (did.NoRight by) = (after ≡ before) × Keeps told old new
StaysWithoutRight told old new before after answer = Unit {0}

-- what its step needs of the pages, where it finds the index full, and where it finds damage: as its work at the range does
abbrev pub ReadyAt : DiskLayout → PageMap → SummariseState → Type 0
ReadyAt layout pages a = a.standing ≡ standings.AtRange → IsReady (shape_of layout a.index) (contents layout pages a.index) a.range a.hand.growth.stage a.hand.stage

abbrev pub FullAt : DiskLayout → PageMap → LockState → (actor : ℕ) → SummariseState → (number : ℕ) → Type 0
FullAt layout pages locks actor a number =
    (a.standing ≡ standings.AtRange) × StepFull (shape_of layout a.index) actor a.range (summarise_at layout pages locks a.index a.hand) number

abbrev pub DamageIn : DiskLayout → PageMap → SummariseState → Type 0
DamageIn layout pages a = (a.standing ≡ standings.AtRange) × DamageAt layout pages a.index a.range a.hand a.hand.stage

-- what it has of the range that it is at is exact, as long as the rows of the table stay
abbrev pub IsExactNow : DiskLayout → List (List Slot) → SummariseState → Type 0
IsExactNow layout blocks a = a.standing ≡ standings.AtRange → IsExactAt (shape_of layout a.index) (heap_of layout a.index blocks) a.range a.hand a.hand.stage

-- it stays so
pub record KeepsExact (layout : DiskLayout) (blocks : List (List Slot)) (old new : SummariseState) : Type 0 where
  pub keeps : IsExactNow layout blocks old → IsExactNow layout blocks new
