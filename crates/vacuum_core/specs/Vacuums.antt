-- the cleaning part of a vacuum, and what each of its steps does
use Rattle.std.specs.Prelude.{◌≡◌, ◌≢◌, ◌⊎◌, ℕ, ◌+◌, ◌*◌, ◌≤◌, ◌<◌, List, length, drop, slice_get, slice_index_or, slice_set, Option, None, Some}
use Rattle.block_model.specs.declared.place.Place.{Place}
use Rattle.block_model.specs.declared.reply.Point.{Point}
use Rattle.block_model.specs.declared.reply.Point.TheVariants as points
use Rattle.disk_trait.specs.Told.{Told}
use Rattle.store_layout.specs.DiskLayout.{DiskLayout, IsPlace, page_offset}
use Rattle.page_layout.specs.PageContents.{Slot}
use Rattle.page_map.specs.Keeps.{Keeps}
use Rattle.page_map.specs.PageMap.{PageMap, View}
use Rattle.page_map.specs.declared.faults.MachineFault.{MachineFault}
use Rattle.page_map.specs.declared.faults.MachineFault.TheVariants as faults
use Rattle.page_map.specs.declared.faults.StoreError.{StoreError}
use Rattle.page_map.specs.declared.faults.StoreError.TheVariants as errors
use Rattle.page_locks.specs.declared.did.Did.{Did}
use Rattle.page_locks.specs.declared.did.Did.TheVariants as did
use Rattle.page_locks.specs.declared.held.Held.{Held}
use Rattle.page_locks.specs.LockChanges.{IsAnothers, IsFreeFor, page_of}
use Rattle.page_locks.specs.LockHolders.{LockState, holder}
use Rattle.page_locks.specs.RightHolders.{right_of}
use Rattle.coverage.specs.Counts.{HasGone, IsCountOf}
use Rattle.heap_rows.specs.HeapBlocks.{HasBlocks, OfBlocks}
use Rattle.heap_rows.specs.Heaps.{relation_of as table_relation, slots_a_page}
use Rattle.heap_rows.specs.LeavesOthers.{LeavesOthers as LeavesOtherTables}
use Rattle.snapshot_core.specs.declared.snapshots.Snapshot.{Snapshot}
use Rattle.tx_table.specs.Statuses.{OfStatuses, status_relation}
use Rattle.index_contents.specs.IndexContents.{contents, relation_of}
use Rattle.index_contents.specs.IndexChanges.{LeavesOtherPages, LeavesOthers}
use Rattle.index_steps.specs.ShownTable.{indexes_of}
use Rattle.vacuum_core.specs.declared.standing.Course.{Course}
use Rattle.vacuum_core.specs.declared.standing.Standing.{Standing}
use Rattle.vacuum_core.specs.declared.standing.Standing.TheVariants as standings
use Rattle.vacuum_core.specs.DeadRows.{DropsFrom, DropsTheDead, living}
use Rattle.vacuum_core.specs.NextPages.{IsNextIn}
use Rattle.vacuum_core.specs.SweptPages.{SweepsPage}

-- A vacuum: its table, and the numbers of the table's indexes; where it stands; the extent that it read; how many rows and unnamed tuples
-- it dropped; and how many rows of a block it has room for, read and to be dropped.
pub record VacuumState : Type 0 where
  pub table : ℕ
  pub indexes : List ℕ
  pub standing : Standing
  pub extent : ℕ
  pub rows : ℕ
  pub unnamed : ℕ
  pub room : ℕ
  pub dead_room : ℕ

abbrev pub state_of : (table : ℕ) (indexes : List ℕ) → Course → (room dead_room : ℕ) → VacuumState
state_of table indexes course room dead_room = record {
  table = table;
  indexes = indexes;
  standing = course.standing;
  extent = course.extent;
  rows = course.rows;
  unnamed = course.unnamed;
  room = room;
  dead_room = dead_room;
}

-- it stands at a block below the extent, or at a page that an index of the table may have; and the counts have not passed their bounds
abbrev pub StandsWell : DiskLayout → VacuumState → Standing → Type 0
StandsWell layout a standings.Begins = (a.rows ≡ 0) × (a.unnamed ≡ 0)
StandsWell layout a (standings.Prunes block) = (block < a.extent) × (a.rows ≤ 65536 * block) × (a.unnamed ≡ 0)
StandsWell layout a (standings.Sweeps at block) = (at < length a.indexes) × (block < layout.sizes.index_blocks) × (a.rows ≤ 65536 * 131072)
    × (a.unnamed ≤ 65536 * (at * 16384 + block))
StandsWell layout a standings.Done = Unit {0}

-- it is one of a table of the layout
pub record IsVacuumOf (layout : DiskLayout) (a : VacuumState) : Type 0 where
  pub table : a.table < length layout.schema.tables
  pub indexes : a.indexes ≡ indexes_of layout a.table
  pub few : length a.indexes ≤ 8
  pub extent : a.extent ≤ layout.sizes.heap_blocks
  pub room : slots_a_page layout a.table ≤ a.room
  pub dead_room : slots_a_page layout a.table ≤ a.dead_room
  pub stands : StandsWell layout a a.standing

-- the started pages of the table are its first ones
pub record HasHeap (layout : DiskLayout) (pages : PageMap) (table : ℕ) : Type 0 where
  pub blocks : List (List Slot)
  pub has : HasBlocks layout pages table blocks

-- where it stands after a step, of any disk: at a block or a page, or done; or as it was, waiting for a page's lock or the summarise lock
abbrev pub IsUnderWay : Standing → Type 0
IsUnderWay (standings.Prunes block) = Unit {0}
IsUnderWay (standings.Sweeps at block) = Unit {0}
IsUnderWay standing = ⊥

abbrev pub IsSweeping : Standing → Type 0
IsSweeping (standings.Sweeps at block) = Unit {0}
IsSweeping standing = ⊥

abbrev pub StandsThen : (old new : VacuumState) → Did → Type 0
StandsThen old new (did.Moved point) = IsUnderWay new.standing
StandsThen old new (did.Finished point) = new.standing ≡ standings.Done
StandsThen old new (did.Blocked held) = IsSweeping old.standing × (new ≡ old)
StandsThen old new (did.NoRight by) = (old.standing ≡ standings.Begins) × (new ≡ old)

-- a store, its page locks and its summarise locks before a step of an actor and after it, and the blocks of the heap before and after
pub record VacuumStep : Type 0 where
  pub layout : DiskLayout
  pub pages : PageMap
  pub paged : PageMap
  pub locks : LockState
  pub rights : List (Option ℕ)
  pub righted : List (Option ℕ)
  pub actor : ℕ
  pub blocks : List (List Slot)
  pub blocked : List (List Slot)

abbrev pub step_of : DiskLayout → (pages paged : PageMap) → LockState → (rights righted : List (Option ℕ)) → (actor : ℕ) → (blocks blocked : List (List Slot)) → VacuumStep
step_of layout pages paged locks rights righted actor blocks blocked = record {
  layout = layout;
  pages = pages;
  paged = paged;
  locks = locks;
  rights = rights;
  righted = righted;
  actor = actor;
  blocks = blocks;
  blocked = blocked;
}

-- what no index and no heap loses by a step
abbrev pub SameIndexes : VacuumStep → Type 0
SameIndexes step = (index : ℕ) → contents step.layout step.paged index ≡ contents step.layout step.pages index

-- nobody but the actor held the table's summarise lock, and now the actor holds it; no page changes
pub record TakesRight (step : VacuumStep) (table : ℕ) : Type 0 where
  pub free : (n : ℕ) → right_of step.rights table ≡ Some n → n ≡ step.actor
  pub taken : step.righted ≡ slice_set step.rights table (Some step.actor)
  pub pages : step.paged ≡ step.pages
  pub blocks : step.blocked ≡ step.blocks

-- nothing changes
pub record StoreStays (step : VacuumStep) : Type 0 where
  pub pages : step.paged ≡ step.pages
  pub blocks : step.blocked ≡ step.blocks
  pub rights : step.righted ≡ step.rights

-- where it stands at the next page with tuples; with none it is done
abbrev pub standing_at : Option (ℕ × ℕ) → Standing
standing_at None = standings.Done
standing_at (Some (at, block)) = standings.Sweeps at block

-- where it stands at a block of the heap; behind the extent, at the first page with tuples
pub data ComesTo (layout : DiskLayout) (stored : PageMap) (indexes : List ℕ) (extent block : ℕ) : Standing → Type 0 where
  ToBlock : block < extent → ComesTo layout stored indexes extent block (standings.Prunes block)
  ToPages : (next : Option (ℕ × ℕ)) → extent ≤ block → IsNextIn layout stored indexes 0 0 next → ComesTo layout stored indexes extent block (standing_at next)

-- a step goes on, or was the last one
abbrev pub answer_at : Point → Standing → Did
answer_at point standings.Begins = did.Moved point
answer_at point (standings.Prunes block) = did.Moved point
answer_at point (standings.Sweeps at block) = did.Moved point
answer_at point standings.Done = did.Finished point

-- the tuples of a page that the map doesn't name are dropped, so many, under the page's lock; the other indexes stay
pub record Sweeps (step : VacuumStep) (index block count : ℕ) : Type 0 where
  pub free : IsFreeFor (holder step.locks) step.actor (page_of (relation_of step.layout index) block)
  pub swept : SweepsPage (contents step.layout step.pages index) (contents step.layout step.paged index) block
  pub counted : IsCountOf (λ k. HasGone ((contents step.layout step.pages index).bytes (record { block = block; slot = k })) ((contents step.layout step.paged index).bytes (record { block = block; slot = k }))) count
  pub others : (other : ℕ) → other ≢ index → contents step.layout step.paged other ≡ contents step.layout step.pages other
  pub blocks : step.blocked ≡ step.blocks
  pub rights : step.righted ≡ step.rights

-- What a step of a vacuum does, and where it leaves it.
pub data VacuumDoes (step : VacuumStep) (a : VacuumState) : VacuumState → Did → Type 0 where
  -- another actor holds the summarise lock
  LacksRight : (by : ℕ) → a.standing ≡ standings.Begins → right_of step.rights a.table ≡ Some by → by ≢ step.actor → StoreStays step → VacuumDoes step a a (did.NoRight by)
  -- it takes the summarise lock, and reads the extent
  Begins : (next : Standing) → a.standing ≡ standings.Begins → TakesRight step a.table → ComesTo step.layout step.pages a.indexes (length step.blocks) 0 next
      → VacuumDoes step a (record a { standing = next; extent = length step.blocks; rows = 0; unnamed = 0 }) (answer_at points.Right next)
  -- rows of its block are dropped, so many
  PrunesBlock : (block count : ℕ) (next : Standing) → a.standing ≡ standings.Prunes block → DropsFrom step.blocks step.blocked block count → SameIndexes step → step.righted ≡ step.rights
      → ComesTo step.layout step.pages a.indexes a.extent (block + 1) next → VacuumDoes step a (record a { standing = next; rows = a.rows + count }) (answer_at points.Prune next)
  -- tuples of its page are dropped, so many
  SweepsPageOf : (at block index count : ℕ) (next : Option (ℕ × ℕ)) → a.standing ≡ standings.Sweeps at block → slice_get a.indexes at ≡ Some index → Sweeps step index block count
      → IsNextIn step.layout step.pages (drop at a.indexes) at (block + 1) next
      → VacuumDoes step a (record a { standing = standing_at next; unnamed = a.unnamed + count }) (answer_at points.Sweep (standing_at next))
  -- another actor holds the lock of its page
  Waits : (at block index : ℕ) (held : Held) → a.standing ≡ standings.Sweeps at block → slice_get a.indexes at ≡ Some index → held.page ≡ page_of (relation_of step.layout index) block
      → IsAnothers (holder step.locks) step.actor (page_of (relation_of step.layout index) block) held.by → StoreStays step → VacuumDoes step a a (did.Blocked held)

-- of any disk, the first step tells who holds the summarise lock where that is another actor, and else takes it; no later one touches it
abbrev pub RightAnswers : (table actor : ℕ) → (rights righted : List (Option ℕ)) → Standing → Did → Type 0
RightAnswers table actor rights righted standings.Begins (did.NoRight by) = (right_of rights table ≡ Some by) × (by ≢ actor) × (righted ≡ rights)
RightAnswers table actor rights righted standings.Begins answer = ((n : ℕ) → right_of rights table ≡ Some n → n ≡ actor) × (righted ≡ slice_set rights table (Some actor))
RightAnswers table actor rights righted standing answer = righted ≡ rights

-- the index of that place
abbrev pub index_of : VacuumState → (at : ℕ) → ℕ
index_of a at = slice_index_or a.indexes at 0

-- what a step leaves: of a block of the heap, every other relation; of a page of an index, every other page; else every page
abbrev pub LeavesTheRest : {D : Type 0} → (D → Told) → VacuumState → Standing → (old new : View D) → Type 0
LeavesTheRest told a standings.Begins old new = Keeps told old new
LeavesTheRest told a (standings.Prunes block) old new = LeavesOtherTables told a.table old new
LeavesTheRest told a (standings.Sweeps at block) old new = LeavesOthers told (index_of a at) old new × LeavesOtherPages told (page_of (relation_of old.layout (index_of a at)) block) old new
LeavesTheRest told a standings.Done old new = Keeps told old new

-- a step that waits leaves the pages, and names its page and the other actor that holds its lock
abbrev pub BlockedAt : {D : Type 0} → (D → Told) → VacuumState → (actor : ℕ) → View D → View D → LockState → Standing → Did → Type 0
BlockedAt told a actor old new locks (standings.Sweeps at block) (did.Blocked held) = (held.page ≡ page_of (relation_of old.layout (index_of a at)) block)
    × IsAnothers (holder locks) actor (page_of (relation_of old.layout (index_of a at)) block) held.by × Keeps told old new
BlockedAt told a actor old new locks standing (did.Blocked held) = ⊥
BlockedAt told a actor old new locks standing answer = Unit {0}

-- the heap of the table, the statuses, and the indexes
abbrev pub IsOfVacuum : DiskLayout → (table relation : ℕ) → Type 0
IsOfVacuum layout table relation = (relation ≡ table_relation table) ⊎ ((relation ≡ status_relation) ⊎ ((index : ℕ) × (relation ≡ relation_of layout index)))

-- damage is told by the byte of the disk at which a page begins that one of these may have
abbrev pub NamesPageRead : DiskLayout → (table : ℕ) → StoreError → Type 0
NamesPageRead layout table (errors.Damaged at) = (place : Place) × IsPlace layout place × (at ≡ page_offset layout place) × IsOfVacuum layout table place.relation
NamesPageRead layout table error = Unit {0}

-- a vacuum is refused by the page store alone
abbrev pub FaultNamesPage : DiskLayout → (table : ℕ) → MachineFault → Type 0
FaultNamesPage layout table (faults.Store error) = NamesPageRead layout table error
FaultNamesPage layout table fault = ⊥

-- a step, by the blocks that the table had, and by those that it has then
abbrev pub DoesOver : {D : Type 0} → (D → Told) → (old new : View D) → LockState → (rights righted : List (Option ℕ)) → (actor : ℕ) → (a b : VacuumState) → Did → Type 0
DoesOver told old new locks rights righted actor a b answer =
    OfBlocks told old a.table (λ blocks. (blocked : List (List Slot)) × HasBlocks old.layout new.pages a.table blocked × VacuumDoes (step_of old.layout old.pages new.pages locks rights righted actor blocks blocked) a b answer)

-- at a block exactly the rows go that are dead to all, by the live snapshots and the statuses that the pages have
abbrev pub PrunesAt : {D : Type 0} → (D → Told) → (old new : View D) → List Snapshot → (first : ℕ) → VacuumState → Standing → Type 0
PrunesAt told old new live first a (standings.Prunes block) =
    OfStatuses told old (λ statuses. OfBlocks told old a.table (λ blocks. (blocked : List (List Slot)) × HasBlocks old.layout new.pages a.table blocked × DropsTheDead (living live first statuses) blocks blocked block))
PrunesAt told old new live first a standing = Unit {0}

-- where it may stand next: at that block, or at a page that one of so many indexes may have
abbrev pub IsNextPlace : DiskLayout → (count extent block : ℕ) → Standing → Type 0
IsNextPlace layout count extent block standings.Begins = ⊥
IsNextPlace layout count extent block (standings.Prunes b) = (b ≡ block) × (block < extent)
IsNextPlace layout count extent block (standings.Sweeps at page) = (at < count) × (page < layout.sizes.index_blocks)
IsNextPlace layout count extent block standings.Done = Unit {0}

-- a step that nobody can make wait
abbrev pub HasMoved : Did → Type 0
HasMoved (did.Blocked held) = ⊥
HasMoved (did.NoRight by) = ⊥
HasMoved answer = Unit {0}

-- a step that has the summarise lock
abbrev pub HasRight : Did → Type 0
HasRight (did.NoRight by) = ⊥
HasRight answer = Unit {0}
