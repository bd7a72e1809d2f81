-- the order of pages, by their kinds
use Rattle.std.specs.Prelude.{◌≡◌, ◌≢◌, ◌⊎◌, ◌+◌, ◌≤◌, ◌<◌, ℕ, IsTrue, List, length, Result, Ok, Err}
use Rattle.block_model.specs.Causes.{Rose}
use Rattle.block_model.specs.declared.place.Place.{Place}
use Rattle.store_layout.specs.DiskLayout.{DiskLayout, IsPlace, page_offset}
use Rattle.disk_trait.specs.Told.{Told}
use Rattle.page_map.specs.declared.facts.PageFacts.{PageFacts}
use Rattle.page_map.specs.PageFacts.{facts_in}
use Rattle.buffer_pool.specs.PoolState.{PoolState}
use Rattle.page_map.specs.PageMap.{PageMap, block_at, block_limit, page_at}
use Rattle.recovery.specs.PageOrder.{IsIndexInOrder, IsOfTuples, StartsFirst, empty_page, kind_of, map_pages}
use Rattle.recovery.specs.ShownPages.{shown_pages}
use Rattle.recovery.specs.declared.fault.StartFault.{StartFault}
use Rattle.recovery.specs.declared.fault.StartFault.TheVariants.{NoStore, Damaged, Disk, Memory}

-- the kind of the page of a block
abbrev pub kind_in : List PageFacts → ℕ → ℕ
kind_in facts block = (facts_in facts block).kind

-- of the blocks below the limit, the first ones are started
abbrev pub AreFirstStarted : ℕ → List PageFacts → Type 0
AreFirstStarted limit facts = (before block : ℕ) → before < block → block < limit → kind_in facts block ≢ 0 → kind_in facts before ≢ 0

-- the page of the block is started, and one in front of it isn't
abbrev pub IsLate : List PageFacts → ℕ → Type 0
IsLate facts block = (before : ℕ) × (before < block) × (kind_in facts before ≡ 0) × (kind_in facts block ≢ 0)

-- a page of tuples, one that is being evacuated, or one that isn't started
abbrev pub IsTupleKind : ℕ → Type 0
IsTupleKind kind = (kind ≡ 5) ⊎ ((kind ≡ 6) ⊎ (kind ≡ 0))

-- in block 0 of an index with so many map pages its metapage, then those pages; in the block behind them one of the map may stand too
pub record MayStand (maps block kind : ℕ) : Type 0 where
  pub meta : block ≡ 0 → kind ≡ 3
  pub map : 1 ≤ block → block ≤ maps → kind ≡ 4
  pub behind : maps < block → IsTupleKind kind ⊎ ((kind ≡ 4) × (block ≡ maps + 1))

-- all pages of an index are of kinds that may stand where they do, and the first ones are started
pub record HasIndexKinds (limit maps : ℕ) (facts : List PageFacts) : Type 0 where
  pub kinds : (block : ℕ) → block < limit → MayStand maps block (kind_in facts block)
  pub first : AreFirstStarted limit facts

-- the pages of one relation stand in order: statuses are started, of a table the first ones, and an index is in order
pub record OrderedAt (layout : DiskLayout) (pages : PageMap) (n : ℕ) : Type 0 where
  pub statuses : n ≡ 0 → (block : ℕ) → block < block_limit layout n → kind_of (block_at pages n block) ≡ 1
  pub tables : 0 < n → n ≤ length layout.schema.tables → StartsFirst (block_limit layout n) (block_at pages n)
  pub indexes : length layout.schema.tables < n → IsIndexInOrder (block_limit layout n) (block_at pages n)

-- no page in front of a started one isn't started
abbrev pub IsInRow : (ℕ → List ℕ) → ℕ → Type 0
IsInRow page block = (before : ℕ) → before < block → kind_of (page block) ≢ 0 → kind_of (page before) ≢ 0

-- Block 0 of an index is its metapage, which counts one map page or more, and fewer than there are blocks. As many blocks behind
-- it are map pages. The one behind these has tuples, or isn't started, or is a map page without entries; each other one has tuples
-- or isn't started.
pub record StandsInIndex (limit : ℕ) (page : ℕ → List ℕ) (block : ℕ) : Type 0 where
  pub metapage : block ≡ 0 → kind_of (page 0) ≡ 3
  pub some_map : block ≡ 0 → 1 ≤ map_pages (page 0)
  pub few_maps : block ≡ 0 → map_pages (page 0) < limit
  pub maps : 1 ≤ block → block ≤ map_pages (page 0) → kind_of (page block) ≡ 4
  pub next : block ≡ map_pages (page 0) + 1 → IsOfTuples (page block) ⊎ (page block ≡ empty_page 4)
  pub others : map_pages (page 0) + 1 < block → IsOfTuples (page block)

-- the page at a place stands in the order of its relation's pages
pub record StandsInOrder (layout : DiskLayout) (pages : PageMap) (place : Place) : Type 0 where
  pub statuses : place.relation ≡ 0 → kind_of (page_at pages place) ≡ 1
  pub first : 0 < place.relation → IsInRow (block_at pages place.relation) place.block
  pub indexes : length layout.schema.tables < place.relation → StandsInIndex (block_limit layout place.relation) (block_at pages place.relation) place.block

-- the page that begins at this byte breaks the order
pub record HasOrderAmiss (layout : DiskLayout) (pool : PoolState) (contents : List ℕ) (at : ℕ) : Type 0 where
  pub place : Place
  pub is : IsPlace layout place
  pub begins : at ≡ page_offset layout place
  pub breaks : StandsInOrder layout (shown_pages layout pool contents) place → ⊥

-- by the answer: the disk's count didn't fall; a page breaks the order; the count rose
abbrev pub OrderCause : {T : Type 0} → DiskLayout → PoolState → Told → Told → Result T StartFault → Type 0
OrderCause layout pool old new (Ok done) = old.faults ≤ new.faults
OrderCause layout pool old new (Err NoStore) = ⊥
OrderCause layout pool old new (Err (Damaged at)) = (IsTrue old.tells_contents → HasOrderAmiss layout pool old.contents at) × (old.faults ≤ new.faults)
OrderCause layout pool old new (Err Disk) = (old.faults ≤ new.faults) × Rose old.faults new.faults
OrderCause layout pool old new (Err Memory) = ⊥
