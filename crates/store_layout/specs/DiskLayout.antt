-- where the pages of a store stand on its disk
use Rattle.std.specs.Prelude.{ℕ, ◌+◌, ◌*◌, ◌<◌, ◌≤◌, List, ◌∷◌, ◌++◌, length, map, sum, take, slice_index}
use Rattle.block_model.specs.declared.limits.TheConstants.{PAGE_SIZE}
use Rattle.block_model.specs.declared.place.Place.{Place}
use Rattle.block_model.specs.declared.schema.Schema.{Schema}
use Rattle.block_model.specs.declared.schema.Sizes.{Sizes}

-- the tables and indexes of a store, and its sizes
pub record DiskLayout : Type 0 where
  pub schema : Schema
  pub sizes : Sizes

-- the bytes of the disk: the control page, two areas of the log, and the blocks of statuses, tables and indexes
unfoldable pub disk_size : DiskLayout → ℕ
disk_size d =
    PAGE_SIZE
    * (1 + 2 * d.sizes.log_pages + d.sizes.status_blocks + length d.schema.tables * d.sizes.heap_blocks
    + length d.schema.indexes * d.sizes.index_blocks)

-- the byte at which the first page of a relation begins, behind the control page and the log
abbrev pub first_offset : DiskLayout → ℕ
first_offset d = PAGE_SIZE * (1 + 2 * d.sizes.log_pages)

-- the bytes of each of the two areas of the log, and the byte at which an area begins: one behind the other behind the control
-- page
abbrev pub area_size : DiskLayout → ℕ
area_size d = PAGE_SIZE * d.sizes.log_pages

abbrev pub area_offset : DiskLayout → ℕ → ℕ
area_offset d area = PAGE_SIZE + area_size d * area

-- how many blocks each relation may have: the statuses, then tables and then indexes in order of declaration
unfoldable pub relation_blocks : DiskLayout → List ℕ
relation_blocks d =
    d.sizes.status_blocks ∷ map (λ _. d.sizes.heap_blocks) d.schema.tables ++ map (λ _. d.sizes.index_blocks) d.schema.indexes

-- the layout has the relation, and the relation may have the block
pub record IsPlace (d : DiskLayout) (place : Place) : Type 0 where
  pub relation : place.relation < length (relation_blocks d)
  pub block : place.block < slice_index (relation_blocks d) place.relation

-- the byte at which a page begins: all blocks of a relation stand in front of the next relation's
unfoldable pub page_offset : DiskLayout → Place → ℕ
page_offset d place = first_offset d + PAGE_SIZE * (sum (take place.relation (relation_blocks d)) + place.block)

-- what the limits say of these numbers
pub record HasBoundedSizes (d : DiskLayout) : Type 0 where
  pub some_table : 1 ≤ length d.schema.tables
  pub few_tables : length d.schema.tables ≤ 8
  pub few_indexes : length d.schema.indexes ≤ 8
  pub some_heap_block : 1 ≤ d.sizes.heap_blocks
  pub few_heap_blocks : d.sizes.heap_blocks ≤ 131072
  pub some_index_blocks : 3 ≤ d.sizes.index_blocks
  pub few_index_blocks : d.sizes.index_blocks ≤ 16384
  pub some_status_block : 1 ≤ d.sizes.status_blocks
  pub few_status_blocks : d.sizes.status_blocks ≤ 64
  pub some_log_pages : 16 ≤ d.sizes.log_pages
  pub few_log_pages : d.sizes.log_pages ≤ 4096
  pub some_frames : 16 ≤ d.sizes.frames
  pub few_frames : d.sizes.frames ≤ 65536

-- what they say of its places: there are few relations, and few blocks of each
pub record HasSmallPlaces (d : DiskLayout) : Type 0 where
  pub relation : (p : Place) → IsPlace d p → p.relation ≤ 16
  pub block : (p : Place) → IsPlace d p → p.block < 131072
