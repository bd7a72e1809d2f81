-- the pages at which damage is told are places of the layout
use Rattle.std.specs.Prelude.{◌≡◌, ℕ, ◌<◌, ◌≤◌, length}
use Rattle.std.proofs.Common.{inl, inr, refl, subst, arith}
use Rattle.std.proofs.lemmas.Bool.{cases_lt}
use Rattle.store_layout.specs.DiskLayout.{DiskLayout, IsPlace}
use Rattle.store_layout.specs.RelationCounts.{blocks_of_index, blocks_of_statuses, blocks_of_table, count_relations}
use Rattle.page_map.specs.declared.faults.StoreError.{StoreError}
use Rattle.page_map.specs.declared.faults.StoreError.TheVariants as errors
use Rattle.page_map.specs.Outcome.{IsReopen, NamesPage}
use Rattle.coverage.specs.IndexView.{map_page_of}
use Rattle.heap_rows.specs.Heaps.{relation_of as table_relation}
use Rattle.index_contents.specs.IndexContents.{relation_of}
use Rattle.revmap.specs.MapEntries.{NamesMap}
use Rattle.index_steps.specs.Readings.{NamesPageOf}

pub status_place : (layout : DiskLayout) (block : ℕ) → block < layout.sizes.status_blocks → IsPlace layout (record { relation = 0; block = block })
status_place layout block below = record { relation = omega (arith, count_relations layout); block = omega (arith, below, blocks_of_statuses layout 0 refl) }

pub table_place : (layout : DiskLayout) (table block : ℕ) → table < length layout.schema.tables → block < layout.sizes.heap_blocks → IsPlace layout (record { relation = table_relation table; block = block })
table_place layout table block there below = record {
  relation = omega (arith, count_relations layout, there);
  block = omega (arith, below, blocks_of_table layout (table_relation table) (omega arith) (omega (arith, there)));
}

pub index_place : (layout : DiskLayout) (index block : ℕ) → index < length layout.schema.indexes → block < layout.sizes.index_blocks → IsPlace layout (record { relation = relation_of layout index; block = block })
index_place layout index block there below = record {
  relation = omega (arith, count_relations layout, there);
  block = omega (arith, below, blocks_of_index layout (relation_of layout index) (omega arith) (omega (arith, there)));
}

-- the page of an index, which the index may have
pub names_page : (layout other : DiskLayout) (index block : ℕ) (error : StoreError) → other ≡ layout → index < length layout.schema.indexes → (layout.sizes.index_blocks ≤ block → IsReopen error)
    → NamesPage other (record { relation = relation_of other index; block = block }) error → NamesPageOf layout index error
names_page layout other index block error same there within names = names_of error within (subst (λ (l : DiskLayout). NamesPage l (record { relation = relation_of l index; block = block }) error) same names)
  where
    names_of : (error : StoreError) → (layout.sizes.index_blocks ≤ block → IsReopen error) → NamesPage layout (record { relation = relation_of layout index; block = block }) error → NamesPageOf layout index error
    names_of errors.Disk within names = tt
    names_of (errors.Reopen faults) within names = tt
    names_of (errors.Damaged at) within names = elim (cases_lt block layout.sizes.index_blocks) [
      | inl below ↦ (block, index_place layout index block there below, names)
      | inr past ↦ absurd (within past)
    ]

-- a page that the index may have
pub names_within : (layout : DiskLayout) (index block : ℕ) (error : StoreError) → index < length layout.schema.indexes → block < layout.sizes.index_blocks → NamesPage layout (record { relation = relation_of layout index; block = block }) error → NamesPageOf layout index error
names_within layout index block error there below names = names_page layout layout index block error refl there (λ past. absurd (omega (arith, below, past))) names

-- the same by the number of the index's relation
pub names_there : (layout : DiskLayout) (index relation block : ℕ) (error : StoreError) → relation ≡ relation_of layout index → index < length layout.schema.indexes → block < layout.sizes.index_blocks → NamesPage layout (record { relation = relation; block = block }) error → NamesPageOf layout index error
names_there layout index relation block error is there below names = names_within layout index block error there below (subst (λ (r : ℕ). NamesPage layout (record { relation = r; block = block }) error) is names)

-- a page of the map
pub names_map : (layout : DiskLayout) (index range : ℕ) (error : StoreError) → index < length layout.schema.indexes → 3 ≤ layout.sizes.index_blocks → NamesMap layout index range error → NamesPageOf layout index error
names_map layout index range error there some names = elim (cases_lt (map_page_of range) layout.sizes.index_blocks) [
  | inl below ↦ names_within layout index (map_page_of range) error there below (names.page below)
  | inr above ↦ names_within layout index 0 error there (omega (arith, some)) (names.metapage above)
]
