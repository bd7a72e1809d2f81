-- which pages a vacuum reads, and what it leaves of the others
use Rattle.std.proofs.Common.{◌≡◌, inl, inr, ℕ, ◌+◌, ◌*◌, ◌≤◌, ◌<◌, List, length, Option, None, Some, refl, sym, ap, subst, arith}
use Rattle.std.specs.Prelude.{IfSome}
use Rattle.std.proofs.lemmas.Bool.{cases_eq}
use Rattle.block_model.specs.declared.place.Place.{Place}
use Rattle.disk_trait.specs.Told.{Told}
use Rattle.store_layout.specs.DiskLayout.{DiskLayout}
use Rattle.page_map.specs.Keeps.{Tells}
use Rattle.page_map.specs.Outcome.{NamesPage}
use Rattle.page_map.specs.PageMap.{View}
use Rattle.page_map.specs.declared.faults.StoreError.{StoreError}
use Rattle.page_map.specs.declared.faults.StoreError.TheVariants as errors
use Rattle.index_contents.specs.PageOrder.{IsIndexInOrder}
use Rattle.tx_table.specs.LeavesRest.{NamesStatuses}
use Rattle.tx_table.specs.Statuses.{status_relation}
use Rattle.heap_rows.specs.Heaps.{relation_of as table_relation}
use Rattle.heap_rows.specs.LeavesOthers.{LeavesOthers as LeavesOtherTables}
use Rattle.index_contents.specs.IndexChanges.{LeavesOtherPages}
use Rattle.index_contents.specs.IndexContents.{contents, contents_in, index_page, relation_of}
use Rattle.index_contents.specs.KeepsOrder.{KeepsOrder}
use Rattle.index_steps.specs.DamagedPages.{status_place, table_place}
use Rattle.index_steps.specs.Readings.{NamesPageOf}
use Rattle.vacuum_core.specs.declared.standing.Standing.{Standing}
use Rattle.vacuum_core.specs.declared.standing.Standing.TheVariants as standings
use Rattle.vacuum_core.specs.NextPages.{IsWithin, NamesPageOfSome}
use Rattle.vacuum_core.specs.Vacuums.{IsNextPlace, NamesPageRead, StandsWell, VacuumState, standing_at}

pub names_table : (layout : DiskLayout) (table block : ℕ) (error : StoreError) → table < length layout.schema.tables → block < layout.sizes.heap_blocks → NamesPage layout (record { relation = table_relation table; block = block }) error → NamesPageRead layout table error
names_table layout table block errors.Disk there below names = tt
names_table layout table block (errors.Reopen faults) there below names = tt
names_table layout table block (errors.Damaged at) there below names = (record { relation = table_relation table; block = block }, table_place layout table block there below, names, inl refl)

pub names_statuses : (layout : DiskLayout) (table : ℕ) (error : StoreError) → NamesStatuses layout error → NamesPageRead layout table error
names_statuses layout table errors.Disk names = tt
names_statuses layout table (errors.Reopen faults) names = tt
names_statuses layout table (errors.Damaged at) names = (record { relation = status_relation; block = names.0 }, status_place layout names.0 names.1, names.2, inr (inl refl))

pub names_index : (layout : DiskLayout) (table index : ℕ) (error : StoreError) → NamesPageOf layout index error → NamesPageRead layout table error
names_index layout table index errors.Disk names = tt
names_index layout table index (errors.Reopen faults) names = tt
names_index layout table index (errors.Damaged at) names = (record { relation = relation_of layout index; block = names.0 }, names.1, names.2, inr (inr (index, refl)))

pub names_some : (layout : DiskLayout) (table : ℕ) (error : StoreError) → NamesPageOfSome layout error → NamesPageRead layout table error
names_some layout table error names = names_index layout table names.0 error names.1

-- a change of a table's pages leaves each index
module _ {D : Type 0} (told : D → Told) (table : ℕ) (old new : View D) (leaves : LeavesOtherTables told table old new) (there : table < length old.layout.schema.tables) where
  each_page : Tells told old → (index block : ℕ) → index_page old.layout new.pages index block ≡ index_page old.layout old.pages index block
  each_page tells index block = leaves.pages tells (record { relation = relation_of old.layout index; block = block }) (λ same. absurd (omega (arith, same, there)))

  pub index_stays : Tells told old → (index : ℕ) → contents old.layout new.pages index ≡ contents old.layout old.pages index
  unfolding contents
  index_stays tells index = ap (λ (page : ℕ → List ℕ). contents_in old.layout.sizes.index_blocks page) (λ i block. each_page tells index block i)

  pub order_by_table : (index : ℕ) → KeepsOrder told index old new
  order_by_table index tells order = subst (λ (page : ℕ → List ℕ). IsIndexInOrder old.layout.sizes.index_blocks page) (λ i block. sym (each_page tells index block) i) order

-- a change of one index's page leaves the order of the others
pub order_by_page : {D : Type 0} (told : D → Told) (index block : ℕ) (old new : View D) → LeavesOtherPages told (record { relation = relation_of old.layout index; block = block }) old new → KeepsOrder told index old new → (other : ℕ) → KeepsOrder told other old new
order_by_page told index block old new leaves own other = elim (cases_eq other index) [
  | inl same ↦ subst (λ (n : ℕ). KeepsOrder told n old new) (sym same) own
  | inr apart ↦ λ tells order. subst (λ (page : ℕ → List ℕ). IsIndexInOrder old.layout.sizes.index_blocks page)
      (λ i b. sym (leaves.pages tells (record { relation = relation_of old.layout other; block = b }) (λ same. absurd (apart (let e = ap (λ (p : Place). p.relation) same in omega (arith, e))))) i) order
]

-- where it stands next, with the counts that it has then
pub stands_next : (layout : DiskLayout) (a : VacuumState) (block : ℕ) (next : Standing) → IsNextPlace layout (length a.indexes) a.extent block next → a.rows ≤ 65536 * block → block ≤ 131072 → a.unnamed ≡ 0 → StandsWell layout a next
stands_next layout a block standings.Begins place rows few none = absurd place
stands_next layout a block (standings.Prunes b) place rows few none = (omega (arith, place.0, place.1), omega (arith, place.0, rows), none)
stands_next layout a block (standings.Sweeps at page) place rows few none = (place.0, place.1, omega (arith, rows, few), omega (arith, none))
stands_next layout a block standings.Done place rows few none = tt

pub stands_page : (layout : DiskLayout) (a : VacuumState) (at block before : ℕ) (next : Option (ℕ × ℕ)) → IfSome next (IsWithin layout (length a.indexes) at (block + 1)) → block < layout.sizes.index_blocks → layout.sizes.index_blocks ≤ 16384
    → a.rows ≤ 65536 * 131072 → before ≤ 65536 * (at * 16384 + block) → a.unnamed ≤ before + 65536 → StandsWell layout a (standing_at next)
stands_page layout a at block before None within inside few rows was now = tt
stands_page layout a at block before (Some next) within inside few rows was now = (
  within.0,
  within.1,
  rows,
  elim within.2 [
    | inl later ↦ omega (arith, was, now, inside, few, later)
    | inr same ↦ (let e = same.0 in let f = same.1 in omega (arith, was, now, e, f))
  ],
)
