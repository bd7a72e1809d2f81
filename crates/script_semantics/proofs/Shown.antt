-- A table that pages show is no larger than its layout may make it.
use Rattle.std.proofs.Common.{◌≡◌, ℕ, suc, ◌+◌, ◌≤◌, ◌<◌, ◌/◌, ◌==◌, nat_le, Bool, true, false, cond, Option, None, Some, List, [], ◌∷◌, length, inl, inr, refl, sym, ap, ◌∙◌, subst, arith, div-le_self, le_trans}
use Rattle.std.specs.Prelude.{slice_get, slice_index, map}
use Rattle.std.specs.Option.{option_map}
use Rattle.std.proofs.lemmas.Bool.{and_parts, cases_lt, leb-true}
use Rattle.std.proofs.lemmas.List.{get_or_past}
use Rattle.std.proofs.lemmas.List.Sums.{AllPass-from_list_all}
use Rattle.std.proofs.lemmas.Option.{none-some}
use Rattle.block_model.specs.declared.place.Spot.{Spot}
use Rattle.block_model.specs.declared.row.Row.{Row}
use Rattle.block_model.specs.declared.schema.Column.{Column}
use Rattle.block_model.specs.declared.schema.Index.{Index}
use Rattle.block_model.specs.declared.schema.Table.{Table}
use Rattle.block_model.specs.RowSize.{row_size}
use Rattle.store_layout.specs.DiskLayout.{DiskLayout}
use Rattle.store_layout.specs.FirstBrokenRule.{KeepsLimits}
use Rattle.store_layout.specs.Limits.{rows_fit}
use Rattle.store_layout.proofs.FirstBroken.{has_bounded_sizes}
use Rattle.index_layout.specs.IndexPages.{IsIndexPage, Slot, Unstarted}
use Rattle.index_layout.specs.IndexReading.{is_regular, slots_of}
use Rattle.index_layout.proofs.Reading.{few_slots, regular_of, slots_none}
use Rattle.page_layout.specs.PageContents as heap_pages
use Rattle.page_layout.specs.PageContents.{IsPageOf}
use Rattle.page_layout.specs.declared.page.Form.{Form}
use Rattle.page_layout.specs.declared.page.Form.TheVariants as forms
use Rattle.page_map.specs.PageMap.{PageMap}
use Rattle.page_locks.specs.LockHolders.{LockState}
use Rattle.index_steps.specs.HeapBlocks as heaps
use Rattle.index_steps.specs.HeapBlocks.{HasBlocks}
use Rattle.index_steps.specs.Heaps.{no_table, slots_a_page, table_at}
use Rattle.index_steps.specs.RowPlaces.{slot_at}
use Rattle.coverage.specs.IndexView.{IndexTuple}
use Rattle.coverage.specs.Machines.{Unseen, table_state}
use Rattle.index_steps.specs.IndexContents.{contents, index_page, tuple_on}
use Rattle.index_steps.proofs.Relations.{form_is}
use Rattle.index_steps.specs.IndexTuples.{IndexShape, seen, shape_of}
use Rattle.index_steps.specs.ShownRows.{row_in, rows_in, shown_by}
use Rattle.index_steps.specs.ShownTable.{indexes_of, numbers_from, shown_at}
use Rattle.index_steps.proofs.Lawful.{its_pages}
use Rattle.index_steps.proofs.Listed.{is_counted}
use Rattle.script_semantics.specs.Bounds.{IsBounded, most_blocks, most_pages, most_slots}
use Rattle.script_semantics.specs.ShownBounds.{HasIndexPages}

-- ---- the indexes of a table

few_by_test : (table n : ℕ) (rest : List Index) → length (numbers_from table (n + 1) rest) ≤ length rest → (b : Bool)
    → length (cond b (n ∷ numbers_from table (n + 1) rest) (numbers_from table (n + 1) rest)) ≤ suc (length rest)
few_by_test table n rest few true = omega (arith, few)
few_by_test table n rest few false = omega (arith, few)

few_from : (table n : ℕ) (l : List Index) → length (numbers_from table n l) ≤ length l
few_from table n [] = omega arith
few_from table n (index ∷ rest) = few_by_test table n rest (few_from table (n + 1) rest) (index.table == table)

few_indexes : (layout : DiskLayout) (table : ℕ) → length (indexes_of layout table) ≤ length layout.schema.indexes
unfolding indexes_of
few_indexes layout table = few_from table 0 layout.schema.indexes

is_declared : (layout : DiskLayout) (table at n : ℕ) → slice_get (indexes_of layout table) at ≡ Some n → n < length layout.schema.indexes
unfolding indexes_of
is_declared layout table at n there = let one = is_counted table 0 layout.schema.indexes at n there in omega (arith, one.is, one.below)

-- ---- the slots of a page

page_is : (page : List ℕ) → IsPageOf forms.Index page → IsIndexPage page
page_is page (inl zeros) = Unstarted zeros
page_is page (inr started) = started.0

few_of : (page : List ℕ) → IsIndexPage page → length (slots_of page) ≤ 2040
few_of page is = by (is_regular (slice_index page 0)) refl
  where
    by : (b : Bool) → is_regular (slice_index page 0) ≡ b → length (slots_of page) ≤ 2040
    by true regular = let few = few_slots (slice_index page 0) (slots_of page) page (regular_of page 8192 refl is regular).has in omega (arith, few)
    by false other = let none = ap (length {A = Slot}) (slots_none page other) in omega (arith, none)

slot_within : (page : List ℕ) (n : ℕ) (tuple : List ℕ) → tuple_on page n ≡ Some tuple → n < length (slots_of page)
slot_within page n tuple is = elim (cases_lt n (length (slots_of page))) [
  | inl below ↦ below
  | inr past ↦ absurd (none-some tuple (sym (get_or_past (slots_of page) n None past) ∙ is))
]

-- a tuple that is seen is that of bytes
bytes_seen : (shape : IndexShape) (o : Option (List ℕ)) (t : IndexTuple) → option_map (seen shape) o ≡ Some t → (bytes : List ℕ) × (o ≡ Some bytes)
bytes_seen shape None t is = absurd (none-some t is)
bytes_seen shape (Some bytes) t is = (bytes, refl)

-- ---- a row of a slot

stored_there : (table : ℕ) (slot : heap_pages.Slot) (r : Row) → row_in table slot ≡ Some r → slot ≡ None → ⊥
stored_there table None r is none = none-some r is
stored_there table (Some stored) r is none = none-some stored (sym none)

module _ (layout : DiskLayout) (limits : KeepsLimits layout.schema layout.sizes) (pages : PageMap) (locks : LockState) (table : ℕ) (blocks : List (List heap_pages.Slot)) where
  most_rows : table < length layout.schema.tables → slots_a_page layout table ≤ 8160
  most_rows below =
      let t : Table = table_at layout table in
      let s : ℕ = row_size (map (λ (c : Column). c.kind) t.columns) in
      le_trans (leb-true t.rows_per_page (8160 / s) (and_parts (nat_le 1 t.rows_per_page) (nat_le t.rows_per_page (8160 / s))
      (AllPass-from_list_all rows_fit layout.schema.tables (limits 4) table no_table below)).1)
      (div-le_self 8160 s)

  row_below : table < length layout.schema.tables → HasBlocks layout pages table blocks → (b k : ℕ) (r : Row) → rows_in table blocks b k ≡ Some r → k < most_slots
  row_below below has b k r is = elim (cases_lt b (length blocks)) [
    | inl there ↦ elim (cases_lt k (length (heaps.slots_of blocks b))) [
      | inl within ↦ (let count = (has.started b there).counted in let few = most_rows below in omega (arith, within, count, few))
      | inr past ↦ absurd (stored_there table (slot_at blocks (record { block = b; slot = k })) r is (get_or_past (heaps.slots_of blocks b) k None past))
    ]
    | inr beyond ↦ absurd (stored_there table (slot_at blocks (record { block = b; slot = k })) r is
        (get_or_past (heaps.slots_of blocks b) k None (let none : length (heaps.slots_of blocks b) ≡ 0 = ap length (get_or_past blocks b [] beyond) in omega (arith, none))))
  ]

  -- an index of the table
  module _ (index_pages : HasIndexPages layout pages) where
    ranges_at : (o : Option ℕ) → ((n : ℕ) → o ≡ Some n → n < length layout.schema.indexes) → (shown_at layout pages locks o).pages_per_range ≤ most_blocks
    ranges_at None declared = omega arith
    ranges_at (Some n) declared = (its_pages layout n (declared n refl) limits).1

    limit_at : (o : Option ℕ) → (shown_at layout pages locks o).pages.limit ≤ most_pages
    unfolding contents
    limit_at None = omega arith
    limit_at (Some n) = (has_bounded_sizes layout limits).few_index_blocks

    tuple_at : (o : Option ℕ) → ((n : ℕ) → o ≡ Some n → n < length layout.schema.indexes) → (x : Spot) (t : IndexTuple) → (shown_at layout pages locks o).tuple x ≡ Some t → x.slot < most_slots
    unfolding contents
    tuple_at None declared x t is = absurd (none-some t is)
    tuple_at (Some n) declared x t is =
        let page = index_page layout pages n x.block in
        let stands = bytes_seen (shape_of layout n) (tuple_on page x.slot) t is in
        let within = slot_within page x.slot stands.0 stands.1 in
        let few = few_of page (page_is page (subst (λ (f : Form). IsPageOf f page) (form_is layout n (declared n refl)) (index_pages n x.block (declared n refl)))) in
        omega (arith, within, few)

    pub shown_bounded : (u : Unseen) → table < length layout.schema.tables → HasBlocks layout pages table blocks → IsBounded (table_state (shown_by layout pages locks table blocks) u)
    shown_bounded u below has =
        let sizes = has_bounded_sizes layout limits in
        let declared = λ (i n : ℕ) (there : slice_get (indexes_of layout table) i ≡ Some n). is_declared layout table i n there in
        record {
          indexes = le_trans (few_indexes layout table) sizes.few_indexes;
          blocks = le_trans has.within sizes.few_heap_blocks;
          ranges = λ i less. ranges_at (slice_get (indexes_of layout table) i) (declared i);
          pages = λ i less. limit_at (slice_get (indexes_of layout table) i);
          rows = row_below below has;
          tuples = λ i less x t is. tuple_at (slice_get (indexes_of layout table) i) (declared i) x t is;
        }
