-- The versions of a table on its pages, by its blocks.
use Rattle.std.proofs.Common.{◌≡◌, ℕ, zero, suc, ◌+◌, ◌<◌, inl, inr, List, [], ◌∷◌, length, refl, sym, ap, subst, ◌∙◌, arith, All}
use Rattle.std.specs.Prelude.{None, Some, replicate}
use Rattle.std.specs.List.{flat_map, range_with_len}
use Rattle.std.proofs.lemmas.Bool.{cases_lt}
use Rattle.std.proofs.lemmas.List.{get_or_past}
use Rattle.std.proofs.lemmas.List.FromFn.{get_or-map-range_with_len, length-map-range_with_len}
use Rattle.std.proofs.lemmas.List.Elements.{All-nil, All-cons, All-append}
use Rattle.store_layout.specs.DiskLayout.{DiskLayout}
use Rattle.page_layout.specs.declared.page.Form.{Form}
use Rattle.page_layout.specs.FreeSlots.{slot_count}
use Rattle.page_layout.specs.PageContents.{HasSlots, IsUnstarted, Slot}
use Rattle.page_layout.specs.SlotsOnPage.{slots_on}
use Rattle.page_map.specs.PageMap.{PageMap, block_at}
use Rattle.heap_rows.specs.Heaps.{form_at, relation_of}
use Rattle.heap_rows.specs.HeapBlocks.{HasBlocks, slots_of}
use Rattle.snapshot_core.specs.declared.table.Version.{Version}
use Rattle.snapshot_core.specs.StoredVersions.{versions_at}
use Rattle.transactions.specs.ShownVersions.{versions_in, versions_on, versions_of_block, versions_of_table, shown_tables}
use Rattle.transactions.proofs.Swaps.{by_elements}

-- what the bytes of a page say of its slots
pub record AreRead : Type 0 where
  pub one : (form : Form) (page : List ℕ) (slots : List Slot) → HasSlots form page slots → slots ≡ slots_on form page
  pub unstarted : (form : Form) (page : List ℕ) → IsUnstarted page → slots_on form page ≡ replicate (slot_count form) None

-- free slots have no versions
pub free_have_none : (table count : ℕ) → versions_on table (replicate count None) ≡ []
free_have_none table zero = refl
free_have_none table (suc count) = free_have_none table count

-- nor has a page that isn't started
pub unstarted_has_none : AreRead → (layout : DiskLayout) (pages : PageMap) (table block : ℕ) → IsUnstarted (block_at pages (relation_of table) block) → versions_of_block layout pages table block ≡ []
unstarted_has_none read layout pages table block zeros =
    ap (versions_on table) (read.unstarted (form_at layout table) (block_at pages (relation_of table) block) zeros) ∙ free_have_none table (slot_count (form_at layout table))

-- the versions of a table are those in the slots of its blocks
pub table_by_blocks : AreRead → (layout : DiskLayout) (pages : PageMap) (table : ℕ) (blocks : List (List Slot)) → HasBlocks layout pages table blocks → versions_of_table layout pages table ≡ flat_map (versions_on table) blocks
unfolding versions_of_table
table_by_blocks read layout pages table blocks has =
    let f : ℕ → List Version = versions_of_block layout pages table in
    by_elements f (versions_on table) [] blocks 0 layout.sizes.heap_blocks has.within
    (λ k low.
    let at : 0 + k ≡ k = omega arith in
    ap f at ∙ ap (versions_on table) (sym (read.one (form_at layout table) (block_at pages (relation_of table) k) (slots_of blocks k) (has.started k low))))
    (λ k past low. let at : 0 + k ≡ k = omega arith in ap f at ∙ unstarted_has_none read layout pages table k (has.unstarted k past low))

-- where its pages are the same, its versions are
pub same_versions : (layout : DiskLayout) (old new : PageMap) (table : ℕ) → ((block : ℕ) → block_at new (relation_of table) block ≡ block_at old (relation_of table) block) → versions_of_table layout new table ≡ versions_of_table layout old table
unfolding versions_of_table
same_versions layout old new table same = λ i. flat_map (λ block. versions_on table (slots_on (form_at layout table) (same block i))) (range_with_len 0 layout.sizes.heap_blocks)

-- each version is of its table

all_in : {X A : Type 0} (P : X → Type 0) (f : A → List X) (l : List A) → ((x : A) → All P (f x)) → All P (flat_map f l)
all_in P f [] each = All-nil P
all_in P f (x ∷ xs) each = All-append P (f x) (flat_map f xs) (each x) (all_in P f xs each)

own_in : (table : ℕ) (slot : Slot) → All (λ (v : Version). v.row.table ≡ table) (versions_in table slot)
own_in table None = All-nil (λ (v : Version). v.row.table ≡ table)
own_in table (Some row) = All-cons (λ (v : Version). v.row.table ≡ table) _ [] refl (All-nil (λ (v : Version). v.row.table ≡ table))

own_versions : (layout : DiskLayout) (pages : PageMap) (table : ℕ) → All (λ (v : Version). v.row.table ≡ table) (versions_of_table layout pages table)
unfolding versions_of_table
own_versions layout pages table =
    let P : Version → Type 0 = λ (v : Version). v.row.table ≡ table in
    all_in P (versions_of_block layout pages table) (range_with_len 0 layout.sizes.heap_blocks) (λ block.
    all_in P (versions_in table) (slots_on (form_at layout table) (block_at pages (relation_of table) block)) (own_in table))

-- the table of that number among those shown
pub shown_at : (layout : DiskLayout) (pages : PageMap) (table : ℕ) → table < length layout.schema.tables → versions_at (shown_tables layout pages) table ≡ versions_of_table layout pages table
shown_at layout pages table below = get_or-map-range_with_len (versions_of_table layout pages) 0 (length layout.schema.tables) table table [] below (omega arith)

pub own_table : (layout : DiskLayout) (pages : PageMap) (table : ℕ) → All (λ (v : Version). v.row.table ≡ table) (versions_at (shown_tables layout pages) table)
own_table layout pages table =
    let P : Version → Type 0 = λ (v : Version). v.row.table ≡ table in
    elim (cases_lt table (length layout.schema.tables)) [
      | inl below ↦ subst (All P) (sym (shown_at layout pages table below)) (own_versions layout pages table)
      | inr past ↦
          let long = length-map-range_with_len (versions_of_table layout pages) 0 (length layout.schema.tables) in
          subst (All P) (sym (get_or_past (shown_tables layout pages) table [] (omega arith))) (All-nil P)
    ]
