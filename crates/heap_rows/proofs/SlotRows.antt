-- The rows of a page, slot by slot.
use Rattle.std.proofs.Common.{◌≡◌, ℕ, zero, suc, ◌+◌, ◌<◌, ◌≤◌, inl, inr, List, [], ◌∷◌, ◌++◌, length, take, get_or, refl, sym, ap, subst, ◌∙◌, arith}
use Rattle.std.specs.Prelude.{None, Some, slice_get}
use Rattle.std.proofs.lemmas.List.{get_or_past, length-take-le, take_more}
use Rattle.std.specs.List.{All}
use Rattle.std.proofs.lemmas.Bool.{cases_lt}
use Rattle.std.proofs.lemmas.List.Elements.{All-cons, All-nil}
use Rattle.block_model.specs.declared.value.Kind.{Kind}
use Rattle.store_layout.specs.DiskLayout.{DiskLayout}
use Rattle.page_layout.specs.declared.page.Form.{Form}
use Rattle.page_layout.specs.declared.page.Form.TheVariants as forms
use Rattle.page_layout.specs.RowBytes.{StoredRow, IsRow, row_bytes}
use Rattle.page_layout.specs.PageContents.{Slot, HasSlots, AreSlots, IsPageOf, IsUnstarted, row_bytes_in, used_bytes}
use Rattle.page_layout.specs.PageWrites.{RowHasBytes}
use Rattle.page_map.specs.PageMap.{PageMap, block_at}
use Rattle.heap_rows.specs.declared.rows.Stored.{Stored}
use Rattle.heap_rows.specs.Heaps.{relation_of, form_at, kinds_at, slots_a_page}
use Rattle.heap_rows.specs.HeapBlocks.{HasBlocks, slots_of}
use Rattle.heap_rows.specs.StoredRows.{AreRowsOf, SlotsAscend, row_of, stored_from, stored_in, stored_rows}

stored-push-free : (from : ℕ) (slots : List Slot) → stored_from from (slots ++ None ∷ []) ≡ stored_from from slots
unfolding stored_from
stored-push-free from [] = refl
stored-push-free from (None ∷ slots) = stored-push-free (from + 1) slots
stored-push-free from (Some row ∷ slots) = ap (λ l. stored_in from row ∷ l) (stored-push-free (from + 1) slots)

stored-push-row : (from : ℕ) (slots : List Slot) (row : StoredRow) → stored_from from (slots ++ Some row ∷ []) ≡ stored_from from slots ++ stored_in (from + length slots) row ∷ []
unfolding stored_from
stored-push-row from [] row = let same : from ≡ from + 0 = omega arith in ap (λ (n : ℕ). stored_in n row ∷ []) same
stored-push-row from (None ∷ slots) row =
    let same : from + 1 + length slots ≡ from + suc (length slots) = omega arith in
    stored-push-row (from + 1) slots row ∙ ap (λ (n : ℕ). stored_from (from + 1) slots ++ stored_in n row ∷ []) same
stored-push-row from (Some first ∷ slots) row =
    let same : from + 1 + length slots ≡ from + suc (length slots) = omega arith in
    ap (λ l. stored_in from first ∷ l) (stored-push-row (from + 1) slots row ∙ ap (λ (n : ℕ). stored_from (from + 1) slots ++ stored_in n row ∷ []) same)

-- one slot more

pub stored-skip : (slots : List Slot) (n : ℕ) → n < length slots → get_or slots n None ≡ None → stored_from 0 (take (n + 1) slots) ≡ stored_from 0 (take n slots)
stored-skip slots n below free =
    ap (stored_from 0) (take_more slots n None below ∙ ap (λ (slot : Slot). take n slots ++ slot ∷ []) free) ∙ stored-push-free 0 (take n slots)

pub stored-add : (slots : List Slot) (n : ℕ) (row : StoredRow) → n < length slots → get_or slots n None ≡ Some row → stored_from 0 (take (n + 1) slots) ≡ stored_from 0 (take n slots) ++ stored_in n row ∷ []
stored-add slots n row below there =
    let at : 0 + length (take n slots) ≡ n = omega (arith, length-take-le n slots) in
    ap (stored_from 0) (take_more slots n None below ∙ ap (λ (slot : Slot). take n slots ++ slot ∷ []) there)
    ∙ stored-push-row 0 (take n slots) row
    ∙ ap (λ (k : ℕ). stored_from 0 (take n slots) ++ stored_in k row ∷ []) at

-- what is read of a slot

row_there : (ks : List Kind) (slots : List Slot) (n : ℕ) (bytes : List ℕ) → AreSlots ks slots → Some bytes ≡ used_bytes ks (slice_get slots n) → (row : StoredRow) × (get_or slots n None ≡ Some row) × (IsRow ks row × (bytes ≡ row_bytes ks row))
row_there ks [] n bytes are e = absurd cc
row_there ks (None ∷ slots) zero bytes are e = absurd cc
row_there ks (Some row ∷ slots) zero bytes are e = (row, refl, (are.0, cc))
row_there ks (slot ∷ slots) (suc n) bytes are e = row_there ks slots n bytes are.1 e

pub read_row : (form : Form) (page : List ℕ) (slots : List Slot) (n : ℕ) (bytes : List ℕ) → HasSlots form page slots → Some bytes ≡ row_bytes_in form slots n → (row : StoredRow) × (get_or slots n None ≡ Some row) × RowHasBytes form bytes row
read_row forms.Status page slots n bytes has e = absurd has
read_row (forms.Heap row count ks format) page slots n bytes has e = row_there ks slots n bytes has.are e
read_row forms.Index page slots n bytes has e = absurd has

-- the rows of a block

pub rows_of_block : {layout : DiskLayout} {table : ℕ} {pages : PageMap} {blocks : List (List Slot)} (has : HasBlocks layout pages table blocks) (block : ℕ) (form : Form) (page : List ℕ) (rows : List Stored) → form ≡ form_at layout table
    → page ≡ block_at pages (relation_of table) block → block < layout.sizes.heap_blocks → ((slots : List Slot) → HasSlots form page slots → rows ≡ stored_rows slots) → (IsUnstarted page → rows ≡ []) → rows ≡ stored_rows (slots_of blocks block)
unfolding stored_from
rows_of_block {layout} {table} {pages} {blocks} has block form page rows is at below contents unstarted =
    elim (cases_lt block (length blocks)) [
      | inl there ↦ contents (slots_of blocks block) (subst (λ (f : Form). HasSlots f page (slots_of blocks block)) (sym is) (subst (λ (p : List ℕ). HasSlots (form_at layout table) p (slots_of blocks block)) (sym at) (has.started block there)))
      | inr past ↦ unstarted (subst IsUnstarted (sym at) (has.unstarted block past below)) ∙ ap (stored_from 0) (sym (get_or_past blocks block [] past))
    ]

-- rows that were read, whatever page the block has

rows_few : (from : ℕ) (slots : List Slot) → length (stored_from from slots) ≤ length slots
unfolding stored_from
rows_few from [] = omega arith
rows_few from (None ∷ slots) = let rest = rows_few (from + 1) slots in omega arith
rows_few from (Some row ∷ slots) = let rest = rows_few (from + 1) slots in omega arith

rows_each : (ks : List Kind) (from : ℕ) (slots : List Slot) → AreSlots ks slots → All (λ stored. IsRow ks (row_of stored)) (stored_from from slots)
unfolding stored_from
rows_each ks from [] are = All-nil (λ (stored : Stored). IsRow ks (row_of stored))
rows_each ks from (None ∷ slots) are = rows_each ks (from + 1) slots are.1
rows_each ks from (Some row ∷ slots) are = All-cons (λ (stored : Stored). IsRow ks (row_of stored)) (stored_in from row) (stored_from (from + 1) slots) are.0 (rows_each ks (from + 1) slots are.1)

ascend_less : (least more count : ℕ) (rows : List Stored) → least ≤ more → SlotsAscend more count rows → SlotsAscend least count rows
ascend_less least more count [] le ascend = tt
ascend_less least more count (stored ∷ rows) le ascend = (omega (arith, le, ascend.0), ascend.1, ascend.2)

rows_ascend : (from count : ℕ) (slots : List Slot) → from + length slots ≤ count → SlotsAscend from count (stored_from from slots)
unfolding stored_from
rows_ascend from count [] within = tt
rows_ascend from count (None ∷ slots) within = ascend_less from (from + 1) count (stored_from (from + 1) slots) (omega arith) (rows_ascend (from + 1) count slots (omega arith))
rows_ascend from count (Some row ∷ slots) within = (omega arith, omega arith, rows_ascend (from + 1) count slots (omega arith))

slots_sound : (ks : List Kind) (count : ℕ) (slots : List Slot) (rows : List Stored) → length slots ≡ count → AreSlots ks slots → rows ≡ stored_rows slots → AreRowsOf ks count rows
slots_sound ks count slots rows long are is = subst (AreRowsOf ks count) (sym is) (record {
  few = omega (arith, rows_few 0 slots, long);
  each = rows_each ks 0 slots are;
  ascending = rows_ascend 0 count slots (omega arith);
})

no_rows : (ks : List Kind) (count : ℕ) → AreRowsOf ks count []
no_rows ks count = record { few = omega arith; each = All-nil (λ (stored : Stored). IsRow ks (row_of stored)); ascending = tt }

pub rows_sound : (layout : DiskLayout) (table : ℕ) (form : Form) (page : List ℕ) (rows : List Stored) → form ≡ form_at layout table → IsPageOf form page → ((slots : List Slot) → HasSlots form page slots → rows ≡ stored_rows slots) → (IsUnstarted page → rows ≡ [])
    → AreRowsOf (kinds_at layout table) (slots_a_page layout table) rows
rows_sound layout table form page rows is of_form contents unstarted = at_heap (subst (λ (f : Form). IsPageOf f page) is of_form) (subst (λ (f : Form). (slots : List Slot) → HasSlots f page slots → rows ≡ stored_rows slots) is contents)
  where
    at_heap : IsPageOf (form_at layout table) page → ((slots : List Slot) → HasSlots (form_at layout table) page slots → rows ≡ stored_rows slots) → AreRowsOf (kinds_at layout table) (slots_a_page layout table) rows
    at_heap (inl zeros) read = subst (AreRowsOf (kinds_at layout table) (slots_a_page layout table)) (sym (unstarted zeros)) (no_rows (kinds_at layout table) (slots_a_page layout table))
    at_heap (inr started) read = slots_sound (kinds_at layout table) (slots_a_page layout table) started.0 rows started.1.counted started.1.are (read started.0 started.1)
