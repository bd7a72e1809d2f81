-- Slots that become free.
use Rattle.std.proofs.Common.{◌≡◌, ◌≢◌, ℕ, zero, suc, ◌+◌, ◌*◌, ◌/◌, ◌%◌, ◌<◌, ◌≤◌, ◌&&◌, inl, inr, Bool, true, false, List, [], ◌∷◌, length, get_or, set, nat_le, nat_lt, refl, sym, ap, subst, ◌∙◌, arith}
use Rattle.std.specs.Prelude.{◌==◌, None, Some, All, Contains, Result, Ok, Err, OnOk}
use Rattle.std.proofs.lemmas.Bool.{cases_eq, cases_lt, le-leb, lt-ltb, eqb-true, eqb-false}
use Rattle.std.proofs.lemmas.List.{get_or-set_same, get_or-set_other, get_or_past, set-get_or, set_past}
use Rattle.std.proofs.lemmas.List.Elements.{All-cons, All-head, All-nil}
use Rattle.block_model.specs.declared.place.Place.{Place}
use Rattle.store_layout.specs.DiskLayout.{DiskLayout}
use Rattle.page_layout.specs.declared.page.Form.{Form}
use Rattle.page_layout.specs.FreeSlots.{slot_count}
use Rattle.page_layout.specs.PageContents.{Slot, HasSlots}
use Rattle.page_layout.specs.RowBytes.{StoredRow}
use Rattle.page_map.specs.Redo.{IsHeapPage, Means, are_ascending, dropped}
use Rattle.page_map.specs.Changed.{Changed, redone_once}
use Rattle.page_map.specs.Forms.{form_of}
use Rattle.page_map.specs.PageMap.{PageMap, block_at, page_at}
use Rattle.wal_record.specs.Changes.{LoggedChange, RowsDrop}
use Rattle.heap_rows.specs.Heaps.{relation_of, form_at, slots_a_page}
use Rattle.heap_rows.specs.HeapBlocks.{HasBlocks, slots_of}
use Rattle.heap_rows.specs.RowPlaces.{IsInUse, slot_at}
use Rattle.heap_rows.specs.StoredRows.{stored_from, stored_rows}
use Rattle.heap_rows.specs.DroppedRows.{AreAscending, AreInUse, FreesSlots, HasFewerRows, slots_bytes, with_free, with_slots_free}
use Rattle.heap_rows.proofs.TableBlocks.{OneList, in_use, one_list, set-block}

-- where a call is done, what holds anyhow
pub on_any : {T E P : Type 0} (result : Result T E) → P → OnOk result P
on_any (Ok value) holds = holds
on_any (Err error) holds = tt

-- the numbers of slots

pub no_slots : (slots : List ℕ) (empty : Bool) → empty ≡ (length slots == 0) → empty ≡ true → length slots ≡ 0
no_slots slots empty is holds = eqb-true (length slots) 0 (sym is ∙ holds)

pub some_slots : (slots : List ℕ) (empty : Bool) → empty ≡ (length slots == 0) → empty ≡ false → 0 < length slots
some_slots slots empty is fails = let some : length slots ≢ 0 = eqb-false (length slots) 0 (sym is ∙ fails) in omega arith

-- slots that ascend are no more than there are
pub few_ascend : (least count : ℕ) (slots : List ℕ) → least ≤ count → AreAscending least count slots → least + length slots ≤ count
few_ascend least count [] within ascend = omega arith
few_ascend least count (slot ∷ slots) within ascend =
    let rest = few_ascend (slot + 1) count slots (omega (arith, ascend.1)) ascend.2 in
    omega (arith, ascend.0)

two_bytes : (slot : ℕ) → slot < 65536 → slot / 256 % 256 * 256 + slot % 256 ≡ slot
two_bytes slot small = omega arith

-- their bytes are those that a change takes
pub bytes_ascend : (least count : ℕ) (slots : List ℕ) → count ≤ 65536 → AreAscending least count slots → are_ascending least count (slots_bytes slots) ≡ true
unfolding are_ascending slots_bytes
bytes_ascend least count [] few ascend = refl
bytes_ascend least count (slot ∷ slots) few ascend =
    ap (λ (n : ℕ). (nat_le least n && nat_lt n count) && are_ascending (n + 1) count (slots_bytes slots)) (two_bytes slot (omega (arith, ascend.1)))
    ∙ ap (λ (b : Bool). (b && nat_lt slot count) && are_ascending (slot + 1) count (slots_bytes slots)) (le-leb least slot ascend.0)
    ∙ ap (λ (b : Bool). b && are_ascending (slot + 1) count (slots_bytes slots)) (lt-ltb slot count ascend.1)
    ∙ bytes_ascend (slot + 1) count slots few ascend.2

-- and name these slots
pub bytes_drop : (least count : ℕ) (list : List Slot) (slots : List ℕ) → count ≤ 65536 → AreAscending least count slots → dropped list (slots_bytes slots) ≡ with_free list slots
unfolding dropped slots_bytes with_free
bytes_drop least count list [] few ascend = refl
bytes_drop least count list (slot ∷ slots) few ascend =
    ap (λ (n : ℕ). dropped (set list n None) (slots_bytes slots)) (two_bytes slot (omega (arith, ascend.1)))
    ∙ bytes_drop (slot + 1) count (set list slot None) slots few ascend.2

-- what is in each slot afterwards

set_free : (list : List Slot) (n : ℕ) → get_or (set list n None) n None ≡ None
set_free list n =
    elim (cases_lt n (length list)) [
      | inl within ↦ get_or-set_same list n None None within
      | inr past ↦ ap (λ (l : List Slot). get_or l n None) (set_past list n None past) ∙ get_or_past list n None past
    ]

still_free : (list : List Slot) (slots : List ℕ) (n : ℕ) → get_or list n None ≡ None → get_or (with_free list slots) n None ≡ None
unfolding with_free
still_free list [] n free = free
still_free list (slot ∷ slots) n free =
    still_free (set list slot None) slots n
    (elim (cases_eq n slot) [
      | inl same ↦ ap (λ (k : ℕ). get_or (set list slot None) k None) same ∙ set_free list slot
      | inr away ↦ get_or-set_other list slot n None None away ∙ free
    ])

all_free : (list : List Slot) (slots : List ℕ) → All (λ n. get_or (with_free list slots) n None ≡ None) slots
unfolding with_free
all_free list [] = All-nil (λ (n : ℕ). get_or (with_free list []) n None ≡ None)
all_free list (slot ∷ slots) =
    All-cons (λ (n : ℕ). get_or (with_free (set list slot None) slots) n None ≡ None) slot slots (still_free (set list slot None) slots slot (set_free list slot)) (all_free (set list slot None) slots)

others_stay : (list : List Slot) (slots : List ℕ) (n : ℕ) → (Contains slots n → ⊥) → get_or (with_free list slots) n None ≡ get_or list n None
unfolding with_free
others_stay list [] n apart = refl
others_stay list (slot ∷ slots) n apart =
    others_stay (set list slot None) slots n (λ there. apart (suc there.0, omega (arith, there.1), there.2))
    ∙ get_or-set_other list slot n None None (λ same. apart (0, omega arith, sym same))

-- so it is of the blocks
pub frees_slots : (blocks : List (List Slot)) (block : ℕ) (free : List ℕ) → FreesSlots block free blocks
frees_slots blocks block free =
    elim (cases_lt block (length blocks)) [
      | inl there ↦
          let here : slots_of (with_slots_free blocks block free) block ≡ with_free (slots_of blocks block) free = get_or-set_same blocks block (with_free (slots_of blocks block) free) [] there in
          record {
            there = subst (λ (l : List Slot). All (λ n. get_or l n None ≡ None) free) (sym here) (all_free (slots_of blocks block) free);
            others = λ other apart.
                elim (cases_eq other.block block) [
                  | inl same ↦
                      let P : ℕ → Type 0 = λ b. get_or (slots_of (with_slots_free blocks block free) b) other.slot None ≡ get_or (slots_of blocks b) other.slot None in
                      subst P (sym same) (ap (λ (l : List Slot). get_or l other.slot None) here ∙ others_stay (slots_of blocks block) free other.slot (apart same))
                  | inr away ↦ ap (λ (l : List Slot). get_or l other.slot None) (get_or-set_other blocks block other.block (with_free (slots_of blocks block) free) [] away)
                ];
          }
      | inr past ↦
          let none : slots_of blocks block ≡ [] = get_or_past blocks block [] past in
          let still : with_slots_free blocks block free ≡ blocks = set_past blocks block (with_free (slots_of blocks block) free) past in
          record {
            there = λ k d within. ap (λ (l : List (List Slot)). get_or (slots_of l block) (get_or free k d) None) still ∙ ap (λ (l : List Slot). get_or l (get_or free k d) None) none;
            others = λ other apart. ap (λ (l : List (List Slot)). slot_at l other) still;
          }
    ]

-- the rows of the block

one_fewer : (from : ℕ) (list : List Slot) (n : ℕ) (row : StoredRow) → get_or list n None ≡ Some row → length (stored_from from (set list n None)) + 1 ≡ length (stored_from from list)
unfolding stored_from
one_fewer from [] n row at = absurd cc
one_fewer from (None ∷ list) zero row at = absurd cc
one_fewer from (Some first ∷ list) zero row at = omega arith
one_fewer from (None ∷ list) (suc n) row at = one_fewer (from + 1) list n row at
one_fewer from (Some first ∷ list) (suc n) row at = let rest = one_fewer (from + 1) list n row at in omega arith

-- each of these slots has a row
abbrev HaveRows : List Slot → List ℕ → Type 0
HaveRows list slots = All (λ n. (row : StoredRow) × (get_or list n None ≡ Some row)) slots

least_of : (least count : ℕ) (slots : List ℕ) → AreAscending least count slots → All (λ n. least ≤ n) slots
least_of least count [] ascend k d within = absurd (omega arith)
least_of least count (slot ∷ slots) ascend zero d within = ascend.0
least_of least count (slot ∷ slots) ascend (suc k) d within = let rest = least_of (slot + 1) count slots ascend.2 k d (omega arith) in omega (arith, ascend.0)

fewer_rows : (least count : ℕ) (list : List Slot) (slots : List ℕ) → AreAscending least count slots → HaveRows list slots → length (stored_rows (with_free list slots)) + length slots ≡ length (stored_rows list)
unfolding with_free
fewer_rows least count list [] ascend have = omega arith
fewer_rows least count list (slot ∷ slots) ascend have =
    let first = All-head (λ (n : ℕ). (row : StoredRow) × (get_or list n None ≡ Some row)) slot slots have in
    let rest : HaveRows (set list slot None) slots = λ k d within.
    let at = have (suc k) d (omega arith) in
    let above = least_of (slot + 1) count slots ascend.2 k d within in
    (at.0, get_or-set_other list slot (get_or slots k d) None None (λ same. absurd (omega arith)) ∙ at.1) in
    let fewer = fewer_rows (slot + 1) count (set list slot None) slots ascend.2 rest in
    let one = one_fewer 0 list slot first.0 first.1 in
    omega arith

-- a page of rows in use

-- the rows that are in use by the blocks that the table has
have_rows : {layout : DiskLayout} {table : ℕ} {pages : PageMap} {blocks : List (List Slot)} (one : OneList) (has : HasBlocks layout pages table blocks) (block : ℕ) (slots : List ℕ) → AreInUse layout pages table block slots → HaveRows (slots_of blocks block) slots
have_rows {layout} {table} {pages} {blocks} one has block slots used = λ k d within.
    let there = used k d within in
    (there.1, ap (λ (b : List (List Slot)). get_or (slots_of b block) (get_or slots k d) None) (one_list one layout pages table blocks there.0 has there.2) ∙ there.3)

-- the block of a slot in use is one of the blocks
block_there : {layout : DiskLayout} {table : ℕ} {pages : PageMap} {blocks : List (List Slot)} (one : OneList) (has : HasBlocks layout pages table blocks) (block slot : ℕ) → IsInUse layout pages table (record { block = block; slot = slot }) → block < length blocks
block_there {layout} {table} {pages} {blocks} one has block slot there =
    let same : there.0 ≡ blocks = one_list one layout pages table there.0 blocks there.2 has in
    subst (λ (b : List (List Slot)). block < length b) same (in_use there.2 (record { block = block; slot = slot }) there.1 there.3).0

pub fewer_found : {layout : DiskLayout} {table : ℕ} {pages : PageMap} {blocks : List (List Slot)} (one : OneList) (has : HasBlocks layout pages table blocks) (block count : ℕ) (slots : List ℕ) → AreAscending 0 count slots → AreInUse layout pages table block slots → HasFewerRows block slots blocks
unfolding with_free
fewer_found {layout} {table} {pages} {blocks} one has block count [] ascend used =
    let same : slots_of (with_slots_free blocks block []) block ≡ slots_of blocks block = ap (λ (b : List (List Slot)). slots_of b block) (set-get_or blocks block []) in
    let long = ap (λ (l : List Slot). length (stored_rows l)) same in
    omega arith
fewer_found {layout} {table} {pages} {blocks} one has block count (slot ∷ slots) ascend used =
    let there = block_there one has block slot (used 0 slot (omega arith)) in
    let here : slots_of (with_slots_free blocks block (slot ∷ slots)) block ≡ with_free (slots_of blocks block) (slot ∷ slots) = get_or-set_same blocks block (with_free (slots_of blocks block) (slot ∷ slots)) [] there in
    let long = ap (λ (l : List Slot). length (stored_rows l)) here in
    let fewer = fewer_rows 0 count (slots_of blocks block) (slot ∷ slots) ascend (have_rows one has block (slot ∷ slots) used) in
    omega arith

-- no slots: the blocks are as they were
pub none_free : {layout : DiskLayout} {table : ℕ} {pages : PageMap} {blocks : List (List Slot)} (has : HasBlocks layout pages table blocks) (block : ℕ) (slots : List ℕ) → length slots ≡ 0 → HasBlocks layout pages table (with_slots_free blocks block slots)
unfolding with_free
none_free {layout} {table} {pages} {blocks} has block [] none = subst (HasBlocks layout pages table) (sym (set-get_or blocks block [])) has
none_free {layout} {table} {pages} {blocks} has block (slot ∷ slots) none = absurd (omega arith)

-- the page takes the change
pub drop_fits : (layout : DiskLayout) (pages : PageMap) (table relation block : ℕ) (slots bytes : List ℕ) → relation ≡ relation_of table → form_of layout (relation_of table) ≡ form_at layout table → bytes ≡ slots_bytes slots → slots_a_page layout table ≤ 65536
    → AreAscending 0 (slots_a_page layout table) slots → 0 < length slots → AreInUse layout pages table block slots
    → IsHeapPage (form_of layout relation) (block_at pages relation block) × (are_ascending 0 (slot_count (form_of layout relation)) bytes ≡ true)
drop_fits layout pages table relation block slots bytes number found told few ascend some used =
    let there = used 0 0 some in
    let within = in_use there.2 (record { block = block; slot = get_or slots 0 0 }) there.1 there.3 in
    let page : IsHeapPage (form_at layout table) (block_at pages (relation_of table) block) = (slots_of there.0 block, there.2.started block within.0) in
    let count : slot_count (form_of layout relation) ≡ slots_a_page layout table = ap (λ (r : ℕ). slot_count (form_of layout r)) number ∙ ap slot_count found in (
      subst (λ (r : ℕ). IsHeapPage (form_of layout r) (block_at pages r block)) (sym number) (subst (λ (f : Form). IsHeapPage f (block_at pages (relation_of table) block)) (sym found) page),
      ap (λ (n : ℕ). are_ascending 0 n bytes) count ∙ ap (are_ascending 0 (slots_a_page layout table)) told ∙ bytes_ascend 0 (slots_a_page layout table) slots few ascend,
    )

-- and it changes those slots alone
pub drop_blocks : {layout : DiskLayout} {table : ℕ} {old : PageMap} {blocks : List (List Slot)} (new : PageMap) (one : OneList) (has : HasBlocks layout old table blocks) (relation block count : ℕ) (slots bytes : List ℕ) → relation ≡ relation_of table
    → form_of layout (relation_of table) ≡ form_at layout table → bytes ≡ slots_bytes slots → count ≤ 65536 → AreAscending 0 count slots → 0 < length slots → AreInUse layout old table block slots
    → Changed layout (record { relation = relation; block = block }) (RowsDrop (record { relation = relation; block = block }) bytes ∷ []) old new → HasBlocks layout new table (with_slots_free blocks block slots)
drop_blocks {layout} {table} {old} {blocks} new one has relation block count slots bytes number found told few ascend some used changed =
    let place : Place = record { relation = relation_of table; block = block } in
    let change : LoggedChange = RowsDrop place bytes in
    let there = block_there one has block (get_or slots 0 0) (used 0 0 some) in
    let done : Changed layout place (change ∷ []) old new = subst (λ (r : ℕ). Changed layout (record { relation = r; block = block }) (RowsDrop (record { relation = r; block = block }) bytes ∷ []) old new) number changed in
    let means = subst (λ (form : Form). Means form (page_at old place) change (page_at new place)) found (redone_once (form_of layout (relation_of table)) (page_at old place) change (page_at new place) done.redone) in
    let free : dropped (slots_of blocks block) bytes ≡ with_free (slots_of blocks block) slots = ap (dropped (slots_of blocks block)) told ∙ bytes_drop 0 count (slots_of blocks block) slots few ascend in
    set-block has block (with_free (slots_of blocks block) slots) there (λ other apart. done.others (record { relation = relation_of table; block = other }) (λ same. apart (ap (λ (p : Place). p.block) same)))
    (subst (HasSlots (form_at layout table) (page_at new place)) free (means (slots_of blocks block) (has.started block there)))
