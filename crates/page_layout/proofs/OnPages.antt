-- What is read from a page by the lists that it has.
use Rattle.std.proofs.Common.{◌≡◌, ℕ, zero, suc, ◌+◌, ◌-◌, ◌*◌, ◌/◌, ◌%◌, ◌<◌, ◌≤◌, inl, inr, cond, eqb, List, [], ◌∷◌, ◌++◌, length, take, drop, get_or, refl, sym, ap, subst, ◌∙◌, append_assoc, arith, Bor}
use Rattle.std.specs.Prelude.{Option, None, Some, replicate, slice_get, IfSome}
use Rattle.std.specs.Option.{option_map}
use Rattle.std.proofs.lemmas.List.{take_at, drop_at, drop-drop, get_or-take, get_or-drop, get_or-replicate}
use Rattle.std.proofs.Math.Nat.{suc-mul}
use Rattle.block_model.specs.declared.value.Kind.{Kind}
use Rattle.block_model.specs.RowSize.{row_size}
use Rattle.page_layout.specs.declared.page.Form.{Form}
use Rattle.page_layout.specs.declared.page.Form.TheVariants as forms
use Rattle.page_layout.specs.RowBytes.{StoredRow, IsRowBytes, head_bytes, row_bytes}
use Rattle.page_layout.specs.RowReading.{row_in}
use Rattle.page_layout.specs.RowFaults.{row_fault}
use Rattle.page_layout.specs.PageWrites.{RowHasBytes}
use Rattle.page_layout.specs.PageContents.{Slot, IsSlot, AreSlots, slot_bytes, slots_bytes, heap_bytes, IsHeap, IsUnstarted, IsPageOf, IsForm, HasSlot, HasSlots, IsRowOf, used_bytes, row_bytes_in, used_in, status_in, statuses}
use Rattle.page_layout.proofs.HeapSlots.{length-slot}
use Rattle.page_layout.proofs.Pages.{row_room, next_row}
use Rattle.page_layout.proofs.Rows.{row_again, row_passes, length-row}

-- statuses

pub status_entry : (bytes : List ℕ) (e : ℕ) → e < 4 * length bytes → status_in (get_or bytes (e / 4) 0) (e % 4) ≡ get_or (statuses bytes) e 0
unfolding statuses
status_entry [] e below = absurd (omega arith)
status_entry (b ∷ bytes) zero below = refl
status_entry (b ∷ bytes) (suc zero) below = refl
status_entry (b ∷ bytes) (suc (suc zero)) below = refl
status_entry (b ∷ bytes) (suc (suc (suc zero))) below = refl
status_entry (b ∷ bytes) (suc (suc (suc (suc e)))) below =
    let next : suc (suc (suc (suc e))) / 4 ≡ suc (e / 4) = omega arith in
    let same : suc (suc (suc (suc e))) % 4 ≡ e % 4 = omega arith in
    (λ i. status_in (get_or (b ∷ bytes) (next i) 0) (same i)) ∙ status_entry bytes e (omega arith)

-- the bytes of a slot

used_of : (ks : List Kind) (slot : Slot) → used_in (slot_bytes ks slot) ≡ used_bytes ks (Some slot)
unfolding row_bytes head_bytes
used_of ks None = ap (λ (x : ℕ). cond (eqb x 0) None (Some (replicate (row_size ks) 0))) (get_or-replicate (row_size ks) 0 0 0 (omega arith))
used_of ks (Some row) = refl

-- what is in a slot, and its bytes
record SlotAt (ks : List Kind) (slots : List Slot) (n : ℕ) (bytes : List ℕ) (slot : Slot) : Type 0 where
  there : slice_get slots n ≡ Some slot
  is : IsSlot ks slot
  written : bytes ≡ slot_bytes ks slot

slot_at : (ks : List Kind) (slots : List Slot) (n : ℕ) (behind : List ℕ) → AreSlots ks slots → n < length slots
    → (slot : Slot) × SlotAt ks slots n (take (row_size ks) (drop (n * row_size ks) (slots_bytes ks slots ++ behind))) slot
unfolding slots_bytes
slot_at ks [] n behind are below = absurd (omega arith)
slot_at ks (slot ∷ slots) zero behind are below =
    let r = row_size ks in
    let own = slot_bytes ks slot in
    let none : 0 * r ≡ 0 = omega arith in (
      slot,
      record {
        there = refl;
        is = are.0;
        written = ap (λ (k : ℕ). take r (drop k ((own ++ slots_bytes ks slots) ++ behind))) none ∙ ap (take r) (append_assoc own (slots_bytes ks slots) behind) ∙ take_at own (slots_bytes ks slots ++ behind) r (length-slot ks slot are.0);
      },
    )
slot_at ks (slot ∷ slots) (suc n) behind are below =
    let r = row_size ks in
    let own = slot_bytes ks slot in
    let rest = slots_bytes ks slots ++ behind in
    let more : suc n * r ≡ r + n * r = omega (arith, suc-mul n r) in
    let t = slot_at ks slots n behind are.1 (omega arith) in (
      t.0,
      record {
        there = t.1.there;
        is = t.1.is;
        written =
            ap (λ (k : ℕ). take r (drop k ((own ++ slots_bytes ks slots) ++ behind))) more
            ∙ ap (take r) (sym (drop-drop (n * r) r ((own ++ slots_bytes ks slots) ++ behind)))
            ∙ ap (λ (l : List ℕ). take r (drop (n * r) (drop r l))) (append_assoc own (slots_bytes ks slots) behind)
            ∙ ap (λ (l : List ℕ). take r (drop (n * r) l)) (drop_at own rest r (length-slot ks slot are.0))
            ∙ t.1.written;
      },
    )

heap_slot : (ks : List Kind) (count : ℕ) (slots : List Slot) (page : List ℕ) (n row : ℕ) → row ≡ row_size ks → IsHeap ks count slots page → n < count
    → (slot : Slot) × SlotAt ks slots n (take row (drop (32 + n * row) page)) slot
unfolding heap_bytes
heap_slot ks count slots page n row is heap below =
    let zeros = replicate (8160 - length (slots_bytes ks slots)) 0 in
    let t = slot_at ks slots n zeros heap.are (omega (arith, heap.counted)) in (
      t.0,
      record {
        there = t.1.there;
        is = t.1.is;
        written =
            ap (λ (r : ℕ). take r (drop (32 + n * r) page)) is
            ∙ ap (take (row_size ks)) (sym (drop-drop (n * row_size ks) 32 page))
            ∙ ap (λ (l : List ℕ). take (row_size ks) (drop (n * row_size ks) (drop 32 l))) heap.bytes
            ∙ t.1.written;
      },
    )

-- what is read of a slot is its row, if it has one
pub read_contents : (form : Form) (row count : ℕ) (ks : List Kind) (format : ℕ) (page : List ℕ) (n : ℕ) (slots : List Slot) → form ≡ forms.Heap row count ks format
    → IsForm form → HasSlot form n → HasSlots form page slots → used_in (take row (drop (32 + n * row) page)) ≡ row_bytes_in form slots n
read_contents form row count ks format page n slots e =
    subst (λ (f : Form). IsForm f → HasSlot f n → HasSlots f page slots → used_in (take row (drop (32 + n * row) page)) ≡ row_bytes_in f slots n) (sym e)
    (λ is below heap.
    let t = heap_slot ks count slots page n row is.0 heap below in
    ap used_in t.1.written ∙ used_of ks t.0 ∙ ap (used_bytes ks) (sym t.1.there))

-- and nothing where the page isn't started
pub read_unstarted : (page : List ℕ) (long at row : ℕ) → long ≡ 8192 → at < 8192 → 0 < row → IsUnstarted page → used_in (take row (drop at page)) ≡ None
read_unstarted page long at row is_long within some zeros =
    let first : get_or (take row (drop at page)) 0 0 ≡ 0 =
    get_or-take row (drop at page) 0 0 some ∙ get_or-drop at page 0 0 ∙ ap (λ (l : List ℕ). get_or l (at + 0) 0) (zeros ∙ ap (λ (k : ℕ). replicate k 0) (sym is_long)) ∙ get_or-replicate long (at + 0) 0 0 (omega arith) in
    ap (λ (x : ℕ). cond (eqb x 0) None (Some (take row (drop at page)))) first

-- a fact of what was answered
if_some : (result : Option (Bor (List ℕ))) (o : Option (List ℕ)) (P : List ℕ → Type 0) → option_map (λ (b : Bor (List ℕ)). b.now) result ≡ o → IfSome o P → IfSome result (λ b. P b.now)
if_some None o P e h = tt
if_some (Some b) o P e h = subst (λ (p : Option (List ℕ)). IfSome p P) (sym e) h

used_row : (ks : List Kind) (slot : Slot) → IsSlot ks slot → IfSome (used_bytes ks (Some slot)) (IsRowBytes ks)
used_row ks None is = tt
used_row ks (Some row) is = (row, is, refl)

-- what is read are the bytes of a row
pub read_row : (form : Form) (row count : ℕ) (ks : List Kind) (format : ℕ) (page : List ℕ) (n : ℕ) (result : Option (Bor (List ℕ))) → form ≡ forms.Heap row count ks format
    → IsForm form → HasSlot form n → 32 + n * row < 8192 → 0 < row → IsPageOf form page → option_map (λ (b : Bor (List ℕ)). b.now) result ≡ used_in (take row (drop (32 + n * row) page)) → IfSome result (λ b. IsRowOf form b.now)
read_row form row count ks format page n result e =
    subst (λ (f : Form). IsForm f → HasSlot f n → 32 + n * row < 8192 → 0 < row → IsPageOf f page → option_map (λ (b : Bor (List ℕ)). b.now) result ≡ used_in (take row (drop (32 + n * row) page)) → IfSome result (λ b. IsRowOf f b.now)) (sym e)
    (λ is below within some page_is read. by_page is below within some read page_is)
  where
    by_page : IsForm (forms.Heap row count ks format) → n < count → 32 + n * row < 8192 → 0 < row → option_map (λ (b : Bor (List ℕ)). b.now) result ≡ used_in (take row (drop (32 + n * row) page)) → IsPageOf (forms.Heap row count ks format) page → IfSome result (λ b. IsRowBytes ks b.now)
    by_page is below within some read (inl zeros) = if_some result None (IsRowBytes ks) (read ∙ read_unstarted page 8192 (32 + n * row) row refl within some zeros) tt
    by_page is below within some read (inr started) =
        let t = heap_slot ks count started.0 page n row is.0 started.1 below in
        if_some result (used_bytes ks (Some t.0)) (IsRowBytes ks) (read ∙ ap used_in t.1.written ∙ used_of ks t.0) (used_row ks t.0 t.1.is)

-- a slot of a form is within a page
pub slot_room : (form : Form) (row count : ℕ) (ks : List Kind) (format : ℕ) (n : ℕ) → form ≡ forms.Heap row count ks format → IsForm form → HasSlot form n → (32 + n * row < 8192) × (0 < row)
slot_room form row count ks format n e =
    subst (λ (f : Form). IsForm f → HasSlot f n → (32 + n * row < 8192) × (0 < row)) (sym e)
    (λ is below.
    let some : 0 < row = omega (arith, is.0) in
    let behind : (n + 1) * row ≤ count * row = row_room count n row below in
    (omega (arith, is.1, next_row n row), some))

-- the bytes of a row of a form are read as that row

pub row_sound : (form : Form) (row count : ℕ) (ks : List Kind) (format : ℕ) (bytes : List ℕ) → form ≡ forms.Heap row count ks format → IsRowOf form bytes → (length bytes ≡ row_size ks) × (row_fault ks bytes ≡ None)
row_sound form row count ks format bytes e =
    subst (λ (f : Form). IsRowOf f bytes → (length bytes ≡ row_size ks) × (row_fault ks bytes ≡ None)) (sym e)
    (λ is. (ap length is.2 ∙ length-row ks is.0 is.1.columns, ap (row_fault ks) is.2 ∙ row_passes ks is.0 is.1))

pub row_is : (form : Form) (row count : ℕ) (ks : List Kind) (format : ℕ) (bytes : List ℕ) (stored : StoredRow) → form ≡ forms.Heap row count ks format → RowHasBytes form bytes stored → row_in ks bytes ≡ stored
row_is form row count ks format bytes stored e =
    subst (λ (f : Form). RowHasBytes f bytes stored → row_in ks bytes ≡ stored) (sym e)
    (λ has. ap (row_in ks) has.1 ∙ row_again ks stored has.0)
