-- What stands on a page after a write to one of its slots, or to one of its statuses.
use Rattle.std.proofs.Common.{◌≡◌, ℕ, zero, suc, ◌+◌, ◌-◌, ◌*◌, ◌/◌, ◌%◌, ◌<◌, ◌≤◌, ◌^◌, Bool, true, false, List, [], ◌∷◌, ◌++◌, length, take, drop, set, get_or, refl, sym, ap, subst, ◌∙◌, append_assoc, length-drop, arith}
use Rattle.std.specs.Prelude.{Option, None, Some, is_some, not, replicate, slice_get}
use Rattle.std.specs.Int.{bytes_high_first}
use Rattle.std.proofs.lemmas.List.{length-set, length-replicate, replicate-append-replicate, get_or-drop, take-append-le, drop-append-le, drop-drop, take_at, drop_at, length-take-le, set_split}
use Rattle.std.proofs.Math.Nat.{suc-mul}
use Rattle.block_model.specs.declared.value.Kind.{Kind}
use Rattle.block_model.specs.RowSize.{row_size}
use Rattle.page_layout.specs.declared.page.Form.{Form}
use Rattle.page_layout.specs.declared.page.Form.TheVariants as forms
use Rattle.page_layout.specs.RowBytes.{StoredRow, IsRow, head_bytes, row_bytes}
use Rattle.page_layout.specs.PageContents.{IsForm, HasSlot, HasSlots, IsRowOf, Slot, IsSlot, AreSlots, slot_bytes, slots_bytes, header_bytes, heap_bytes, IsHeap, statuses, IsStatusPage}
use Rattle.page_layout.specs.PageWrites.{IsEmptyHeap, IsOfHeap, RowHasBytes, marked, put_status}
use Rattle.page_layout.proofs.HeapSlots.{length-slot, length-slots}
use Rattle.page_layout.proofs.Rows.{length-row}
use Rattle.page_layout.proofs.Pages.{row_room, next_row}
use borrow.Rule.Slice.PartMut.{put_mid}

-- a write within the front
pub write_front : (a k : ℕ) (xs ys zs : List ℕ) → a + k ≤ length xs → put_mid a k (xs ++ ys) zs ≡ put_mid a k xs zs ++ ys
write_front a k xs ys zs within =
    let left : take a (xs ++ ys) ≡ take a xs = take-append-le a xs ys (omega arith) in
    let right : drop k (drop a (xs ++ ys)) ≡ drop k (drop a xs) ++ ys = ap (drop k) (drop-append-le a xs ys (omega arith)) ∙ drop-append-le k (drop a xs) ys (omega (arith, length-drop a xs)) in
    (λ i. left i ++ (zs ++ right i))
    ∙ ap (λ (l : List ℕ). take a xs ++ l) (sym (append_assoc zs (drop k (drop a xs)) ys))
    ∙ sym (append_assoc (take a xs) (zs ++ drop k (drop a xs)) ys)

-- a write behind the front
pub write_behind : (a k : ℕ) (xs ys zs : List ℕ) → put_mid (length xs + a) k (xs ++ ys) zs ≡ xs ++ put_mid a k ys zs
write_behind a k [] ys zs = let none : 0 + a ≡ a = omega arith in ap (λ (m : ℕ). put_mid m k ys zs) none
write_behind a k (x ∷ xs) ys zs =
    let more : suc (length xs) + a ≡ suc (length xs + a) = omega arith in
    ap (λ (m : ℕ). put_mid m k (x ∷ (xs ++ ys)) zs) more ∙ ap (λ (l : List ℕ). x ∷ l) (write_behind a k xs ys zs)

-- a write to a part of slot n
slots-write : (ks : List Kind) (slots : List Slot) (n a k : ℕ) (behind zs : List ℕ) (old new : Slot) → AreSlots ks slots → slice_get slots n ≡ Some old → a + k ≤ row_size ks
    → put_mid a k (slot_bytes ks old) zs ≡ slot_bytes ks new → put_mid (n * row_size ks + a) k (slots_bytes ks slots ++ behind) zs ≡ slots_bytes ks (set slots n new) ++ behind
unfolding slots_bytes
slots-write ks [] n a k behind zs old new are there within one = absurd cc
slots-write ks (slot ∷ slots) zero a k behind zs old new are there within one =
    let own = slot_bytes ks slot in
    let rest = slots_bytes ks slots ++ behind in
    let none : 0 * row_size ks + a ≡ a = omega arith in
    let same : slot ≡ old = cc in
    ap (λ (l : List ℕ). put_mid (0 * row_size ks + a) k l zs) (append_assoc own (slots_bytes ks slots) behind)
    ∙ ap (λ (m : ℕ). put_mid m k (own ++ rest) zs) none
    ∙ write_front a k own rest zs (omega (arith, length-slot ks slot are.0))
    ∙ ap (λ (s : Slot). put_mid a k (slot_bytes ks s) zs ++ rest) same
    ∙ ap (λ (l : List ℕ). l ++ rest) one
    ∙ sym (append_assoc (slot_bytes ks new) (slots_bytes ks slots) behind)
slots-write ks (slot ∷ slots) (suc n) a k behind zs old new are there within one =
    let own = slot_bytes ks slot in
    let rest = slots_bytes ks slots ++ behind in
    let more : suc n * row_size ks + a ≡ length own + (n * row_size ks + a) = omega (arith, suc-mul n (row_size ks), length-slot ks slot are.0) in
    ap (λ (l : List ℕ). put_mid (suc n * row_size ks + a) k l zs) (append_assoc own (slots_bytes ks slots) behind)
    ∙ ap (λ (m : ℕ). put_mid m k (own ++ rest) zs) more
    ∙ write_behind (n * row_size ks + a) k own rest zs
    ∙ ap (λ (l : List ℕ). own ++ l) (slots-write ks slots n a k behind zs old new are.1 there within one)
    ∙ sym (append_assoc own (slots_bytes ks (set slots n new)) behind)

are_set : (ks : List Kind) (slots : List Slot) (n : ℕ) (new : Slot) → AreSlots ks slots → IsSlot ks new → AreSlots ks (set slots n new)
are_set ks [] n new are is = tt
are_set ks (slot ∷ slots) zero new are is = (is, are.1)
are_set ks (slot ∷ slots) (suc n) new are is = (are.0, are_set ks slots n new are.1 is)

-- a heap page after a write to a part of slot n
pub heap_write : (ks : List Kind) (count : ℕ) (slots : List Slot) (page page_new zs : List ℕ) (n a k row : ℕ) (old new : Slot) → row ≡ row_size ks → IsHeap ks count slots page → slice_get slots n ≡ Some old → a + k ≤ row_size ks
    → put_mid a k (slot_bytes ks old) zs ≡ slot_bytes ks new → IsSlot ks new → page_new ≡ put_mid (32 + (n * row + a)) k page zs → IsHeap ks count (set slots n new) page_new
unfolding heap_bytes
heap_write ks count slots page page_new zs n a k row old new is heap there within one fine written =
    let zeros = 8160 - length (slots_bytes ks slots) in
    let tail : zeros ≡ 8160 - length (slots_bytes ks (set slots n new)) = omega (arith, length-slots ks slots heap.are, length-slots ks (set slots n new) (are_set ks slots n new heap.are fine), ap (λ (m : ℕ). m * row_size ks) (length-set slots n new)) in
    record {
      counted = length-set slots n new ∙ heap.counted;
      are = are_set ks slots n new heap.are fine;
      bytes =
          written
          ∙ ap (λ (r : ℕ). put_mid (32 + (n * r + a)) k page zs) is
          ∙ ap (λ (l : List ℕ). put_mid (32 + (n * row_size ks + a)) k l zs) heap.bytes
          ∙ write_behind (n * row_size ks + a) k (header_bytes 2) (slots_bytes ks slots ++ replicate zeros 0) zs
          ∙ ap (λ (l : List ℕ). header_bytes 2 ++ l) (slots-write ks slots n a k (replicate zeros 0) zs old new heap.are there within one)
          ∙ ap (λ (m : ℕ). header_bytes 2 ++ (slots_bytes ks (set slots n new) ++ replicate m 0)) tail;
    }

-- a whole slot
pub write_all : (xs zs : List ℕ) (k : ℕ) → length xs ≡ k → put_mid 0 k xs zs ≡ zs
write_all xs zs k len = ap (λ (l : List ℕ). zs ++ l) (Rattle.std.proofs.lemmas.List.drop_all k xs (omega arith)) ∙ Rattle.std.proofs.lemmas.List.append-nil zs

-- statuses

four : (a b c d e f g h : ℕ) (rest : List ℕ) → a ≡ e → b ≡ f → c ≡ g → d ≡ h → a ∷ b ∷ c ∷ d ∷ rest ≡ e ∷ f ∷ g ∷ h ∷ rest
four a b c d e f g h rest p q r s = λ i. p i ∷ q i ∷ r i ∷ s i ∷ rest

pub status_write : (bytes : List ℕ) (e s : ℕ) → e < 4 * length bytes → s < 4 → statuses (set bytes (e / 4) (put_status (get_or bytes (e / 4) 0) (e % 4) s)) ≡ set (statuses bytes) e s
unfolding statuses
status_write [] e s below small = absurd (omega arith)
status_write (b ∷ bytes) zero s below small = four _ _ _ _ _ _ _ _ (statuses bytes) (omega arith) (omega arith) (omega arith) (omega arith)
status_write (b ∷ bytes) (suc zero) s below small = four _ _ _ _ _ _ _ _ (statuses bytes) (omega arith) (omega arith) (omega arith) (omega arith)
status_write (b ∷ bytes) (suc (suc zero)) s below small = four _ _ _ _ _ _ _ _ (statuses bytes) (omega arith) (omega arith) (omega arith) (omega arith)
status_write (b ∷ bytes) (suc (suc (suc zero))) s below small = four _ _ _ _ _ _ _ _ (statuses bytes) (omega arith) (omega arith) (omega arith) (omega arith)
status_write (b ∷ bytes) (suc (suc (suc (suc e)))) s below small =
    let next : suc (suc (suc (suc e))) / 4 ≡ suc (e / 4) = omega arith in
    let same : suc (suc (suc (suc e))) % 4 ≡ e % 4 = omega arith in
    (λ i. statuses (set (b ∷ bytes) (next i) (put_status (get_or (b ∷ bytes) (next i) 0) (same i) s)))
    ∙ ap (λ (l : List ℕ). b % 4 ∷ b / 4 % 4 ∷ b / 16 % 4 ∷ b / 64 % 4 ∷ l) (status_write bytes e s (omega arith) small)

-- a page of statuses after a write to one of them
pub status_page_write : (page page_new entries : List ℕ) (e s byte q r : ℕ) → e < 32640 → s < 4 → q ≡ e / 4 → r ≡ e % 4 → IsStatusPage page entries → byte ≡ put_status (get_or page (32 + q) 0) r s
    → page_new ≡ put_mid (32 + q) 1 page (byte ∷ []) → IsStatusPage page_new (set entries e s)
status_page_write page page_new entries e s byte q r below small qe re is byte_is written =
    let body = is.bytes.0 in
    let long : length body ≡ 8160 = is.bytes.1 in
    let here : get_or page (32 + q) 0 ≡ get_or body (e / 4) 0 = sym (get_or-drop 32 page q 0) ∙ (λ i. get_or (drop 32 (is.bytes.2 i)) (qe i) 0) in
    let same : byte ≡ put_status (get_or body (e / 4) 0) (e % 4) s = byte_is ∙ (λ i. put_status (here i) (re i) s) in
    let next = put_status (get_or body (e / 4) 0) (e % 4) s in
    let within : e / 4 < length body = omega arith in
    let one : put_mid (e / 4) 1 body (next ∷ []) ≡ set body (e / 4) next =
    ap (λ (l : List ℕ). take (e / 4) body ++ (next ∷ l)) (drop-drop 1 (e / 4) body ∙ ap (λ (k : ℕ). drop k body) (let k : e / 4 + 1 ≡ suc (e / 4) = omega arith in k)) ∙ sym (set_split body (e / 4) next within) in
    record {
      bytes = (
        set body (e / 4) next,
        length-set body (e / 4) next ∙ long,
        written
            ∙ (λ i. put_mid (32 + qe i) 1 (is.bytes.2 i) (same i ∷ []))
            ∙ write_behind (e / 4) 1 (header_bytes 1) body (next ∷ [])
            ∙ ap (λ (l : List ℕ). header_bytes 1 ++ l) one,
        ap (λ (l : List ℕ). set l e s) is.bytes.3 ∙ sym (status_write body e s (omega arith) small),
      );
    }

-- a slot that is there
slot_there : (slots : List Slot) (n : ℕ) → n < length slots → (old : Slot) × (slice_get slots n ≡ Some old)
slot_there [] n below = absurd (omega arith)
slot_there (slot ∷ slots) zero below = (slot, refl)
slot_there (slot ∷ slots) (suc n) below = slot_there slots n (omega arith)

-- and what it is
slot_fine : (ks : List Kind) (slots : List Slot) (n : ℕ) (slot : Slot) → AreSlots ks slots → slice_get slots n ≡ Some slot → IsSlot ks slot
slot_fine ks [] n slot are there = absurd cc
slot_fine ks (x ∷ slots) zero slot are there = subst (IsSlot ks) (let e : x ≡ slot = cc in e) are.0
slot_fine ks (x ∷ slots) (suc n) slot are there = slot_fine ks slots n slot are.1 there

-- a heap page after a write to the whole of slot n
slot_write : (row count : ℕ) (ks : List Kind) (page page_new zs : List ℕ) (n k : ℕ) (slots : List Slot) (slot : Slot) → row ≡ row_size ks → n < count → IsHeap ks count slots page → k ≡ row_size ks → IsSlot ks slot → zs ≡ slot_bytes ks slot
    → page_new ≡ put_mid (32 + n * row) k page zs → IsHeap ks count (set slots n slot) page_new
slot_write row count ks page page_new zs n k slots slot is below heap long fine zs_is written =
    let there = slot_there slots n (omega (arith, heap.counted)) in
    let r = row_size ks in
    let old_fine : IsSlot ks there.0 = slot_fine ks slots n there.0 heap.are there.1 in
    let at : 32 + n * row ≡ 32 + (n * row + 0) = omega arith in
    heap_write ks count slots page page_new zs n 0 r row there.0 slot is heap there.1 (omega arith) (write_all (slot_bytes ks there.0) zs r (length-slot ks there.0 old_fine) ∙ zs_is) fine
    (written ∙ (λ i. put_mid (at i) (long i) page zs))

-- by the form

pub put-by : (form : Form) (row count : ℕ) (ks : List Kind) (format : ℕ) (page page_new bytes : List ℕ) (n r m : ℕ) (slots : List Slot) (value : StoredRow) → form ≡ forms.Heap row count ks format → r ≡ row → m ≡ n
    → IsForm form → HasSlot form n → HasSlots form page slots → RowHasBytes form bytes value → page_new ≡ put_mid (32 + m * r) (length bytes) page bytes → HasSlots form page_new (set slots n (Some value))
put-by form row count ks format page page_new bytes n r m slots value e re me =
    subst (λ (f : Form). IsForm f → HasSlot f n → HasSlots f page slots → RowHasBytes f bytes value → page_new ≡ put_mid (32 + m * r) (length bytes) page bytes → HasSlots f page_new (set slots n (Some value))) (sym e)
    (λ is below heap has written.
    slot_write row count ks page page_new bytes n (length bytes) slots (Some value) is.0 below heap (ap length has.1 ∙ length-row ks value has.0.columns) has.0 has.1 (written ∙ (λ i. put_mid (32 + me i * re i) (length bytes) page bytes)))

pub free_by : (form : Form) (row count : ℕ) (ks : List Kind) (format : ℕ) (page page_new : List ℕ) (n r m : ℕ) (slots : List Slot) → form ≡ forms.Heap row count ks format → r ≡ row → m ≡ n
    → IsForm form → HasSlot form n → HasSlots form page slots → page_new ≡ put_mid (32 + m * r) r page (replicate r 0) → HasSlots form page_new (set slots n None)
free_by form row count ks format page page_new n r m slots e re me =
    subst (λ (f : Form). IsForm f → HasSlot f n → HasSlots f page slots → page_new ≡ put_mid (32 + m * r) r page (replicate r 0) → HasSlots f page_new (set slots n None)) (sym e)
    (λ is below heap written.
    slot_write row count ks page page_new (replicate r 0) n r slots None is.0 below heap (re ∙ is.0) tt (ap (λ (k : ℕ). replicate k 0) (re ∙ is.0)) (written ∙ (λ i. put_mid (32 + me i * re i) r page (replicate r 0))))

mark_row : (ks : List Kind) (value : StoredRow) (t : ℕ) → put_mid 13 8 (row_bytes ks value) (bytes_high_first 8 t) ≡ row_bytes ks (marked value t)
unfolding row_bytes head_bytes
mark_row ks value t = refl

marked-is : (ks : List Kind) (value : StoredRow) (t : ℕ) → t < 2 ^ 64 → IsRow ks value → IsRow ks (marked value t)
marked-is ks value t small is = record { t = is.t; k = is.k; deleter = small; columns = is.columns; values = is.values }

pub mark_by : (form : Form) (row count : ℕ) (ks : List Kind) (format : ℕ) (page page_new zs : List ℕ) (n at t : ℕ) (slots : List Slot) (value : StoredRow) → zs ≡ bytes_high_first 8 t → form ≡ forms.Heap row count ks format → at ≡ 32 + n * row + 13 → t < 2 ^ 64
    → IsForm form → HasSlots form page slots → slice_get slots n ≡ Some (Some value) → page_new ≡ put_mid at (length zs) page zs → HasSlots form page_new (set slots n (Some (marked value t)))
mark_by form row count ks format page page_new zs n at t slots value ze e at_is small =
    subst (λ (f : Form). IsForm f → HasSlots f page slots → slice_get slots n ≡ Some (Some value) → page_new ≡ put_mid at (length zs) page zs → HasSlots f page_new (set slots n (Some (marked value t)))) (sym e)
    (λ is heap there written.
    let fine : IsRow ks value = slot_fine ks slots n (Some value) heap.are there in
    let here : at ≡ 32 + (n * row + 13) = omega arith in
    heap_write ks count slots page page_new (bytes_high_first 8 t) n 13 8 row (Some value) (Some (marked value t)) is.0 heap there (omega arith) (mark_row ks value t) (marked-is ks value t small fine)
    (written ∙ (λ i. put_mid (here i) (length (ze i)) page (ze i))))

-- an empty heap page

free_are : (ks : List Kind) (n : ℕ) → AreSlots ks (replicate n None)
free_are ks zero = tt
free_are ks (suc n) = (tt, free_are ks n)

free_bytes : (ks : List Kind) (n : ℕ) → slots_bytes ks (replicate n None) ≡ replicate (n * row_size ks) 0
unfolding slots_bytes
free_bytes ks zero = ap (λ (k : ℕ). replicate k 0) (let e : 0 ≡ 0 * row_size ks = omega arith in e)
free_bytes ks (suc n) =
    ap (λ (l : List ℕ). replicate (row_size ks) 0 ++ l) (free_bytes ks n)
    ∙ replicate-append-replicate (row_size ks) (n * row_size ks) 0
    ∙ ap (λ (k : ℕ). replicate k 0) (let e : row_size ks + n * row_size ks ≡ suc n * row_size ks = omega (arith, suc-mul n (row_size ks)) in e)

empty-heap : (ks : List Kind) (count : ℕ) → count * row_size ks ≤ 8160 → IsHeap ks count (replicate count None) (header_bytes 2 ++ replicate 8160 0)
unfolding heap_bytes
empty-heap ks count room =
    let size = count * row_size ks in
    let long : length (slots_bytes ks (replicate count None)) ≡ size = ap length (free_bytes ks count) ∙ length-replicate size 0 in
    record {
      counted = length-replicate count None;
      are = free_are ks count;
      bytes =
          ap (λ (l : List ℕ). header_bytes 2 ++ l)
          (sym ((λ i. free_bytes ks count i ++ replicate (8160 - long i) 0) ∙ replicate-append-replicate size (8160 - size) 0 ∙ ap (λ (k : ℕ). replicate k 0) (let e : size + (8160 - size) ≡ 8160 = omega arith in e)));
    }

pub empty-by : (form : Form) (page zeros page_new : List ℕ) (n m : ℕ) → n ≡ 8192 → m ≡ 8160 → length page ≡ n → zeros ≡ put_mid 0 n page (replicate n 0) → page_new ≡ put_mid 0 1 zeros (2 ∷ []) → IsForm form → IsOfHeap form → IsEmptyHeap form page_new
empty-by forms.Status page zeros page_new n m ne me long cleared written is heap = heap
empty-by forms.Index page zeros page_new n m ne me long cleared written is heap = heap
empty-by (forms.Heap row count ks format) page zeros page_new n m ne me long cleared written is heap =
    let all : zeros ≡ replicate n 0 = cleared ∙ write_all page (replicate n 0) n long in
    let split : replicate n 0 ≡ header_bytes 0 ++ replicate m 0 = ap (λ (k : ℕ). replicate k 0) (let e : n ≡ 32 + m = omega arith in e) ∙ sym (replicate-append-replicate 32 m 0) in
    let start : page_new ≡ header_bytes 2 ++ replicate m 0 = written ∙ ap (λ (l : List ℕ). put_mid 0 1 l (2 ∷ [])) (all ∙ split) in
    let room : count * row_size ks ≤ 8160 = omega (arith, is.1, ap (λ (r : ℕ). count * r) is.0) in
    subst (λ (p : List ℕ). IsHeap ks count (replicate count None) p) (sym (start ∙ ap (λ (k : ℕ). header_bytes 2 ++ replicate k 0) me)) (empty-heap ks count room)

-- whether bytes are a row's

pub none_is : (o : Option ℕ) (b : Bool) → is_some o ≡ not b → b ≡ true → o ≡ None
none_is None b e t = refl
none_is (Some x) b e t = absurd cc

pub none_not : (o : Option ℕ) (b : Bool) → is_some o ≡ not b → b ≡ false → o ≡ None → ⊥
none_not None b e t n = cc
none_not (Some x) b e t n = cc

pub row_front : (ks : List Kind) (value : StoredRow) → get_or (row_bytes ks value) 0 0 ≡ 1
unfolding row_bytes head_bytes
row_front ks value = refl

pub row_room_of : (form : Form) (row count : ℕ) (ks : List Kind) (format : ℕ) (n : ℕ) (bytes : List ℕ) → form ≡ forms.Heap row count ks format → IsForm form → HasSlot form n → IsRowOf form bytes → 32 + n * row + length bytes ≤ 8192
row_room_of form row count ks format n bytes e =
    subst (λ (f : Form). IsForm f → HasSlot f n → IsRowOf f bytes → 32 + n * row + length bytes ≤ 8192) (sym e)
    (λ is below has.
    let long : length bytes ≡ row_size ks = ap length has.2 ∙ length-row ks has.0 has.1.columns in
    let behind : (n + 1) * row ≤ count * row = row_room count n row below in
    omega (arith, is.0, is.1, next_row n row))
