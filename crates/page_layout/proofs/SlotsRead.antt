-- The slots of a page are those that are read from its bytes.
use Rattle.std.proofs.Common.{◌≡◌, ℕ, zero, suc, ◌-◌, inl, inr, Bool, true, false, cond, eqb, List, [], ◌∷◌, ◌++◌, length, take, drop, get_or, refl, sym, ap, subst, ◌∙◌, append_assoc, arith}
use Rattle.std.specs.Prelude.{Option, None, Some, replicate}
use Rattle.std.proofs.lemmas.List.{take_at, drop_at, drop-replicate, get_or-replicate}
use Rattle.block_model.specs.declared.value.Kind.{Kind}
use Rattle.block_model.specs.RowSize.{row_size}
use Rattle.page_layout.specs.declared.page.Form.{Form}
use Rattle.page_layout.specs.declared.page.Form.TheVariants as forms
use Rattle.page_layout.specs.RowBytes.{head_bytes, row_bytes}
use Rattle.page_layout.specs.RowReading.{row_in}
use Rattle.page_layout.specs.FreeSlots.{slot_count, free_count, lowest_free, lowest_free_from}
use Rattle.page_layout.specs.PageContents.{Slot, IsSlot, AreSlots, slot_bytes, slots_bytes, heap_bytes, IsHeap, IsUnstarted, IsStarted, IsPageOf, HasSlots}
use Rattle.page_layout.specs.PageFaults.{has_page_kind}
use Rattle.page_layout.specs.PageWrites.{IsOfHeap}
use Rattle.page_layout.specs.SlotsOnPage.{slot_in, slots_in, slots_on, free_on, lowest_on}
use Rattle.page_layout.specs.SlotLaws.{heap_front, started_front, unstarted_front, lowest_from}
use Rattle.page_layout.proofs.HeapSlots.{length-slot}
use Rattle.page_layout.proofs.Rows.{row_again}

-- a slot is read from its bytes

slot_again : (ks : List Kind) (slot : Slot) → IsSlot ks slot → slot_in ks (slot_bytes ks slot) ≡ slot
unfolding row_bytes head_bytes
slot_again ks None is = ap (λ (x : ℕ). cond (eqb x 0) None (Some (row_in ks (replicate (row_size ks) 0)))) (get_or-replicate (row_size ks) 0 0 0 (omega arith))
slot_again ks (Some row) is = ap Some (row_again ks row is)

slots_again : (ks : List Kind) (slots : List Slot) (behind : List ℕ) → AreSlots ks slots → slots_in ks (length slots) (slots_bytes ks slots ++ behind) ≡ slots
unfolding slots_in slots_bytes
slots_again ks [] behind are = refl
slots_again ks (slot ∷ slots) behind are =
    let r = row_size ks in
    let own = slot_bytes ks slot in
    let rest = slots_bytes ks slots ++ behind in
    let long = length-slot ks slot are.0 in
    ap (λ (l : List ℕ). slot_in ks (take r l) ∷ slots_in ks (length slots) (drop r l)) (append_assoc own (slots_bytes ks slots) behind)
    ∙ (λ i. slot_in ks (take_at own rest r long i) ∷ slots_in ks (length slots) (drop_at own rest r long i))
    ∙ (λ i. slot_again ks slot are.0 i ∷ slots_again ks slots behind are.1 i)

heap_read : (ks : List Kind) (count : ℕ) (slots : List Slot) (page : List ℕ) → IsHeap ks count slots page → slots ≡ slots_in ks count (drop 32 page)
unfolding heap_bytes
heap_read ks count slots page heap =
    let zeros = replicate (8160 - length (slots_bytes ks slots)) 0 in
    sym (ap (λ (l : List ℕ). slots_in ks count (drop 32 l)) heap.bytes ∙ ap (λ (n : ℕ). slots_in ks n (slots_bytes ks slots ++ zeros)) (sym heap.counted) ∙ slots_again ks slots zeros heap.are)

-- a page has one list of slots
pub one_list : (form : Form) (page : List ℕ) (slots : List Slot) → HasSlots form page slots → slots ≡ slots_on form page
one_list forms.Status page slots has = absurd has
one_list (forms.Heap row count ks format) page slots has = heap_read ks count slots page has
one_list forms.Index page slots has = absurd has

-- which a started heap page has
pub started_has : (form : Form) (page : List ℕ) → IsOfHeap form → IsStarted form page → HasSlots form page (slots_on form page)
started_has forms.Status page heap started = absurd heap
started_has (forms.Heap row count ks format) page heap started = subst (λ (slots : List Slot). IsHeap ks count slots page) (heap_read ks count started.0 page started.1) started.1
started_has forms.Index page heap started = absurd heap

-- the slots of a page that isn't started are free

zero_first : (r m : ℕ) → get_or {A = ℕ} (take r (replicate m 0)) 0 0 ≡ 0
zero_first zero m = refl
zero_first (suc r) zero = refl
zero_first (suc r) (suc m) = refl

zeros_read : (ks : List Kind) (n m : ℕ) → slots_in ks n (replicate m 0) ≡ replicate n None
unfolding slots_in
zeros_read ks zero m = refl
zeros_read ks (suc n) m =
    let r = row_size ks in
    ap (λ (x : ℕ). cond (eqb x 0) None (Some (row_in ks (take r (replicate m 0)))) ∷ slots_in ks n (drop r (replicate m 0))) (zero_first r m)
    ∙ ap (λ (l : List Slot). None ∷ l) (ap (slots_in ks n) (drop-replicate r m 0) ∙ zeros_read ks n (m - r))

zero_body : (page : List ℕ) (n : ℕ) → n ≡ 8192 → IsUnstarted page → drop 32 page ≡ replicate (n - 32) 0
zero_body page n is_long zeros = ap (drop 32) (zeros ∙ ap (λ (k : ℕ). replicate k 0) (sym is_long)) ∙ drop-replicate 32 n 0

pub unstarted_free : (form : Form) (page : List ℕ) (n : ℕ) → n ≡ 8192 → IsUnstarted page → slots_on form page ≡ replicate (slot_count form) None
unstarted_free forms.Status page n is_long zeros = refl
unstarted_free (forms.Heap row count ks format) page n is_long zeros = ap (slots_in ks count) (zero_body page n is_long zeros) ∙ zeros_read ks count (n - 32)
unstarted_free forms.Index page n is_long zeros = refl

-- what is counted on a page, by its kind

either : {A : Type 0} (b : Bool) (x : A) → x ≡ cond b x x
either true x = refl
either false x = refl

-- a page whose kind isn't that of a heap has no slot that counts as free
pub none_free : (form : Form) (page : List ℕ) (kind : ℕ) → kind ≡ get_or page 0 0 → (kind ≡ 2 → ⊥) → IsPageOf form page → 0 ≡ free_on form page
none_free form page kind is other (inl zeros) = ap (λ (x : ℕ). cond (eqb x 0) 0 (free_count (slots_on form page))) (sym (unstarted_front page 8192 refl zeros))
none_free forms.Status page kind is other (inr started) = ap (λ (x : ℕ). cond (eqb x 0) 0 0) (sym (ap (λ (l : List ℕ). get_or l 0 0) started.1.bytes.2))
none_free (forms.Heap row count ks format) page kind is other (inr started) = absurd (other (is ∙ heap_front (forms.Heap row count ks format) page started.0 started.1))
none_free forms.Index page kind is other (inr started) = either (eqb (get_or page 0 0) 0) 0

-- a page of a heap's kind is a started heap page
pub heap_has : (form : Form) (page : List ℕ) (kind : ℕ) → kind ≡ get_or page 0 0 → kind ≡ 2 → IsPageOf form page → HasSlots form page (slots_on form page)
heap_has form page kind is two (inl zeros) = absurd (omega (arith, is, two, unstarted_front page 8192 refl zeros))
heap_has forms.Status page kind is two (inr started) =
    let front : get_or page 0 0 ≡ 1 = ap (λ (l : List ℕ). get_or l 0 0) started.1.bytes.2 in
    absurd (omega (arith, is, two, front))
heap_has (forms.Heap row count ks format) page kind is two (inr started) = started_has (forms.Heap row count ks format) page tt started
heap_has forms.Index page kind is two (inr started) =
    let none : true ≡ false = sym (started_front forms.Index page started) ∙ ap (has_page_kind forms.Index) (sym is ∙ two) in
    absurd cc

-- the count of its free slots
pub free_here : (form : Form) (page : List ℕ) (kind n : ℕ) → kind ≡ get_or page 0 0 → kind ≡ 2 → n ≡ free_count (slots_on form page) → n ≡ free_on form page
free_here form page kind n is two e = e ∙ ap (λ (x : ℕ). cond (eqb x 0) 0 (free_count (slots_on form page))) (sym two ∙ is)

-- and the lowest of them, found from the first slot on
pub lowest_here : (form : Form) (page : List ℕ) (found : Option ℕ) → IsPageOf form page → ((slots : List Slot) → HasSlots form page slots → found ≡ lowest_free_from 0 slots) → (IsUnstarted page → found ≡ None) → (form ≡ forms.Status → found ≡ None) → (form ≡ forms.Index → found ≡ None) → found ≡ lowest_on form page
lowest_here form page found (inl zeros) contents unstarted statuses index = unstarted zeros ∙ ap (λ (x : ℕ). cond (eqb x 0) None (lowest_free (slots_on form page))) (sym (unstarted_front page 8192 refl zeros))
lowest_here forms.Status page found (inr started) contents unstarted statuses index = statuses refl ∙ ap (λ (x : ℕ). cond (eqb x 0) None None) (sym (ap (λ (l : List ℕ). get_or l 0 0) started.1.bytes.2))
lowest_here (forms.Heap row count ks format) page found (inr started) contents unstarted statuses index =
    let form = forms.Heap row count ks format in
    contents (slots_on form page) (started_has form page tt started)
    ∙ lowest_from 0 (slots_on form page) (λ slot below. absurd (omega arith))
    ∙ ap (λ (x : ℕ). cond (eqb x 0) None (lowest_free (slots_on form page))) (sym (heap_front form page started.0 started.1))
lowest_here forms.Index page found (inr started) contents unstarted statuses index = index refl ∙ either (eqb (get_or page 0 0) 0) None
