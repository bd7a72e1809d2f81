-- laws of the kind of a page, of what reading a slot tells, and of the lowest free slot
use Rattle.std.proofs.Common.{◌≡◌, ◌≢◌, ℕ, zero, suc, ◌+◌, ◌-◌, ◌<◌, ◌≤◌, inr, Bool, true, false, cond, ltb, eqb, List, [], ◌∷◌, length, set, drop, get_or, refl, sym, ap, ⊎_elim, ◌∙◌, arith}
use Rattle.std.specs.Prelude.{Option, None, Some, replicate, slice_get}
use Rattle.std.specs.List.{position_or_len}
use Rattle.std.specs.Option.{option_map}
use Rattle.std.proofs.lemmas.Bool.{lt-ltb, le-ltb, ltb-true, ltb-false}
use Rattle.std.proofs.lemmas.List.{get_or-replicate, get_or-drop, length-drop}
use Rattle.std.proofs.lemmas.List.Sums.{position_or_len_is, fails_before_first, passes_at_first}
use Rattle.std.proofs.lemmas.Option.{get_or_from_slice_get, slice_get_within}
use Rattle.block_model.specs.declared.value.Kind.{Kind}
use Rattle.index_layout.specs.IndexPages.{IsIndexPage, Map, Meta, Regular, Unstarted}
use Rattle.page_layout.specs.declared.page.Form.{Form}
use Rattle.page_layout.specs.declared.page.Form.TheVariants as forms
use Rattle.page_layout.specs.IndexLaws.{map_front, meta_front, regular_front}
use Rattle.page_layout.specs.RowBytes.{StoredRow}
use Rattle.page_layout.specs.PageContents.{Slot, HasSlots, IsPageOf, IsRowOf, IsStarted, IsUnstarted, heap_bytes, row_bytes_in, used_bytes}
use Rattle.page_layout.specs.PageFaults.{has_page_kind}
use Rattle.page_layout.specs.PageWrites.{RowHasBytes}
use Rattle.page_layout.specs.FreeSlots.{slot_count, is_free, lowest_free, lowest_free_from, AreUsedBelow}
use Rattle.page_layout.specs.SlotsOnPage.{slots_in, slots_on}

-- the kind of a page

-- a page that has slots is of kind 2
pub heap_front : (form : Form) (page : List ℕ) (slots : List Slot) → HasSlots form page slots → get_or page 0 0 ≡ 2
unfolding heap_bytes
heap_front forms.Status page slots has = absurd has
heap_front (forms.Heap row count ks format) page slots has = ap (λ (l : List ℕ). get_or l 0 0) has.bytes
heap_front forms.Index page slots has = absurd has

-- a page that isn't started is of kind 0
pub unstarted_front : (page : List ℕ) (n : ℕ) → n ≡ 8192 → IsUnstarted page → get_or page 0 0 ≡ 0
unstarted_front page n is_long zeros = ap (λ (l : List ℕ). get_or l 0 0) (zeros ∙ ap (λ (k : ℕ). replicate k 0) (sym is_long)) ∙ get_or-replicate n 0 0 0 (omega arith)

-- a started page of an index has one of its kinds
index_front : (page : List ℕ) → IsIndexPage page → get_or page 0 0 ≢ 0 → has_page_kind forms.Index (get_or page 0 0) ≡ true
index_front page (Unstarted zeros) some = absurd (some (unstarted_front page 8192 refl zeros))
index_front page (Meta pages is) some = ap (has_page_kind forms.Index) (meta_front pages page is)
index_front page (Map entries is) some = ap (has_page_kind forms.Index) (map_front entries page is)
index_front page (Regular kind slots is) some =
    ⊎_elim (λ five. ap (has_page_kind forms.Index) (regular_front kind slots page is ∙ five)) (λ six. ap (has_page_kind forms.Index) (regular_front kind slots page is ∙ six)) is.has.of

-- a started page has a kind of its form
pub started_front : (form : Form) (page : List ℕ) → IsStarted form page → has_page_kind form (get_or page 0 0) ≡ true
unfolding heap_bytes
started_front forms.Status page started = ap (λ (l : List ℕ). eqb (get_or l 0 0) 1) started.1.bytes.2
started_front (forms.Heap row count ks format) page started = ap (λ (l : List ℕ). eqb (get_or l 0 0) 2) started.1.bytes
started_front forms.Index page started = index_front page started.0 started.1

-- 0 is no kind of a started page
kind_zero : (form : Form) → has_page_kind form 0 ≡ false
kind_zero forms.Status = refl
kind_zero (forms.Heap row count ks format) = refl
kind_zero forms.Index = refl

-- a started page isn't one that isn't started
pub started_isnt_unstarted : (form : Form) (page : List ℕ) → IsStarted form page → IsUnstarted page → ⊥
started_isnt_unstarted form page started zeros =
    let none : true ≡ false = sym (started_front form page started) ∙ ap (has_page_kind form) (unstarted_front page 8192 refl zeros) ∙ kind_zero form in
    absurd cc

-- nor is a page that has slots
pub started_not : (form : Form) (page : List ℕ) (slots : List Slot) → HasSlots form page slots → IsUnstarted page → ⊥
started_not form page slots has zeros = absurd (omega (arith, heap_front form page slots has, unstarted_front page 8192 refl zeros))

-- a page that has slots is one of its form
pub has_page : (form : Form) (page : List ℕ) (slots : List Slot) → HasSlots form page slots → IsPageOf form page
has_page forms.Status page slots has = absurd has
has_page (forms.Heap row count ks format) page slots has = inr (slots, has)
has_page forms.Index page slots has = absurd has

-- bytes of a row of the form are those of some row
pub row_has : (form : Form) (bytes : List ℕ) → IsRowOf form bytes → (row : StoredRow) × RowHasBytes form bytes row
row_has forms.Status bytes is = absurd is
row_has (forms.Heap size count ks format) bytes is = (is.0, (is.1, is.2))
row_has forms.Index bytes is = absurd is

-- how many slots there are

pub length-has : (form : Form) (page : List ℕ) (slots : List Slot) → HasSlots form page slots → length slots ≡ slot_count form
length-has forms.Status page slots has = absurd has
length-has (forms.Heap row count ks format) page slots has = has.counted
length-has forms.Index page slots has = absurd has

length-slots_in : (ks : List Kind) (n : ℕ) (bytes : List ℕ) → length (slots_in ks n bytes) ≡ n
unfolding slots_in
length-slots_in ks zero bytes = refl
length-slots_in ks (suc n) bytes = ap suc (length-slots_in ks n _)

pub length-slots_on : (form : Form) (page : List ℕ) → length (slots_on form page) ≡ slot_count form
length-slots_on forms.Status page = refl
length-slots_on (forms.Heap row count ks format) page = length-slots_in ks count _
length-slots_on forms.Index page = refl

-- what is read of a slot

free_there : (ks : List Kind) (slots : List Slot) (n : ℕ) → None ≡ used_bytes ks (slice_get slots n) → is_free (get_or slots n None) ≡ true
free_there ks [] n e = refl
free_there ks (None ∷ slots) zero e = refl
free_there ks (Some row ∷ slots) zero e = absurd cc
free_there ks (slot ∷ slots) (suc n) e = free_there ks slots n e

used_there : (ks : List Kind) (slots : List Slot) (n : ℕ) (bytes : List ℕ) → Some bytes ≡ used_bytes ks (slice_get slots n) → is_free (get_or slots n None) ≡ false
used_there ks [] n bytes e = absurd cc
used_there ks (None ∷ slots) zero bytes e = absurd cc
used_there ks (Some row ∷ slots) zero bytes e = refl
used_there ks (slot ∷ slots) (suc n) bytes e = used_there ks slots n bytes e

-- a slot of which no row is read is free
pub free_read : (form : Form) (page : List ℕ) (slots : List Slot) (n : ℕ) → HasSlots form page slots → None ≡ row_bytes_in form slots n → is_free (get_or slots n None) ≡ true
free_read forms.Status page slots n has e = absurd has
free_read (forms.Heap row count ks format) page slots n has e = free_there ks slots n e
free_read forms.Index page slots n has e = absurd has

-- a slot of which a row is read isn't
pub used_read : (form : Form) (page : List ℕ) (slots : List Slot) (n : ℕ) (bytes : List ℕ) → HasSlots form page slots → Some bytes ≡ row_bytes_in form slots n → is_free (get_or slots n None) ≡ false
used_read forms.Status page slots n bytes has e = absurd has
used_read (forms.Heap row count ks format) page slots n bytes has e = used_there ks slots n bytes e
used_read forms.Index page slots n bytes has e = absurd has

-- the lowest free slot

-- a free slot behind slots in use is the lowest one
pub lowest_found : (slots : List Slot) (n : ℕ) → n < length slots → AreUsedBelow n slots → is_free (get_or slots n None) ≡ true → Some n ≡ lowest_free slots
lowest_found slots n within before here =
    let at : position_or_len is_free slots ≡ n = position_or_len_is is_free slots n None (omega arith) before (λ _. here) in
    sym (ap (λ (k : ℕ). cond (ltb k (length slots)) (Some k) None) at ∙ ap (λ (b : Bool). cond b (Some n) None) (lt-ltb n (length slots) within))

-- where all are in use there is none
pub lowest_none : (slots : List Slot) (n : ℕ) → n ≡ length slots → AreUsedBelow n slots → None ≡ lowest_free slots
lowest_none slots n all before =
    let at : position_or_len is_free slots ≡ n = position_or_len_is is_free slots n None (omega arith) before (λ within. absurd (omega arith)) in
    sym (ap (λ (k : ℕ). cond (ltb k (length slots)) (Some k) None) at ∙ ap (λ (b : Bool). cond b (Some n) None) (le-ltb n (length slots) (omega arith)))

-- what the lowest free slot tells of the slots
pub record IsLowestFree (slots : List Slot) (n : ℕ) : Type 0 where
  pub within : n < length slots
  pub used : AreUsedBelow n slots
  pub free : is_free (get_or slots n None) ≡ true

lowest_at : (slots : List Slot) (n k : ℕ) (b : Bool) → position_or_len is_free slots ≡ k → ltb k (length slots) ≡ b → cond b (Some k) None ≡ Some n → IsLowestFree slots n
lowest_at slots n k true at low e =
    let same : k ≡ n = cc in
    let here : position_or_len is_free slots ≡ n = at ∙ same in
    let within : k < length slots = ltb-true k (length slots) low in
    record {
      within = omega arith;
      used = λ slot before. fails_before_first is_free slots slot None (omega arith);
      free = ap (λ (m : ℕ). is_free (get_or slots m None)) (sym here) ∙ passes_at_first is_free slots None (omega arith);
    }
lowest_at slots n k false at low e = absurd cc

pub lowest_is : (slots : List Slot) (n : ℕ) → lowest_free slots ≡ Some n → IsLowestFree slots n
lowest_is slots n e = lowest_at slots n (position_or_len is_free slots) (ltb (position_or_len is_free slots) (length slots)) refl refl e

-- a free slot has no row
pub free_slot : (slot : Slot) → is_free slot ≡ true → slot ≡ None
free_slot None e = refl
free_slot (Some row) e = absurd cc

pub none_of : (b : Bool) (n : ℕ) → cond b (Some n) None ≡ None → b ≡ false
none_of true n e = absurd cc
none_of false n e = refl

-- where none is found all are in use
pub none_free : (slots : List Slot) → lowest_free slots ≡ None → AreUsedBelow (length slots) slots
none_free slots e = λ n below.
    let past = ltb-false (position_or_len is_free slots) (length slots) (none_of _ _ e) in
    fails_before_first is_free slots n None (omega arith)

-- so where a slot is free one is found
pub free_found : (slots : List Slot) (n : ℕ) → slice_get slots n ≡ Some None → lowest_free slots ≡ None → ⊥
free_found slots n there none =
    let used = none_free slots none n (slice_get_within slots n None there) in
    let here : is_free (get_or slots n None) ≡ true = ap is_free (get_or_from_slice_get slots n None None there) in
    absurd cc

-- from a slot on: the same where all before it are in use

from_zero : (o : Option ℕ) → option_map (λ (k : ℕ). 0 + k) o ≡ o
from_zero None = refl
from_zero (Some k) = ap Some (let e : 0 + k ≡ k = omega arith in e)

from_next : (n : ℕ) (o : Option ℕ) → option_map (λ (k : ℕ). suc n + k) o ≡ option_map suc (option_map (λ (k : ℕ). n + k) o)
from_next n None = refl
from_next n (Some k) = ap Some (let e : suc n + k ≡ suc (n + k) = omega arith in e)

behind_used : (slot : Slot) (slots : List Slot) → is_free slot ≡ false → option_map suc (lowest_free slots) ≡ lowest_free (slot ∷ slots)
behind_used None slots e = absurd cc
behind_used (Some row) slots e = by_place (position_or_len is_free slots) (ltb (position_or_len is_free slots) (length slots)) refl
  where
    by_place : (k : ℕ) (b : Bool) → ltb k (length slots) ≡ b → option_map suc (cond (ltb k (length slots)) (Some k) None) ≡ cond (ltb (1 + k) (suc (length slots))) (Some (1 + k)) None
    by_place k true low =
        let within : k < length slots = ltb-true k (length slots) low in
        ap (λ (b : Bool). option_map suc (cond b (Some k) None)) low ∙ ap (λ (m : ℕ). Some m) (let e : suc k ≡ 1 + k = omega arith in e) ∙ sym (ap (λ (b : Bool). cond b (Some (1 + k)) None) (lt-ltb (1 + k) (suc (length slots)) (omega arith)))
    by_place k false low =
        let past : length slots ≤ k = ltb-false k (length slots) low in
        ap (λ (b : Bool). option_map suc (cond b (Some k) None)) low ∙ sym (ap (λ (b : Bool). cond b (Some (1 + k)) None) (le-ltb (1 + k) (suc (length slots)) (omega arith)))

pub lowest_from : (n : ℕ) (slots : List Slot) → AreUsedBelow n slots → lowest_free_from n slots ≡ lowest_free slots
lowest_from zero slots used = from_zero (lowest_free slots)
lowest_from (suc n) [] used = let none = used 0 (omega arith) in absurd cc
lowest_from (suc n) (slot ∷ slots) used =
    from_next n _ ∙ ap (option_map suc) (lowest_from n slots (λ k below. used (suc k) (omega arith))) ∙ behind_used slot slots (used 0 (omega arith))

-- found from there on, or not found

pub found_from : (from n : ℕ) (slots : List Slot) → from ≤ n → n < length slots → ((k : ℕ) → from ≤ k → k < n → is_free (get_or slots k None) ≡ false) → is_free (get_or slots n None) ≡ true → Some n ≡ lowest_free_from from slots
found_from from n slots after within used here =
    let on : from + (n - from) ≡ n = omega arith in
    let at : (k : ℕ) → get_or (drop from slots) k None ≡ get_or slots (from + k) None = λ k. get_or-drop from slots k None in
    let below : n - from < length (drop from slots) = omega (arith, length-drop from slots) in
    let before : AreUsedBelow (n - from) (drop from slots) = λ k low. ap is_free (at k) ∙ used (from + k) (omega arith) (omega arith) in
    let free : is_free (get_or (drop from slots) (n - from) None) ≡ true = ap is_free (at (n - from)) ∙ ap (λ (m : ℕ). is_free (get_or slots m None)) on ∙ here in
    ap Some (sym on) ∙ ap (option_map (λ (k : ℕ). from + k)) (lowest_found (drop from slots) (n - from) below before free)

pub none_from : (from n : ℕ) (slots : List Slot) → length slots ≤ n → ((k : ℕ) → from ≤ k → k < n → is_free (get_or slots k None) ≡ false) → None ≡ lowest_free_from from slots
none_from from n slots all used =
    let before : AreUsedBelow (length (drop from slots)) (drop from slots) = λ k low. ap is_free (get_or-drop from slots k None) ∙ used (from + k) (omega arith) (omega (arith, low, length-drop from slots)) in
    ap (option_map (λ (k : ℕ). from + k)) (lowest_none (drop from slots) (length (drop from slots)) refl before)

-- a put

-- where a row was put into the lowest free slot all slots up to it are in use
pub used_up_to : (slots : List Slot) (n : ℕ) (row : StoredRow) → n < length slots → AreUsedBelow n slots → (k : ℕ) → k < n + 1 → is_free (get_or (set slots n (Some row)) k None) ≡ false
used_up_to [] n row within used k below = absurd (omega arith)
used_up_to (slot ∷ slots) zero row within used zero below = refl
used_up_to (slot ∷ slots) zero row within used (suc k) below = absurd (omega arith)
used_up_to (slot ∷ slots) (suc n) row within used zero below = used 0 (omega arith)
used_up_to (slot ∷ slots) (suc n) row within used (suc k) below = used_up_to slots n row (omega arith) (λ j low. used (suc j) (omega arith)) k (omega arith)
