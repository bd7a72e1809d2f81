-- Pages by their kind, and slots by what is read of them.
use Rattle.std.proofs.Common.{◌≡◌, ℕ, suc, ◌+◌, ◌/◌, ◌%◌, ◌<◌, inr, Bool, true, false, eqb, MatchBool, List, [], ◌∷◌, ◌++◌, drop, get_or, refl, sym, ap, subst, ◌∙◌, arith}
use Rattle.std.specs.Prelude.{Option, None, replicate}
use Rattle.std.proofs.lemmas.List.{get_or-drop}
use Rattle.wal_record.specs.Spot.{Spot}
use Rattle.page_layout.specs.Fields.{AreBytes}
use Rattle.wal_record.specs.Changes.{LoggedChange, FullPage, PageStart, RowPut, RowMark, RowsDrop, TuplePut, TupleReplace, TupleDrop, Evacuate, MapPage, MapSet, MetaSet, StatusSet}
use Rattle.page_layout.specs.declared.page.Form.{Form}
use Rattle.page_layout.specs.declared.page.Form.TheVariants as forms
use Rattle.page_layout.specs.PageContents.{Slot, HasSlots, IsPageOf, IsStatusPage, header_bytes, statuses}
use Rattle.page_layout.specs.PageWrites.{IsEmptyHeap, IsOfHeap, IsOfIndex}
use Rattle.page_layout.specs.IndexPages.{IsMap, IsRegular}
use Rattle.page_layout.specs.IndexLaws.{index_page_of, map_page, meta_page, regular_page}
use Rattle.page_layout.specs.SlotLaws.{has_page, row_has}
use Rattle.page_redo.specs.Redo.{Fits, IsAnew, IsOfStatuses, Means, Redone}

-- lists of changes

abbrev pub no_entries : List (Option Spot)
no_entries = replicate 1020 None

byte-same : (b c : ℕ) → b < 256 → c < 256 → b % 4 ≡ c % 4 → b / 4 % 4 ≡ c / 4 % 4 → b / 16 % 4 ≡ c / 16 % 4 → b / 64 % 4 ≡ c / 64 % 4 → b ≡ c
byte-same b c small below p q r s = omega arith

statuses-same : (xs ys : List ℕ) → AreBytes xs → AreBytes ys → statuses xs ≡ statuses ys → xs ≡ ys
unfolding statuses
statuses-same [] [] small below e = refl
statuses-same [] (y ∷ ys) small below e = absurd cc
statuses-same (x ∷ xs) [] small below e = absurd cc
statuses-same (x ∷ xs) (y ∷ ys) small below e =
    let at : (i : ℕ) → get_or (statuses (x ∷ xs)) i 0 ≡ get_or (statuses (y ∷ ys)) i 0 = λ i. ap (λ (l : List ℕ). get_or l i 0) e in
    let rest = statuses-same xs ys (λ i. small (suc i)) (λ i. below (suc i)) (ap (drop 4) e) in
    let one = byte-same x y (small 0) (below 0) (at 0) (at 1) (at 2) (at 3) in
    λ i. one i ∷ rest i

status_same : (a b entries : List ℕ) → AreBytes a → AreBytes b → IsStatusPage a entries → IsStatusPage b entries → a ≡ b
status_same a b entries small below ia ib =
    let body-small : (p : List ℕ) (is : IsStatusPage p entries) → AreBytes p → AreBytes is.bytes.0 =
    λ p is tight i. subst (λ (n : ℕ). n < 256) (sym (get_or-drop 32 p i 0) ∙ ap (λ (l : List ℕ). get_or (drop 32 l) i 0) is.bytes.2) (tight (32 + i)) in
    let same = statuses-same ia.bytes.0 ib.bytes.0 (body-small a ia small) (body-small b ib below) (sym ia.bytes.3 ∙ ib.bytes.3) in
    ia.bytes.2 ∙ ap (λ (l : List ℕ). header_bytes 1 ++ l) same ∙ sym ib.bytes.2

entries_of : (form : Form) (page : List ℕ) → IsOfStatuses form page → (entries : List ℕ) × IsStatusPage page entries
entries_of forms.Status page is = is
entries_of (forms.Heap row count ks format) page is = absurd is
entries_of forms.Index page is = absurd is

heap_same : (form : Form) (a b : List ℕ) (slots : List Slot) → HasSlots form a slots → HasSlots form b slots → a ≡ b
heap_same forms.Status a b slots ha hb = absurd ha
heap_same (forms.Heap row count ks format) a b slots ha hb = ha.bytes ∙ sym hb.bytes
heap_same forms.Index a b slots ha hb = absurd ha

heap_empty-same : (form : Form) (a b : List ℕ) → IsEmptyHeap form a → IsEmptyHeap form b → a ≡ b
heap_empty-same forms.Status a b ha hb = absurd ha
heap_empty-same (forms.Heap row count ks format) a b ha hb = ha.bytes ∙ sym hb.bytes
heap_empty-same forms.Index a b ha hb = absurd ha

-- pages as they are started
started_same : (form : Form) (heap map : Bool) (a b : List ℕ) → MatchBool heap (IsEmptyHeap form a) (MatchBool map (IsMap no_entries a) (IsRegular 5 [] a)) → MatchBool heap (IsEmptyHeap form b) (MatchBool map (IsMap no_entries b) (IsRegular 5 [] b)) → a ≡ b
started_same form true map a b ha hb = heap_empty-same form a b ha hb
started_same form false true a b ha hb = ha.bytes ∙ sym hb.bytes
started_same form false false a b ha hb = ha.has.bytes ∙ sym hb.has.bytes

step_same : (form : Form) (page a b : List ℕ) (change : LoggedChange) → AreBytes a → AreBytes b → Fits form page change → Means form page change a → Means form page change b → a ≡ b
step_same form page a b (FullPage place bytes) sa sb fit ma mb = ma ∙ sym mb
step_same form page a b (PageStart place kind) sa sb fit ma mb = started_same form (eqb kind 2) (eqb kind 4) a b ma mb
step_same form page a b (RowPut place slot bytes) sa sb fit ma mb = let r = row_has form bytes fit.1 in heap_same form a b _ (ma fit.0.0 r.0 fit.0.1 r.1) (mb fit.0.0 r.0 fit.0.1 r.1)
step_same form page a b (RowMark place slot deleter) sa sb fit ma mb = heap_same form a b _ (ma fit.0 fit.1 fit.2 fit.3) (mb fit.0 fit.1 fit.2 fit.3)
step_same form page a b (RowsDrop place bytes) sa sb fit ma mb = heap_same form a b _ (ma fit.0.0 fit.0.1) (mb fit.0.0 fit.0.1)
step_same form page a b (StatusSet place entry status) sa sb fit ma mb = let e = entries_of form page fit.0 in status_same a b _ sa sb (ma e.0 e.1) (mb e.0 e.1)
step_same form page a b (TuplePut place slot bytes) sa sb fit ma mb = ma.has.bytes ∙ sym mb.has.bytes
step_same form page a b (TupleReplace place slot bytes) sa sb fit ma mb = ma.has.bytes ∙ sym mb.has.bytes
step_same form page a b (TupleDrop place slots) sa sb fit ma mb = ma.has.bytes ∙ sym mb.has.bytes
step_same form page a b (Evacuate place) sa sb fit ma mb = ma.has.bytes ∙ sym mb.has.bytes
step_same form page a b (MapPage place) sa sb fit ma mb = ma.bytes ∙ sym mb.bytes
step_same form page a b (MapSet place entry spot) sa sb fit ma mb = ma.bytes ∙ sym mb.bytes
step_same form page a b (MetaSet place maps) sa sb fit ma mb = ma.bytes ∙ sym mb.bytes

empty-page : (form : Form) (page : List ℕ) → IsEmptyHeap form page → IsPageOf form page
empty-page forms.Status page is = absurd is
empty-page (forms.Heap row count ks format) page is = inr (replicate count None, is)
empty-page forms.Index page is = absurd is

started_page : (form : Form) (heap map : Bool) (page : List ℕ) → MatchBool heap (IsOfHeap form) (IsOfIndex form) → MatchBool heap (IsEmptyHeap form page) (MatchBool map (IsMap no_entries page) (IsRegular 5 [] page)) → IsPageOf form page
started_page form true map page of is = empty-page form page is
started_page form false true page of is = index_page_of form page of (map_page no_entries page is)
started_page form false false page of is = index_page_of form page of (regular_page 5 [] page is)

-- a change that fits makes a page that passes its check
pub changed_page : (form : Form) (old new : List ℕ) (change : LoggedChange) → Fits form old change → Means form old change new → IsPageOf form new
changed_page form old new (FullPage place bytes) fit means = subst (IsPageOf form) (sym means) fit.1
changed_page form old new (PageStart place kind) fit means = started_page form (eqb kind 2) (eqb kind 4) new fit.0 means
changed_page form old new (RowPut place slot bytes) fit means = let r = row_has form bytes fit.1 in has_page form new _ (means fit.0.0 r.0 fit.0.1 r.1)
changed_page form old new (RowMark place slot deleter) fit means = has_page form new _ (means fit.0 fit.1 fit.2 fit.3)
changed_page form old new (RowsDrop place bytes) fit means = has_page form new _ (means fit.0.0 fit.0.1)
changed_page forms.Status old new (StatusSet place entry status) fit means = inr (_, means fit.0.0 fit.0.1)
changed_page (forms.Heap row count ks format) old new (StatusSet place entry status) fit means = absurd fit.0
changed_page forms.Index old new (StatusSet place entry status) fit means = absurd fit.0
changed_page form old new (TuplePut place slot bytes) fit means = index_page_of form new fit.0.0 (regular_page _ _ new means)
changed_page form old new (TupleReplace place slot bytes) fit means = index_page_of form new fit.0.0 (regular_page _ _ new means)
changed_page form old new (TupleDrop place slots) fit means = index_page_of form new fit.0.0 (regular_page _ _ new means)
changed_page form old new (Evacuate place) fit means = index_page_of form new fit.0.0 (regular_page _ _ new means)
changed_page form old new (MapPage place) fit means = index_page_of form new fit.0.0 (map_page _ new means)
changed_page form old new (MapSet place entry spot) fit means = index_page_of form new fit.0.0 (map_page _ new means)
changed_page form old new (MetaSet place maps) fit means = index_page_of form new fit.0.0 (meta_page maps new means)

pub redone_same : (form : Form) (page a b : List ℕ) (changes : List LoggedChange) → Redone form page changes a → Redone form page changes b → a ≡ b
redone_same form page a b [] ra rb = ra ∙ sym rb
redone_same form page a b (change ∷ changes) ra rb =
    let one : ra.0 ≡ rb.0 = step_same form page ra.0 rb.0 change ra.1 rb.1 ra.2 ra.3 rb.3 in
    redone_same form rb.0 a b changes (subst (λ (p : List ℕ). Redone form p changes a) one ra.4) rb.4

-- a page that is begun anew, whatever stood there
pub redone_anew : (form : Form) (page other new : List ℕ) (change : LoggedChange) (changes : List LoggedChange) → IsAnew change → Redone form page (change ∷ changes) new → Redone form other (change ∷ changes) new
redone_anew form page other new (FullPage place bytes) changes is r = r
redone_anew form page other new (PageStart place kind) changes is r = r
redone_anew form page other new (RowPut place slot bytes) changes is r = absurd is
redone_anew form page other new (RowMark place slot deleter) changes is r = absurd is
redone_anew form page other new (RowsDrop place bytes) changes is r = absurd is
redone_anew form page other new (TuplePut place slot bytes) changes is r = absurd is
redone_anew form page other new (TupleReplace place slot bytes) changes is r = absurd is
redone_anew form page other new (TupleDrop place slots) changes is r = absurd is
redone_anew form page other new (Evacuate place) changes is r = absurd is
redone_anew form page other new (MapPage place) changes is r = absurd is
redone_anew form page other new (MapSet place entry spot) changes is r = absurd is
redone_anew form page other new (MetaSet place maps) changes is r = absurd is
redone_anew form page other new (StatusSet place entry status) changes is r = absurd is

-- changes behind others
pub redone_more : (form : Form) (page mid new : List ℕ) (first more : List LoggedChange) → Redone form page first mid → Redone form mid more new → Redone form page (first ++ more) new
redone_more form page mid new [] more r s = subst (λ (p : List ℕ). Redone form p more new) r s
redone_more form page mid new (change ∷ changes) more r s = (r.0, r.1, r.2, r.3, redone_more form r.0 mid new changes more r.4 s)
