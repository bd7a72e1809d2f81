-- Whether a page is started, by its kind.
use Rattle.std.proofs.Common.{◌≡◌, ℕ, zero, suc, ◌<◌, ◌≤◌, inl, inr, Bool, true, false, cond, eqb, not, List, [], ◌∷◌, length, get_or, refl, sym, ap, ⊎_elim, ◌∙◌, arith}
use Rattle.std.specs.Prelude.{None, count_by}
use Rattle.std.proofs.lemmas.Bool.{cases_Bool, eq-eqb, eqb-true}
use Rattle.std.proofs.lemmas.List.Sums.{sum_by-cons}
use Rattle.page_redo.specs.Form.{Form}
use Rattle.page_redo.specs.Form.TheVariants as forms
use Rattle.page_redo.specs.IndexReading.{map_pages_of, number_at, slots_of}
use Rattle.page_redo.specs.IndexWrites.{room_for_further, room_on}
use Rattle.page_redo.specs.FreeSlots.{lowest_free}
use Rattle.page_redo.specs.PageContents.{IsPageOf, IsStarted, IsUnstarted}
use Rattle.page_redo.specs.PageWrites.{IsOfIndex}
use Rattle.page_redo.specs.SlotLaws.{heap_front, unstarted_front}
use Rattle.page_redo.specs.SlotsOnPage.{lowest_on, slots_on}
use Rattle.page_map.specs.PageFacts.{facts_on, no_facts}
use Rattle.page_map.specs.PageMap.{page_in, unstarted_page}
use Rattle.page_map.specs.Started.{is_started}

pub unstarted_is : IsUnstarted unstarted_page
unfolding unstarted_page
unstarted_is = refl

pub zero_kind : (page : List ℕ) → IsUnstarted page → get_or page 0 0 ≡ 0
zero_kind page zeros = unstarted_front page 8192 refl zeros

pub unstarted_kind : (page : List ℕ) → IsUnstarted page → eqb (get_or page 0 0) 0 ≡ true
unstarted_kind page zeros = eq-eqb (get_or page 0 0) 0 (zero_kind page zeros)

pub started_kind : (form : Form) (page : List ℕ) → IsStarted form page → eqb (get_or page 0 0) 0 ≡ false
started_kind forms.Status page started = ap (λ (l : List ℕ). eqb (get_or l 0 0) 0) started.1.bytes.2
started_kind (forms.Heap row count kinds format) page started = ap (λ (k : ℕ). eqb k 0) (heap_front (forms.Heap row count kinds format) page started.0 started.1)
started_kind forms.Index page started = ⊎_elim (λ zero. absurd (started.1 (eqb-true (get_or page 0 0) 0 zero))) (λ other. other) (cases_Bool (eqb (get_or page 0 0) 0))

pub kind_unstarted : (form : Form) (page : List ℕ) → IsPageOf form page → eqb (get_or page 0 0) 0 ≡ true → IsUnstarted page
kind_unstarted form page (inl zeros) kind = zeros
kind_unstarted form page (inr started) kind = absurd (let other = started_kind form page started in cc)

pub kind_started : (form : Form) (page : List ℕ) → IsPageOf form page → (IsUnstarted page → ⊥) → is_started page ≡ true
kind_started form page of_form some =
    ⊎_elim (λ kind. absurd (some (kind_unstarted form page of_form kind))) (λ kind. ap not kind) (cases_Bool (eqb (get_or page 0 0) 0))

-- what is kept of a page that isn't started
pub lowest-unstarted : (form : Form) (page : List ℕ) → IsUnstarted page → lowest_on form page ≡ None
lowest-unstarted form page zeros = ap (λ (k : ℕ). cond (eqb k 0) None (lowest_free (slots_on form page))) (zero_kind page zeros)

-- a page whose kind isn't that of an index takes no tuple
pub kind_without_room : (page : List ℕ) (kind : ℕ) → get_or page 0 0 ≡ kind → eqb kind 5 ≡ false → 0 ≡ room_on page
kind_without_room page kind is other = sym (ap (λ (k : ℕ). cond (eqb k 5) (room_for_further (slots_of page)) 0) is ∙ ap (λ (b : Bool). cond b (room_for_further (slots_of page)) 0) other)

-- one whose kind isn't that of a metapage counts no page of the map
pub kind_without_maps : (page : List ℕ) (kind : ℕ) → get_or page 0 0 ≡ kind → eqb kind 3 ≡ false → 0 ≡ map_pages_of page
unfolding map_pages_of
kind_without_maps page kind is other = sym (ap (λ (k : ℕ). cond (eqb k 3) (number_at page 32 4) 0) is ∙ ap (λ (b : Bool). cond b (number_at page 32 4) 0) other)

pub unstarted_facts : (form : Form) → facts_on form unstarted_page ≡ no_facts
unstarted_facts form = λ i. record {
  kind = zero_kind unstarted_page unstarted_is i;
  lowest = lowest-unstarted form unstarted_page unstarted_is i;
  room = sym (kind_without_room unstarted_page 0 (zero_kind unstarted_page unstarted_is) refl) i;
  maps = sym (kind_without_maps unstarted_page 0 (zero_kind unstarted_page unstarted_is) refl) i;
}

pub no_tuple_room : (form : Form) (page : List ℕ) → (IsOfIndex form → ⊥) → IsPageOf form page → 0 ≡ room_on page
no_tuple_room form page rows (inl zeros) = kind_without_room page 0 (zero_kind page zeros) refl
no_tuple_room forms.Status page rows (inr started) = kind_without_room page 1 (ap (λ (l : List ℕ). get_or l 0 0) started.1.bytes.2) refl
no_tuple_room (forms.Heap row count kinds format) page rows (inr started) = kind_without_room page 2 (heap_front (forms.Heap row count kinds format) page started.0 started.1) refl
no_tuple_room forms.Index page rows (inr started) = absurd (rows tt)

pub no_maps : (form : Form) (page : List ℕ) → (IsOfIndex form → ⊥) → IsPageOf form page → 0 ≡ map_pages_of page
no_maps form page rows (inl zeros) = kind_without_maps page 0 (zero_kind page zeros) refl
no_maps forms.Status page rows (inr started) = kind_without_maps page 1 (ap (λ (l : List ℕ). get_or l 0 0) started.1.bytes.2) refl
no_maps (forms.Heap row count kinds format) page rows (inr started) = kind_without_maps page 2 (heap_front (forms.Heap row count kinds format) page started.0 started.1) refl
no_maps forms.Index page rows (inr started) = absurd (rows tt)

-- 1 for a started page, else 0
abbrev weight : List ℕ → ℕ
weight page = cond (is_started page) 1 0

-- where the first n pages are started and no others
pub count_first : (pages : List (List ℕ)) (n : ℕ) → n ≤ length pages → ((k : ℕ) → k < n → is_started (page_in pages k) ≡ true) → ((k : ℕ) → n ≤ k → k < length pages → is_started (page_in pages k) ≡ false) → count_by is_started pages ≡ n
count_first [] zero few started others = refl
count_first [] (suc n) few started others = absurd (omega arith)
count_first (page ∷ pages) zero few started others =
    let none : weight page ≡ 0 = ap (λ (t : Bool). cond t 1 0) (others 0 (omega arith) (omega arith)) in
    let rest = count_first pages zero (omega arith) (λ k low. absurd (omega arith)) (λ k high low. others (suc k) (omega arith) (omega arith)) in
    omega (arith, none, rest, sum_by-cons weight page pages)
count_first (page ∷ pages) (suc n) few started others =
    let one : weight page ≡ 1 = ap (λ (t : Bool). cond t 1 0) (started 0 (omega arith)) in
    let rest = count_first pages n (omega arith) (λ k low. started (suc k) (omega arith)) (λ k high low. others (suc k) (omega arith) (omega arith)) in
    omega (arith, one, rest, sum_by-cons weight page pages)
