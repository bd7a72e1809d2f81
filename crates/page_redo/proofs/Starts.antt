-- Which kinds of pages a change starts, and what they are.
use Rattle.std.proofs.Common.{◌≡◌, ℕ, ◌||◌, Bool, true, false, eqb, MatchBool, List, [], refl, sym, subst}
use Rattle.std.proofs.lemmas.Bool.{eqb-true}
use Rattle.wal_record.specs.Kind.{Kind}
use Rattle.page_layout.specs.IndexPages.{IsMap, IsRegular}
use Rattle.page_layout.specs.declared.page.Form.{Form}
use Rattle.page_layout.specs.declared.page.Form.TheVariants as forms
use Rattle.page_layout.specs.PageContents.{IsPageOf}
use Rattle.page_layout.specs.PageWrites.{IsEmptyHeap, IsOfHeap, IsOfIndex}
use Rattle.page_redo.specs.Redo.{IsEmptyPage, IsIndexPageOf, IsStart, is_index_start}
use Rattle.page_redo.proofs.Pages.{no_entries}

-- no change starts a page of statuses
pub no_start : (kind : ℕ) → IsStart forms.Status kind → ⊥
no_start kind start = none (eqb kind 2) start.0
  where
    none : (b : Bool) → MatchBool b ⊥ ⊥ → ⊥
    none true never = never
    none false never = never

-- of a heap it starts the pages of that kind alone
pub heap_start : (row count : ℕ) (ks : List Kind) (format kind : ℕ) → kind ≡ 2 → IsStart (forms.Heap row count ks format) kind
heap_start row count ks format kind two = subst (IsStart (forms.Heap row count ks format)) (sym two) (tt, refl)

pub heap_only : (row count : ℕ) (ks : List Kind) (format kind : ℕ) → IsStart (forms.Heap row count ks format) kind → kind ≡ 2
heap_only row count ks format kind start = only (eqb kind 2) refl start.0
  where
    only : (b : Bool) → eqb kind 2 ≡ b → MatchBool b (Unit {0}) ⊥ → kind ≡ 2
    only true e is = eqb-true kind 2 e
    only false e is = absurd is

-- and of an index those of the map and of tuples
pub index_start : (kind : ℕ) → is_index_start kind ≡ true → IsStart forms.Index kind
index_start kind is = by_kind (eqb kind 4) refl is
  where
    by_kind : (map : Bool) → eqb kind 4 ≡ map → map || eqb kind 5 ≡ true → IsStart forms.Index kind
    by_kind true e some = subst (IsStart forms.Index) (sym (eqb-true kind 4 e)) (tt, refl)
    by_kind false e some = subst (IsStart forms.Index) (sym (eqb-true kind 5 some)) (tt, refl)

pub index_only : (kind : ℕ) → IsStart forms.Index kind → is_index_start kind ≡ true
index_only kind start = only (eqb kind 2) start.0 start.1
  where
    only : (heap : Bool) → MatchBool heap ⊥ (Unit {0}) → heap || is_index_start kind ≡ true → is_index_start kind ≡ true
    only true never some = absurd never
    only false none some = some

-- a page of a heap's kind is started in a heap
pub start_of_heap : (form : Form) (kind : ℕ) → kind ≡ 2 → IsStart form kind → IsOfHeap form
start_of_heap form kind two start = (subst (IsStart form) two start).0

-- what each kind is as it is started

pub empty_heap : (form : Form) (kind : ℕ) (page : List ℕ) → kind ≡ 2 → IsEmptyHeap form page → IsEmptyPage form kind page
empty_heap form kind page two is = subst (λ (k : ℕ). IsEmptyPage form k page) (sym two) is

pub empty_map : (form : Form) (kind : ℕ) (page : List ℕ) → kind ≡ 4 → IsMap no_entries page → IsEmptyPage form kind page
empty_map form kind page four is = subst (λ (k : ℕ). IsEmptyPage form k page) (sym four) is

pub empty_tuples : (form : Form) (kind : ℕ) (page : List ℕ) → (kind ≡ 2 → ⊥) → (kind ≡ 4 → ⊥) → IsRegular 5 [] page → IsEmptyPage form kind page
empty_tuples form kind page two four is = by_kind (eqb kind 2) (eqb kind 4) refl refl
  where
    by_kind : (heap map : Bool) → eqb kind 2 ≡ heap → eqb kind 4 ≡ map → MatchBool heap (IsEmptyHeap form page) (MatchBool map (IsMap no_entries page) (IsRegular 5 [] page))
    by_kind true map e f = absurd (two (eqb-true kind 2 e))
    by_kind false true e f = absurd (four (eqb-true kind 4 f))
    by_kind false false e f = is

-- a page of the form of an index
pub of_index : (form : Form) (page : List ℕ) → form ≡ forms.Index → IsPageOf form page → IsIndexPageOf form page
of_index form page e is = (subst IsOfIndex (sym e) tt, subst (λ (f : Form). IsPageOf f page) e is)
