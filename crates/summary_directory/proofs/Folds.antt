-- a shelf shows what its posts show
use Rattle.std.proofs.Common.{◌≡◌, ◌≢◌, ℕ, inl, inr, Bool, true, false, ◌&&◌, List, [], ◌∷◌, Option, None, Some, fold, refl, sym, ap, ◌∙◌, zero-le}
use Rattle.std.specs.Prelude.{◌==◌, if◌then◌else◌, slice_index, slice_index_or}
use Rattle.std.proofs.lemmas.Bool.{cases_eq, eq-eqb, ne_eqb}
use Rattle.std.proofs.lemmas.List.{get_or_past}
use Rattle.summary_directory.specs.Shown.{Shown}
use Rattle.summary_directory.specs.declared.post.Post.{Post}
use Rattle.summary_directory.specs.declared.post.Post.TheVariants.{Set, Clear, Extent}
use Rattle.summary_directory.specs.declared.kept.Kept.{Kept}
use Rattle.kept_tuples.specs.Places.{placed}
use Rattle.summary_directory.specs.PublishedState.{nothing_shown, posted, shown_after}
use Rattle.summary_directory.specs.ShelfFold.{fold_of, no_posts, shown_of, step}
use Rattle.kept_tuples.proofs.Placed.{placed_else, placed_here}

abbrev Tuple : Type 0
Tuple = Option (List ℕ)

-- the tuples with this one at its place
abbrev put : List (List Tuple) → (index range : ℕ) → Tuple → List (List Tuple)
put tuples index range tuple = placed [] tuples index (placed None (slice_index_or tuples index []) range tuple)

-- the tuple of a range
abbrev there : List (List Tuple) → (i r : ℕ) → Tuple
there tuples i r = slice_index_or (slice_index_or tuples i []) r None

chosen : (i index r range : ℕ) (x y : Tuple) (a b : Bool) → (i == index) ≡ a → (r == range) ≡ b → (if a && b then x else y) ≡ (if (i == index) && (r == range) then x else y)
chosen i index r range x y a b ea eb = sym (ap (λ (c : Bool). if c && (r == range) then x else y) ea ∙ ap (λ (c : Bool). if a && c then x else y) eb)

other_index : (i index r range : ℕ) (x y : Tuple) → i ≢ index → y ≡ (if (i == index) && (r == range) then x else y)
other_index i index r range x y apart = sym (ap (λ (c : Bool). if c && (r == range) then x else y) (ne_eqb i index apart))

row_here : (tuples : List (List Tuple)) (index range : ℕ) (tuple : Tuple) (i : ℕ) → i ≡ index → slice_index_or (put tuples index range tuple) i [] ≡ placed None (slice_index_or tuples index []) range tuple
row_here tuples index range tuple i same =
    ap (λ (n : ℕ). slice_index_or (put tuples index range tuple) n []) same ∙ placed_here [] tuples index (placed None (slice_index_or tuples index []) range tuple)

in_row : (tuples : List (List Tuple)) (index range : ℕ) (tuple : Tuple) (i r : ℕ) → i ≡ index → slice_index_or (placed None (slice_index_or tuples index []) range tuple) r None ≡ (if (i == index) && (r == range) then tuple else there tuples i r)
in_row tuples index range tuple i r same = elim (cases_eq r range) [
  | inl here ↦ ap (λ (n : ℕ). slice_index_or (placed None (slice_index_or tuples index []) range tuple) n None) here ∙ placed_here None (slice_index_or tuples index []) range tuple
      ∙ chosen i index r range tuple (there tuples i r) true true (eq-eqb i index same) (eq-eqb r range here)
  | inr apart ↦ placed_else None (slice_index_or tuples index []) range r tuple apart ∙ ap (λ (n : ℕ). there tuples n r) (sym same)
      ∙ chosen i index r range tuple (there tuples i r) true false (eq-eqb i index same) (ne_eqb r range apart)
]

tuple_at : (tuples : List (List Tuple)) (index range : ℕ) (tuple : Tuple) (i r : ℕ) → there (put tuples index range tuple) i r ≡ (if (i == index) && (r == range) then tuple else there tuples i r)
tuple_at tuples index range tuple i r = elim (cases_eq i index) [
  | inl same ↦ ap (λ (row : List Tuple). slice_index_or row r None) (row_here tuples index range tuple i same) ∙ in_row tuples index range tuple i r same
  | inr apart ↦ ap (λ (row : List Tuple). slice_index_or row r None) (placed_else [] tuples index i (placed None (slice_index_or tuples index []) range tuple) apart)
      ∙ other_index i index r range tuple (there tuples i r) apart
]

extent_at : (extents : List ℕ) (table blocks t : ℕ) → slice_index (placed 0 extents table blocks) t ≡ (if t == table then blocks else slice_index extents t)
extent_at extents table blocks t = elim (cases_eq t table) [
  | inl same ↦ ap (λ (n : ℕ). slice_index (placed 0 extents table blocks) n) same ∙ placed_here 0 extents table blocks
      ∙ sym (ap (λ (c : Bool). if c then blocks else slice_index extents t) (eq-eqb t table same))
  | inr apart ↦ placed_else 0 extents table t blocks apart ∙ sym (ap (λ (c : Bool). if c then blocks else slice_index extents t) (ne_eqb t table apart))
]

-- a post changes what a shelf shows as it changes what is shown
pub shown_step : (k : Kept) (p : Post) → shown_of (step k p) ≡ posted (shown_of k) p
shown_step k (Set index range bytes) = λ j. record { tuple = λ i r. tuple_at k.tuples index range (Some bytes) i r j; extent = λ t. slice_index k.extents t }
shown_step k (Clear index range) = λ j. record { tuple = λ i r. tuple_at k.tuples index range None i r j; extent = λ t. slice_index k.extents t }
shown_step k (Extent table blocks) = λ j. record { tuple = λ i r. there k.tuples i r; extent = λ t. extent_at k.extents table blocks t j }

shown_fold : (k : Kept) (ps : List Post) → shown_of (fold step k ps) ≡ fold posted (shown_of k) ps
shown_fold k [] = refl
shown_fold k (p ∷ ps) = shown_fold (step k p) ps ∙ ap (λ (s : Shown). fold posted s ps) (shown_step k p)

none_at : (i r : ℕ) → (shown_of no_posts).tuple i r ≡ nothing_shown.tuple i r
none_at i r = ap (λ (row : List Tuple). slice_index_or row r None) (get_or_past no_posts.tuples i [] zero-le) ∙ get_or_past [] r None zero-le

zero_at : (t : ℕ) → (shown_of no_posts).extent t ≡ nothing_shown.extent t
zero_at t = get_or_past no_posts.extents t 0 zero-le

shown_none : shown_of no_posts ≡ nothing_shown
shown_none = λ j. record { tuple = λ i r. none_at i r j; extent = λ t. zero_at t j }

-- the fold of posts shows what is shown after them
pub shown_is : (posts : List Post) → shown_of (fold_of posts) ≡ shown_after posts
shown_is posts = shown_fold no_posts posts ∙ ap (λ (s : Shown). fold posted s posts) shown_none
