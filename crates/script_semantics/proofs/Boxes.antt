-- How many tuples an index has at most, and how many rows a table: a list of places within a box, apart from each other, is no longer than the box.
use Rattle.std.proofs.Common.{◌≡◌, ◌≢◌, ◌⊎◌, inl, inr, ⊎_elim, ℕ, zero, suc, ◌+◌, ◌*◌, ◌≤◌, ◌<◌, Option, None, Some, List, [], ◌∷◌, length, refl, sym, ap, ◌∙◌, subst, arith, add-zero, add-suc, suc-mul, zero-mul}
use Rattle.std.proofs.lemmas.Option.{same_Some}
use Rattle.block_model.specs.declared.place.Spot.{Spot}
use Rattle.block_model.specs.declared.row.Row.{Row}
use Rattle.block_model.specs.declared.row.RowId.{RowId}
use Rattle.coverage.specs.IndexView.{Pages, Unstarted, Regular, Emptying}
use Rattle.coverage.specs.PageOrder.{IsForTuples}
use Rattle.coverage.proofs.Numbers.{lt_or_ge}
use Rattle.coverage.specs.RowOrder.{IsBefore, IsAmong, AreInOrder}
use Rattle.coverage.specs.StepsLeft.{IsIn, AreApart, AreAtMost, HasAtMostTuples, HasAtMostToMark}
use Rattle.coverage.specs.Table.{TableScan, TableState}
use Rattle.coverage.specs.TableCovered.{IsTableKept}
use Rattle.coverage.proofs.PlacesCounted.{fewer, one_more}
use Rattle.script_semantics.specs.Bounds.{IsBounded, most_blocks, most_pages, most_slots}

self : (n : ℕ) → n ≤ n
self n = omega arith

-- ---- places within a box

-- in the slots below that number, of the blocks below b; and of block b those below slot s
abbrev IsBelow : (slots b s : ℕ) → Spot → Type 0
IsBelow slots b s x = ((x.block < b) × (x.slot < slots)) ⊎ ((x.block ≡ b) × (x.slot < s))

below_none : (n : ℕ) → n < zero → ⊥
below_none n less = omega arith

below_next : (m n : ℕ) → m < suc n → n ≤ m → m ≡ n
below_next m n less ge = omega arith

none_are : (P : Spot → Type 0) → ((x : Spot) → P x → ⊥) → AreAtMost P 0
none_are P never [] apart all = self 0
none_are P never (x ∷ xs) apart all = absurd (never x (all x (inl refl)))

-- slot by slot
in_block : (slots b n : ℕ) → AreAtMost (IsBelow slots b 0) n → (s : ℕ) → AreAtMost (IsBelow slots b s) (n + s)
in_block slots b n before zero = subst (AreAtMost (IsBelow slots b 0)) (sym (add-zero n)) before
in_block slots b n before (suc s) =
    subst (AreAtMost (IsBelow slots b (suc s))) (sym (add-suc n s))
    (one_more (IsBelow slots b s) (IsBelow slots b (suc s)) (record { block = b; slot = s }) (n + s) so (in_block slots b n before s))
  where
    so : (x : Spot) → IsBelow slots b (suc s) x → (x ≡ record { block = b; slot = s }) ⊎ IsBelow slots b s x
    so x (inl lower) = inr (inl lower)
    so x (inr (here, below)) = ⊎_elim
        (λ (less : x.slot < s). inr (inr (here, less)))
        (λ (last : s ≤ x.slot). inl (λ j. record { block = here j; slot = below_next x.slot s below last j }))
        (lt_or_ge x.slot s)

-- block by block
in_box : (slots b : ℕ) → AreAtMost (IsBelow slots b 0) (b * slots)
in_box slots zero = subst (AreAtMost (IsBelow slots zero 0)) (sym (zero-mul slots)) (none_are (IsBelow slots zero 0) never)
  where
    never : (x : Spot) → IsBelow slots zero 0 x → ⊥
    never x (inl (lower, below)) = below_none x.block lower
    never x (inr (here, below)) = below_none x.slot below
in_box slots (suc b) =
    subst (AreAtMost (IsBelow slots (suc b) 0)) (sym (suc-mul b slots))
    (fewer (IsBelow slots b slots) (IsBelow slots (suc b) 0) (b * slots + slots) so (in_block slots b (b * slots) (in_box slots b) slots))
  where
    so : (x : Spot) → IsBelow slots (suc b) 0 x → IsBelow slots b slots x
    so x (inl (lower, below)) = ⊎_elim
        (λ (less : x.block < b). inl (less, below))
        (λ (last : b ≤ x.block). inr (below_next x.block b lower last, below))
        (lt_or_ge x.block b)
    so x (inr (here, below)) = absurd (below_none x.slot below)

-- ---- the tuples of an index

some_of : {A : Type 0} → (o : Option A) → o ≢ None → (x : A) × (o ≡ Some x)
some_of None not = absurd (not refl)
some_of (Some x) not = (x, refl)

regular_is_started : Regular ≡ Unstarted → ⊥
regular_is_started is = cc

emptying_is_started : Emptying ≡ Unstarted → ⊥
emptying_is_started is = cc

is_started : (pages : Pages) (p : ℕ) → IsForTuples pages p → pages.kind p ≢ Unstarted
is_started pages p (inl regular) not = regular_is_started (sym regular ∙ not)
is_started pages p (inr emptying) not = emptying_is_started (sym emptying ∙ not)

within : (a b c : ℕ) → a < b → b ≤ c → a < c
within a b c less le = omega arith

pub tuples_at_most : (w : TableState) (at : ℕ) → IsTableKept w → IsBounded w → at < w.indexes → HasAtMostTuples w at (most_pages * most_slots)
tuples_at_most w at kept bounded below =
    fewer (IsBelow most_slots most_pages 0) (λ x. (w.index at).tuple x ≢ None) (most_pages * most_slots) so (in_box most_slots most_pages)
  where
    so : (x : Spot) → (w.index at).tuple x ≢ None → IsBelow most_slots most_pages 0 x
    so x stands =
        let one = some_of ((w.index at).tuple x) stands in
        let ordered = (kept.indexes at below).ordered in
        inl (
          within x.block (w.index at).pages.limit most_pages
              (ordered.below x.block (is_started (w.index at).pages x.block (ordered.tuples x one.0 one.1))) (bounded.pages at below),
          bounded.tuples at below x one.0 one.1,
        )

-- ---- the rows of a table

not_before : (id : RowId) → IsBefore id id → ⊥
not_before id (inl less) = less_self id.t less
  where
    less_self : (n : ℕ) → n < n → ⊥
    less_self n less = omega arith
not_before id (inr (same, less)) = less_self id.k less
  where
    less_self : (n : ℕ) → n < n → ⊥
    less_self n less = omega arith

-- rows with these ids stand at places apart from each other
record StandApart (w : TableState) (ids : List RowId) : Type 0 where
  places : List Spot
  apart : AreApart places
  rows : (x : Spot) → IsIn places x → (r : Row) × (w.row x.block x.slot ≡ Some r) × IsAmong ids r.id
  counted : length places ≡ length ids

abbrev Stand : TableState → List RowId → Type 0
Stand w ids = (id : RowId) → IsAmong ids id → (b : ℕ) × (k : ℕ) × (r : Row) × (w.row b k ≡ Some r) × (r.id ≡ id)

stand_apart : (w : TableState) (ids : List RowId) → AreInOrder ids → Stand w ids → StandApart w ids
stand_apart w [] order stand = record { places = []; apart = tt; rows = λ x among. absurd among; counted = refl }
stand_apart w (first ∷ rest) order stand =
    let more = stand_apart w rest order.1 (λ id among. stand id (inr among)) in
    let here = stand first (inl refl) in
    record {
      places = record { block = here.0; slot = here.1 } ∷ more.places;
      apart = (
        λ among.
            let again = more.rows (record { block = here.0; slot = here.1 }) among in
            let same : here.2 ≡ again.0 = same_Some _ _ (sym here.3 ∙ again.1) in
            not_before first (order.0 first (subst (IsAmong rest) (sym (ap (λ (r : Row). r.id) same) ∙ here.4) again.2)),
        more.apart,
      );
      rows = λ x among. ⊎_elim
          (λ (is : x ≡ record { block = here.0; slot = here.1 }).
          (here.2, ap (λ (y : Spot). w.row y.block y.slot) is ∙ here.3, inl here.4))
          (λ (later : IsIn more.places x). let there = more.rows x later in (there.0, there.1, inr there.2))
          among;
      counted = ap suc more.counted;
    }

pub rows_at_most : (w : TableState) (scan : TableScan) → IsTableKept w → IsBounded w → HasAtMostToMark w scan (most_blocks * most_slots)
rows_at_most w scan kept bounded reads deletes ids order marks =
    let apart = stand_apart w ids order (λ id among. let one = marks id among in (one.0, one.1, one.2, one.3, one.4)) in
    subst (λ n. n ≤ most_blocks * most_slots) apart.counted
    (in_box most_slots most_blocks apart.places apart.apart
    (λ x among.
    let row = apart.rows x among in
    inl (within x.block w.blocks most_blocks (kept.rows_below x.block x.slot row.0 row.1) bounded.blocks, bounded.rows x.block x.slot row.0 row.1)))
