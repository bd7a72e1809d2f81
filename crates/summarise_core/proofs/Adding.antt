-- rows that are added one after the other
use Rattle.std.proofs.Common.{◌≡◌, inl, inr, ℕ, ◌+◌, ◌≤◌, ◌<◌, All, List, length, get_or, take, sym, ap, subst, ◌∙◌, arith}
use Rattle.std.proofs.lemmas.Bool.{cases_lt}
use Rattle.std.proofs.lemmas.List.{get_or_default, get_or-map, length-map, take_all}
use Rattle.std.proofs.lemmas.List.Sums.{fold_more}
use Rattle.block_model.specs.declared.value.Value.{Value}
use Rattle.heap_rows.specs.declared.rows.Stored.{Stored}
use Rattle.range_tuple.specs.ExactTuples.{with_rows}
use Rattle.range_tuple.specs.Tuples.{IsTuple, Tuple, with_row}
use Rattle.summarise_core.specs.BlockRows.{AreKnown, values_of}

-- one row more
pub one_more : (rows : List Stored) (i : ℕ) (d : Stored) (t : Tuple) → i < length rows → with_rows (take (i + 1) (values_of rows)) t ≡ with_row (get_or rows i d).values (with_rows (take i (values_of rows)) t)
one_more rows i d t below =
    let values : Stored → List Value = λ row. row.values in
    fold_more (λ (widened : Tuple) (row : List Value). with_row row widened) t (values_of rows) i (values d) (omega (arith, below, length-map rows values))
    ∙ ap (λ (row : List Value). with_row row (with_rows (take i (values_of rows)) t)) (get_or-map values rows i d (values d) below)

-- all of them
pub all_added : (rows : List Stored) (i : ℕ) (t : Tuple) → length rows ≤ i → with_rows (take i (values_of rows)) t ≡ with_rows (values_of rows) t
all_added rows i t all =
    let values : Stored → List Value = λ row. row.values in
    ap (λ (vs : List (List Value)). with_rows vs t) (take_all i (values_of rows) (omega (arith, all, length-map rows values)))

pub tuples_more : (rows : List Stored) (i : ℕ) (t : Tuple) → ((n : ℕ) → n ≤ i → IsTuple (with_rows (take n (values_of rows)) t)) → IsTuple (with_rows (take (i + 1) (values_of rows)) t)
    → (n : ℕ) → n ≤ i + 1 → IsTuple (with_rows (take n (values_of rows)) t)
tuples_more rows i t so_far next n within = elim (cases_lt i n) [
  | inl high ↦ subst (λ (m : ℕ). IsTuple (with_rows (take m (values_of rows)) t)) (omega (arith, high, within)) next
  | inr low ↦ so_far n low
]

pub tuples_all : (rows : List Stored) (i : ℕ) (t : Tuple) → length rows ≤ i → ((n : ℕ) → n ≤ i → IsTuple (with_rows (take n (values_of rows)) t)) → (n : ℕ) → IsTuple (with_rows (take n (values_of rows)) t)
tuples_all rows i t all so_far n = elim (cases_lt i n) [
  | inl high ↦ subst (λ (u : Tuple). IsTuple u) (all_added rows i t all ∙ sym (all_added rows n t (omega (arith, high, all)))) (so_far i (omega arith))
  | inr low ↦ so_far n low
]

-- one known row more
pub known_more : (rows : List Stored) (i : ℕ) (item : Stored) → item ≡ get_or rows i item → i < length rows → ((k : ℕ) (d : Stored) → k < i → AreKnown (get_or rows k d).values) → AreKnown item.values
    → (k : ℕ) (d : Stored) → k < i + 1 → AreKnown (get_or rows k d).values
known_more rows i item is below so_far next k d within = elim (cases_lt k i) [
  | inl low ↦ so_far k d low
  | inr high ↦
      let at : i ≡ k = omega (arith, high, within) in
      let there : item ≡ get_or rows k d = is ∙ get_or_default rows i item d below ∙ ap (λ (n : ℕ). get_or rows n d) at in
      subst (λ (q : Stored). AreKnown q.values) there next
]

pub known_all : (rows : List Stored) (i : ℕ) → length rows ≤ i → ((k : ℕ) (d : Stored) → k < i → AreKnown (get_or rows k d).values) → All (λ (q : Stored). AreKnown q.values) rows
known_all rows i all so_far = λ k d below. so_far k d (omega (arith, below, all))
