-- which blocks are given
use Rattle.std.proofs.Common.{◌≡◌, ℕ, zero, suc, ◌+◌, ◌*◌, ◌/◌, ◌<◌, ◌≤◌, Bool, true, false, cond, ◌&&◌, List, [], ◌∷◌, length, Option, None, Some, refl, sym, ap, ◌∙◌, arith, true≢false, div-mul-le_self, lt_of_le_of_lt}
use Rattle.std.specs.Prelude.{IsTrue, slice_index_or}
use Rattle.std.specs.List.{filter, list_all, range_with_len}
use Rattle.std.proofs.lemmas.Bool.{and_from, and_parts}
use Rattle.block_model.specs.declared.row.Cond.{Cond}
use Rattle.block_model.specs.declared.row.Query.{Query}
use Rattle.store_layout.specs.DiskLayout.{DiskLayout}
use Rattle.coverage.specs.Table.{TableScan, TableState}
use Rattle.coverage.specs.TableCovered.{JudgesExactly}
use Rattle.coverage.specs.TableSteps.{first_block, range_in}
use Rattle.index_steps.specs.IndexTuples.{IndexShape, seen, shape_of}
use Rattle.index_steps.specs.ShownTable.{indexes_of}
use Rattle.summary_directory.specs.GivenBlocks.{given_blocks, gives, is_given, keeps_range, range_of}
use Rattle.summary_directory.specs.JudgesAsShown.{JudgesAsShown}
use Rattle.summary_directory.specs.LeavesOut.{LeavesOut, number_at}
use Rattle.summary_directory.specs.Shown.{Shown}

-- ---- tests over lists

-- two tests that agree on some numbers filter them alike
pub filter_same : (p q : ℕ → Bool) (a n : ℕ) → ((b : ℕ) → a ≤ b → b < a + n → p b ≡ q b) → filter p (range_with_len a n) ≡ filter q (range_with_len a n)
filter_same p q a zero same = refl
filter_same p q a (suc n) same =
    ap (λ (x : Bool). cond x (a ∷ filter p (range_with_len (a + 1) n)) (filter p (range_with_len (a + 1) n))) (same a (omega arith) (omega arith))
    ∙ ap (λ (l : List ℕ). cond (q a) (a ∷ l) l) (filter_same p q (a + 1) n (λ b low below. same b (omega (arith, low)) (omega (arith, below))))

true_same : (x y : Bool) → (IsTrue x → IsTrue y) → (IsTrue y → IsTrue x) → x ≡ y
true_same true y f g = sym (f refl)
true_same false true f g = g refl
true_same false false f g = refl

is_true : (x : Bool) → (x ≡ false → ⊥) → x ≡ true
is_true true h = refl
is_true false h = absurd (h refl)

all_true : (p : ℕ → Bool) (xs : List ℕ) → ((at : ℕ) → at < length xs → p (slice_index_or xs at 0) ≡ true) → list_all p xs ≡ true
all_true p [] each = refl
all_true p (x ∷ xs) each = and_from (p x) (list_all p xs) (each zero (omega arith)) (all_true p xs (λ at inside. each (suc at) (omega (arith, inside))))

all_at : (p : ℕ → Bool) (xs : List ℕ) (at : ℕ) → at < length xs → list_all p xs ≡ true → p (slice_index_or xs at 0) ≡ true
all_at p [] at inside all = absurd (omega (arith, inside))
all_at p (x ∷ xs) zero inside all = (and_parts (p x) (list_all p xs) all).0
all_at p (x ∷ xs) (suc at) inside all = all_at p xs at (omega (arith, inside)) (and_parts (p x) (list_all p xs) all).1

-- a place of the list at which the test is false
abbrev FalseAt : (ℕ → Bool) → List ℕ → Type 0
FalseAt p xs = (at : ℕ) × (at < length xs) × (p (slice_index_or xs at 0) ≡ false)

false_here : (p : ℕ → Bool) (x : ℕ) (xs : List ℕ) → (list_all p xs ≡ false → FalseAt p xs) → (b : Bool) → p x ≡ b → (b && list_all p xs) ≡ false → FalseAt p (x ∷ xs)
false_here p x xs later true is none = let found = later none in (suc found.0, omega (arith, found.1), found.2)
false_here p x xs later false is none = (zero, omega arith, is)

one_false : (p : ℕ → Bool) (xs : List ℕ) → list_all p xs ≡ false → FalseAt p xs
one_false p [] none = absurd (true≢false none)
one_false p (x ∷ xs) none = false_here p x xs (λ out. one_false p xs out) (p x) refl none

-- ---- a block that is left out

out_by : (shape : IndexShape) (conds : List Cond) (tuple : Option (List ℕ)) → keeps_range shape conds tuple ≡ false → (bytes : List ℕ) × (tuple ≡ Some bytes) × ((seen shape bytes).keeps conds ≡ false)
out_by shape conds None none = absurd (true≢false none)
out_by shape conds (Some bytes) is = (bytes, refl, is)

pub left_out_by : (layout : DiskLayout) (shown : Shown) (query : Query) (block : ℕ) → is_given layout shown query block ≡ false → (at : ℕ) × LeavesOut layout shown query at block
left_out_by layout shown query block out =
    let found = one_false (gives layout shown query block) (indexes_of layout query.table) out in
    let n = number_at layout query.table found.0 in
    let tuple = out_by (shape_of layout n) query.conds (shown.tuple n (range_of layout n block)) found.2 in
    (found.0, record { of_table = found.1; bytes = tuple.0; there = tuple.1; drops = tuple.2 })

pub left_out : (layout : DiskLayout) (shown : Shown) (query : Query) (at block : ℕ) → LeavesOut layout shown query at block → is_given layout shown query block ≡ false
left_out layout shown query at block out = by (is_given layout shown query block) refl
  where
    n : ℕ
    n = number_at layout query.table at

    kept_is : gives layout shown query block n ≡ false
    kept_is = ap (keeps_range (shape_of layout n) query.conds) out.there ∙ out.drops

    by : (b : Bool) → is_given layout shown query block ≡ b → is_given layout shown query block ≡ false
    by true is = absurd (true≢false (sym (all_at (gives layout shown query block) (indexes_of layout query.table) at out.of_table is) ∙ kept_is))
    by false is = is

-- ---- an explain that judged by what is shown

abbrev truth_of : Option Bool → Bool
truth_of None = true
truth_of (Some b) = b

module _ (layout : DiskLayout) (shown : Shown) (query : Query) (w : TableState) (scan : TableScan) (exact : JudgesExactly w scan) (judges : JudgesAsShown layout shown query w scan) where
  -- how it judged the range of a block below the extent
  verdict : (b i : ℕ) → b < scan.extent → i < w.indexes → scan.judged i (range_in w i b) ≡ Some (gives layout shown query b (number_at layout query.table i))
  verdict b i below inside =
      let n = number_at layout query.table i in
      let low : range_in w i b * (w.index i).pages_per_range ≤ b = div-mul-le_self b (w.index i).pages_per_range in
      let within : first_block w i (range_in w i b) < scan.extent = lt_of_le_of_lt low below in
      judges.judged i (range_in w i b) inside within
      ∙ ap (λ (p : ℕ). Some (keeps_range (shape_of layout n) query.conds (shown.tuple n (b / p)))) (judges.pages_per_range i inside)

  candidate_is : (b : ℕ) → b < scan.extent → scan.candidate b ≡ is_given layout shown query b
  candidate_is b below = true_same (scan.candidate b) (is_given layout shown query b) given candidate
    where
      given : IsTrue (scan.candidate b) → IsTrue (is_given layout shown query b)
      given is = all_true (gives layout shown query b) (indexes_of layout query.table) (λ at inside.
          let within : at < w.indexes = omega (arith, inside, judges.indexes) in
          is_true (gives layout shown query b (number_at layout query.table at)) (λ out. ((exact.candidate b).0 is).1 at within (verdict b at below within ∙ ap (λ (x : Bool). Some x) out)))

      candidate : IsTrue (is_given layout shown query b) → IsTrue (scan.candidate b)
      candidate is = (exact.candidate b).1 (
        below,
        λ i within out.
            let inside : i < length (indexes_of layout query.table) = omega (arith, within, judges.indexes) in
            true≢false (sym (all_at (gives layout shown query b) (indexes_of layout query.table) i inside is) ∙ ap truth_of (sym (verdict b i below within) ∙ out)),
      )

  pub explain_tells : filter scan.candidate (range_with_len 0 scan.extent) ≡ given_blocks layout shown query
  explain_tells =
      filter_same scan.candidate (is_given layout shown query) 0 scan.extent (λ b low below. candidate_is b (omega (arith, below)))
      ∙ ap (λ (n : ℕ). filter (is_given layout shown query) (range_with_len 0 n)) judges.extent
