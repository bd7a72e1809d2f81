-- the numbers of a table's indexes: all of them, no others, and in ascending order
use Rattle.std.proofs.Common.{◌≡◌, ◌⊎◌, inl, inr, ℕ, zero, suc, ◌+◌, ◌<◌, Bool, true, false, List, [], ◌∷◌, length, slice_get, Some, refl, sym, ap, ◌∙◌, arith}
use Rattle.std.specs.Prelude.{◌==◌, if◌then◌else◌, slice_index_or}
use Rattle.std.proofs.lemmas.Bool.{eq-eqb, eqb-true, false≢true}
use Rattle.std.proofs.lemmas.Option.{none-some, same_Some}
use Rattle.block_model.specs.declared.schema.Index.{Index}
use Rattle.index_steps.specs.IndexTuples.{no_index}
use Rattle.index_steps.specs.ShownTable.{numbers_from}

-- the numbers of what follows, with the one before them where it is of the table
abbrev with_this : Bool → ℕ → List ℕ → List ℕ
with_this is n rest = if is then n ∷ rest else rest

this_first : (is : Bool) (n : ℕ) (rest : List ℕ) → is ≡ true → (at : ℕ) × (slice_get (with_this is n rest) at ≡ Some n)
this_first true n rest of = (0, refl)
this_first false n rest of = absurd (false≢true of)

this_before : (is : Bool) (n x : ℕ) (rest : List ℕ) → (at : ℕ) × (slice_get rest at ≡ Some x) → (at : ℕ) × (slice_get (with_this is n rest) at ≡ Some x)
this_before true n x rest found = (suc found.0, found.1)
this_before false n x rest found = found

this_or_later : (is : Bool) (n x : ℕ) (rest : List ℕ) (at : ℕ) → slice_get (with_this is n rest) at ≡ Some x → ((is ≡ true) × (x ≡ n)) ⊎ ((later : ℕ) × (slice_get rest later ≡ Some x))
this_or_later true n x rest zero there = inl (refl, sym (same_Some n x there))
this_or_later true n x rest (suc at) there = inr (at, there)
this_or_later false n x rest at there = inr (at, there)

-- each of the table is listed
pub is_listed : (table n : ℕ) (indexes : List Index) (k : ℕ) → k < length indexes → (slice_index_or indexes k no_index).table ≡ table → (at : ℕ) × (slice_get (numbers_from table n indexes) at ≡ Some (n + k))
is_listed table n [] k below of = absurd (omega (arith, below))
is_listed table n (index ∷ more) zero below of =
    let found = this_first (index.table == table) n (numbers_from table (n + 1) more) (eq-eqb index.table table of) in
    (found.0, found.1 ∙ ap Some (omega arith))
is_listed table n (index ∷ more) (suc k) below of =
    let later = is_listed table (n + 1) more k (omega (arith, below)) of in
    this_before (index.table == table) n (n + suc k) (numbers_from table (n + 1) more) (later.0, later.1 ∙ ap Some (omega arith))

-- the index of a number that is counted on from n
pub record IsCounted (table n : ℕ) (indexes : List Index) (x : ℕ) : Type 0 where
  pub by : ℕ
  pub is : x ≡ n + by
  pub below : by < length indexes
  pub of : (slice_index_or indexes by no_index).table ≡ table

-- and what is listed is of the table
pub is_counted : (table n : ℕ) (indexes : List Index) (at x : ℕ) → slice_get (numbers_from table n indexes) at ≡ Some x → IsCounted table n indexes x
is_counted table n [] at x there = absurd (none-some x there)
is_counted table n (index ∷ more) at x there = elim (this_or_later (index.table == table) n x (numbers_from table (n + 1) more) at there) [
  | inl this ↦ record { by = 0; is = omega (arith, this.1); below = omega arith; of = eqb-true index.table table this.0 }
  | inr later ↦
      let counted = is_counted table (n + 1) more later.0 x later.1 in
      record { by = suc counted.by; is = omega (arith, counted.is); below = omega (arith, counted.below); of = counted.of }
]

in_order : (is : Bool) (n : ℕ) (rest : List ℕ) → ((at x : ℕ) → slice_get rest at ≡ Some x → n < x) → ((i j m x : ℕ) → i < j → slice_get rest i ≡ Some m → slice_get rest j ≡ Some x → m < x) → (i j m x : ℕ) → i < j
    → slice_get (with_this is n rest) i ≡ Some m → slice_get (with_this is n rest) j ≡ Some x → m < x
in_order true n rest past later i zero m x below first second = absurd (omega (arith, below))
in_order true n rest past later zero (suc j) m x below first second = omega (arith, same_Some n m first, past j x second)
in_order true n rest past later (suc i) (suc j) m x below first second = later i j m x (omega (arith, below)) first second
in_order false n rest past later i j m x below first second = later i j m x below first second

pub is_ascending : (table n : ℕ) (indexes : List Index) (i j m x : ℕ) → i < j → slice_get (numbers_from table n indexes) i ≡ Some m → slice_get (numbers_from table n indexes) j ≡ Some x → m < x
is_ascending table n [] i j m x below first second = absurd (none-some m first)
is_ascending table n (index ∷ more) i j m x below first second =
    in_order (index.table == table) n (numbers_from table (n + 1) more) (λ at y there. let counted = is_counted table (n + 1) more at y there in omega (arith, counted.is))
    (λ k l p q. is_ascending table (n + 1) more k l p q) i j m x below first second
