-- the order of numbers
use Rattle.std.specs.Prelude.{◌≡◌, ◌⊎◌, ℤ, pos, ◌+ℤ◌, int_lt, int_le, true, false}
use Rattle.std.specs.Ordering.{int_eq}
use Rattle.std.proofs.Common.{arith, inl, inr, sym, ◌∙◌}
use Rattle.std.proofs.lemmas.Bool.{cases_Bool, false≢true}
use Rattle.std.proofs.lemmas.Int.{ints}
use Rattle.block_model.specs.OperatorLaws.{no_number_precedes_itself}
use Rattle.model_laws.specs.NumbersAreOrdered.{NumbersAreOrdered}

less_than_next : (v : ℤ) → int_lt v (v +ℤ pos 1) ≡ true
less_than_next v = grind (arith, ints)

through : (v m k : ℤ) → int_lt v m ≡ true → int_lt m k ≡ true → int_lt v k ≡ true
through v m k a b = grind (arith, ints)

last_case : (v k : ℤ) → int_lt v k ≡ false → int_eq v k ≡ false → int_lt k v ≡ true
last_case v k a b = grind (arith, ints)

some_case : (v k : ℤ) → (int_lt v k ≡ true) ⊎ ((int_eq v k ≡ true) ⊎ (int_lt k v ≡ true))
some_case v k = elim (cases_Bool (int_lt v k)) [
  | inl less ↦ inl less
  | inr a ↦ elim (cases_Bool (int_eq v k)) [ inl same ↦ inr (inl same) | inr b ↦ inr (inr (last_case v k a b)) ]
]

not_less : (v k : ℤ) → int_le v k ≡ true → int_lt v k ≡ false → int_eq v k ≡ true
not_less v k e a = grind (arith, ints)

less_is_at_most : (v k : ℤ) → int_lt v k ≡ true → int_le v k ≡ true
less_is_at_most v k e = grind (arith, ints)

equal_is_at_most : (v k : ℤ) → int_eq v k ≡ true → int_le v k ≡ true
equal_is_at_most v k e = grind (arith, ints)

equal_turned : (v k : ℤ) → int_eq v k ≡ true → int_eq k v ≡ true
equal_turned v k e = grind (arith, ints)

split : (v k : ℤ) → int_le v k ≡ true → (int_lt v k ≡ true) ⊎ (int_eq v k ≡ true)
split v k e = elim (cases_Bool (int_lt v k)) [ inl less ↦ inl less | inr a ↦ inr (not_less v k e a) ]

joined : (v k : ℤ) → (int_lt v k ≡ true) ⊎ (int_eq v k ≡ true) → int_le v k ≡ true
joined v k h = elim h [ inl less ↦ less_is_at_most v k less | inr same ↦ equal_is_at_most v k same ]

turned : (v k : ℤ) → (int_lt k v ≡ true) ⊎ (int_eq k v ≡ true) → (int_lt k v ≡ true) ⊎ (int_eq v k ≡ true)
turned v k h = elim h [ inl less ↦ inl less | inr same ↦ inr (equal_turned k v same) ]

turned_back : (v k : ℤ) → (int_lt k v ≡ true) ⊎ (int_eq v k ≡ true) → (int_lt k v ≡ true) ⊎ (int_eq k v ≡ true)
turned_back v k h = elim h [ inl less ↦ inl less | inr same ↦ inr (equal_turned v k same) ]

pub numbers_are_ordered : NumbersAreOrdered
numbers_are_ordered = record {
  irreflexive = λ v e. absurd (false≢true (sym (no_number_precedes_itself v) ∙ e));
  next = less_than_next;
  transitive = through;
  total = some_case;
  at_most = λ v k. (split v k, joined v k);
  at_least = λ v k. (λ e. turned v k (split k v e), λ h. joined k v (turned_back v k h));
}
