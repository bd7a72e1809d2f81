-- the order of numbers
use Rattle.std.specs.Prelude.{◌≡◌, ◌↔◌, ◌⊎◌, ℤ, pos, ◌+ℤ◌, true}
use Rattle.block_model.specs.declared.value.Value.TheVariants.{Int}
use Rattle.block_model.specs.declared.value.Op.{Op}
use Rattle.block_model.specs.declared.value.Op.TheVariants.{Lt, Le, Eq, Ge, Gt}
use Rattle.block_model.specs.Matches.{matches}

-- the operator holds of two numbers
abbrev pub Compares : ℤ → Op → ℤ → Type 0
Compares v op k = matches (Int v) op (Int k) ≡ true

-- No number is less than itself, and each is less than the next; of two numbers one is less, or they are equal. `<=` is `<` or
-- `=`, and `>=` is `>` or `=`.
pub record NumbersAreOrdered : Type 0 where
  pub irreflexive : (v : ℤ) → ¬ (Compares v Lt v)
  pub next : (v : ℤ) → Compares v Lt (v +ℤ pos 1)
  pub transitive : (v m k : ℤ) → Compares v Lt m → Compares m Lt k → Compares v Lt k
  pub total : (v k : ℤ) → Compares v Lt k ⊎ (Compares v Eq k ⊎ Compares v Gt k)
  pub at_most : (v k : ℤ) → Compares v Le k ↔ (Compares v Lt k ⊎ Compares v Eq k)
  pub at_least : (v k : ℤ) → Compares v Ge k ↔ (Compares v Gt k ⊎ Compares v Eq k)
