-- what a number meets holds of bounds that it lies between
use Rattle.std.proofs.Common.{◌≡◌, ℤ, ◌≤ℤ◌, true, false, refl, arith}
use Rattle.std.proofs.lemmas.Bool.{false≢true}
use Rattle.std.proofs.lemmas.Int.{ints}
use Rattle.block_model.specs.declared.value.Value.{Value}
use Rattle.block_model.specs.declared.value.Value.TheVariants.{Null, Int, Span, Net}
use Rattle.block_model.specs.declared.value.Op.{Op}
use Rattle.block_model.specs.declared.value.Op.TheVariants.{Lt, Le, Eq, Ge, Gt}
use Rattle.block_model.specs.Matches.{kind_matches, number_matches}
use Rattle.opclass_api.specs.Conditions.{is_null}
use Rattle.opclass_api.specs.NumberBounds.{number_holds, key_holds}

number_kept : (l g v : ℤ) (op : Op) (k : ℤ) → l ≤ℤ v → v ≤ℤ g → number_matches v op k ≡ true → number_holds l g op k ≡ true
number_kept l g v Lt k low high m = grind (arith, ints)
number_kept l g v Le k low high m = grind (arith, ints)
number_kept l g v Eq k low high m = grind (arith, ints)
number_kept l g v Ge k low high m = grind (arith, ints)
number_kept l g v Gt k low high m = grind (arith, ints)
number_kept l g v op k low high m = m

pub key_kept : (l g v : ℤ) (op : Op) (key : Value) → l ≤ℤ v → v ≤ℤ g → kind_matches (Int v) op key ≡ true → key_holds l g op key ≡ true
key_kept l g v op (Int k) low high m = number_kept l g v op k low high m
key_kept l g v op Null low high m = m
key_kept l g v op (Span k) low high m = m
key_kept l g v op (Net k) low high m = m

-- a null key holds nothing
pub key_null : (l g : ℤ) (op : Op) (key : Value) → is_null key ≡ true → key_holds l g op key ≡ false
key_null l g op Null null = refl
key_null l g op (Int k) null = absurd (false≢true null)
key_null l g op (Span r) null = refl
key_null l g op (Net n) null = refl
