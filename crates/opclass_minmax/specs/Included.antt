-- the test of included values says what Includes does
use Rattle.std.proofs.Common.{◌≡◌, ℤ, ◌≤ℤ◌, true, arith}
use Rattle.std.specs.Prelude.{◌↔◌, int_le}
use Rattle.std.proofs.lemmas.Bool.{false≢true, and_from, and_parts}
use Rattle.std.proofs.lemmas.Int.{ints}
use Rattle.block_model.specs.declared.value.Value.{Value}
use Rattle.block_model.specs.declared.value.Value.TheVariants.{Null, Int, Span, Net}
use Rattle.opclass_minmax.specs.Bounds.{Bounds, NothingYet, Between}
use Rattle.opclass_minmax.specs.Includes.{IsWithin, Includes, is_within, is_included}

at_most : (a b : ℤ) → int_le a b ≡ true → a ≤ℤ b
at_most a b is = grind (arith, ints)

is_at_most : (a b : ℤ) → a ≤ℤ b → int_le a b ≡ true
is_at_most a b is = grind (arith, ints)

within : (l g : ℤ) (v : Value) → is_within l g v ≡ true → IsWithin l g v
within l g (Int v) is = let both = and_parts (int_le l v) (int_le v g) is in (at_most l v both.0, at_most v g both.1)
within l g Null is = absurd (false≢true is)
within l g (Span r) is = absurd (false≢true is)
within l g (Net n) is = absurd (false≢true is)

tested_within : (l g : ℤ) (v : Value) → IsWithin l g v → is_within l g v ≡ true
tested_within l g (Int v) is = and_from (int_le l v) (int_le v g) (is_at_most l v is.0) (is_at_most v g is.1)
tested_within l g Null is = absurd is
tested_within l g (Span r) is = absurd is
tested_within l g (Net n) is = absurd is

pub tested : (s : Bounds) (v : Value) → (is_included s v ≡ true) ↔ Includes s v
tested NothingYet v = (λ is. absurd (false≢true is), λ is. absurd is)
tested (Between l g) v = (within l g v, tested_within l g v)
