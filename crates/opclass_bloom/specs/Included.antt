-- the test of included values says what Includes does
use Rattle.std.specs.Prelude.{◌≡◌, ◌↔◌, Bool, true, List}
use Rattle.std.proofs.lemmas.Bool.{false≢true}
use Rattle.block_model.specs.declared.value.Value.{Value}
use Rattle.block_model.specs.declared.value.Value.TheVariants.{Null, Int, Span, Net}
use Rattle.opclass_bloom.specs.Includes.{Includes, is_included}
use Rattle.opclass_bloom.specs.Parameters.{Parameters}

pub tested : (p : Parameters) (s : List Bool) (v : Value) → (is_included p s v ≡ true) ↔ Includes p s v
tested p s (Int v) = (λ is. (tt, is), λ both. both.1)
tested p s (Net a) = (λ is. (tt, is), λ both. both.1)
tested p s Null = (λ is. absurd (false≢true is), λ both. absurd both.0)
tested p s (Span r) = (λ is. absurd (false≢true is), λ both. absurd both.0)
