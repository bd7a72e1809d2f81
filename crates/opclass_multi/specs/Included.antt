-- the test of included values says what Includes does
use Rattle.std.specs.Prelude.{◌≡◌, ◌↔◌, true}
use Rattle.std.proofs.lemmas.Bool.{false≢true}
use Rattle.block_model.specs.declared.value.Value.{Value}
use Rattle.block_model.specs.declared.value.Value.TheVariants.{Null, Int, Span, Net}
use Rattle.opclass_multi.specs.Includes.{Includes, is_included}
use Rattle.opclass_multi.specs.Kept.{Kept}

pub tested : (s : Kept) (v : Value) → (is_included s v ≡ true) ↔ Includes s v
tested s (Int v) = (λ is. is, λ is. is)
tested s Null = (λ is. absurd (false≢true is), λ is. absurd is)
tested s (Span r) = (λ is. absurd (false≢true is), λ is. absurd is)
tested s (Net n) = (λ is. absurd (false≢true is), λ is. absurd is)
