-- the test of included ranges says what Includes does
use Rattle.std.specs.Prelude.{◌≡◌, ◌↔◌, Bool, true}
use Rattle.std.proofs.lemmas.Bool.{false≢true, and_from, and_parts}
use Rattle.block_model.specs.declared.value.Value.{Value}
use Rattle.block_model.specs.declared.value.Value.TheVariants.{Null, Int, Span, Net}
use Rattle.block_model.specs.declared.value.Op.TheVariants.{Contains}
use Rattle.block_model.specs.Matches.{range_matches}
use Rattle.block_model.specs.Ranges.{Range, Empty, Between, leaves_room}
use Rattle.opclass_inclusion.specs.SpanIncludes.{Includes, IncludesRange, is_included, range_is_included}
use Rattle.opclass_inclusion.specs.declared.span_summary.SpanSummary.{SpanSummary}

tested_range : (e : Bool) (hull r : Range) → (range_is_included e hull r ≡ true) ↔ IncludesRange e hull r
tested_range e hull Empty = (λ is. is, λ is. is)
tested_range e hull (Between l h) =
    (λ is. let both = and_parts (leaves_room l h) (range_matches hull Contains (Between l h)) is in (both.0, both.1), λ is. and_from (leaves_room l h) (range_matches hull Contains (Between l h)) is.0 is.1)

pub tested : (s : SpanSummary) (v : Value) → (is_included s v ≡ true) ↔ Includes s v
tested s (Span r) = tested_range s.empty_added s.hull r
tested s Null = (λ is. absurd (false≢true is), λ is. absurd is)
tested s (Int v) = (λ is. absurd (false≢true is), λ is. absurd is)
tested s (Net n) = (λ is. absurd (false≢true is), λ is. absurd is)
