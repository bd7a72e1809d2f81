-- how a range is kept: its shape, with 0 for a bound that it lacks
use Rattle.std.specs.Prelude.{◌≡◌, ℤ, pos, int_lt, true, None, Some, refl}
use Rattle.std.proofs.Common.{sym}
use Rattle.block_model.specs.declared.span.Span8.TheInside.{Inside}
use Rattle.block_model.specs.declared.span.Shape.{Shape}
use Rattle.block_model.specs.declared.span.Shape.TheVariants as shapes
use Rattle.block_model.specs.Ranges.{Range, Empty, Between}

abbrev pub range_in : Shape → ℤ → ℤ → Range
range_in shapes.Empty l h = Empty
range_in shapes.All l h = Between None None
range_in shapes.From l h = Between (Some l) None
range_in shapes.Below l h = Between None (Some h)
range_in shapes.Bounded l h = Between (Some l) (Some h)

abbrev pub range_of : Inside → Range
range_of s = range_in s.shape s.lower s.upper

abbrev pub HasRangeForm : Shape → ℤ → ℤ → Type 0
HasRangeForm shapes.Empty l h = (l ≡ pos 0) × (h ≡ pos 0)
HasRangeForm shapes.All l h = (l ≡ pos 0) × (h ≡ pos 0)
HasRangeForm shapes.From l h = h ≡ pos 0
HasRangeForm shapes.Below l h = l ≡ pos 0
HasRangeForm shapes.Bounded l h = int_lt l h ≡ true

abbrev pub IsCanonical : Inside → Type 0
IsCanonical s = HasRangeForm s.shape s.lower s.upper

abbrev pub span_of : Range → Inside
span_of Empty = record { shape = shapes.Empty; lower = pos 0; upper = pos 0 }
span_of (Between None None) = record { shape = shapes.All; lower = pos 0; upper = pos 0 }
span_of (Between (Some l) None) = record { shape = shapes.From; lower = l; upper = pos 0 }
span_of (Between None (Some h)) = record { shape = shapes.Below; lower = pos 0; upper = h }
span_of (Between (Some l) (Some h)) = record { shape = shapes.Bounded; lower = l; upper = h }

kept_back : (s : Shape) (l h : ℤ) → HasRangeForm s l h → span_of (range_in s l h) ≡ record { shape = s; lower = l; upper = h }
kept_back shapes.Empty l h k = λ i. record { shape = shapes.Empty; lower = sym k.0 i; upper = sym k.1 i }
kept_back shapes.All l h k = λ i. record { shape = shapes.All; lower = sym k.0 i; upper = sym k.1 i }
kept_back shapes.From l h k = λ i. record { shape = shapes.From; lower = l; upper = sym k i }
kept_back shapes.Below l h k = λ i. record { shape = shapes.Below; lower = sym k i; upper = h }
kept_back shapes.Bounded l h k = refl

pub span_of_range : (s : Inside) → IsCanonical s → span_of (range_of s) ≡ s
span_of_range s k = kept_back s.shape s.lower s.upper k
