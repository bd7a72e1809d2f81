-- summaries of ranges
use Rattle.std.specs.Prelude.{ℤ, FitsSigned, Bool, true, false, ◌||◌, Option, None, Some}
use Rattle.std.specs.Int.{w64, int_min, int_max}
use Rattle.block_model.specs.declared.value.Value.{Value}
use Rattle.block_model.specs.declared.value.Value.TheVariants.{Span}
use Rattle.block_model.specs.Ranges.{Range, Empty, Between, IsRange, lower_of, upper_of}
use Rattle.opclass_inclusion.specs.declared.span_summary.SpanSummary.{SpanSummary}

-- a bound that there is, is of int8
abbrev pub BoundFits : Option ℤ → Type 0
BoundFits None = Unit {0}
BoundFits (Some z) = FitsSigned w64 z

-- the hull is a range of int8; without a range that isn't empty it is empty
pub record IsSummary (s : SpanSummary) : Type 0 where
  pub is_range : IsRange s.hull
  pub lower_fits : BoundFits (lower_of s.hull)
  pub upper_fits : BoundFits (upper_of s.hull)

abbrev pub is_empty : Range → Bool
is_empty Empty = true
is_empty (Between l h) = false

-- the bounds from which on, and below which, the numbers of both are
abbrev pub least_lower : Option ℤ → Option ℤ → Option ℤ
least_lower (Some a) (Some b) = Some (int_min a b)
least_lower a b = None

abbrev pub greatest_upper : Option ℤ → Option ℤ → Option ℤ
greatest_upper (Some a) (Some b) = Some (int_max a b)
greatest_upper a b = None

-- the smallest range that contains both
abbrev pub hull_of : Range → Range → Range
hull_of Empty k = k
hull_of (Between a b) Empty = Between a b
hull_of (Between a b) (Between c d) = Between (least_lower a c) (greatest_upper b d)

-- a bound with its bracket, which may be inclusive
abbrev pub bracketed : Option ℤ → Bool → Option (ℤ × Bool)
bracketed None inclusive = None
bracketed (Some z) inclusive = Some (z, inclusive)

-- no range was added
abbrev pub no_range : SpanSummary
no_range = record { empty_added = false; hull = Empty }

-- the summary of one range
abbrev pub of_range : Range → SpanSummary
of_range r = record { empty_added = is_empty r; hull = r }

-- the summary of what either is of
abbrev pub united : SpanSummary → SpanSummary → SpanSummary
united s t = record { empty_added = s.empty_added || t.empty_added; hull = hull_of s.hull t.hull }

-- the summary also of a value
abbrev pub with_value : SpanSummary → Value → SpanSummary
with_value s (Span r) = united s (of_range r)
with_value s v = s
