-- the exact summary of a list of ranges, whatever their order
use Rattle.std.specs.Prelude.{◌≡◌, ◌↔◌, true, List, All, Contains as Has, fold}
use Rattle.block_model.specs.declared.value.Value.{Value}
use Rattle.block_model.specs.declared.value.Value.TheVariants.{Span}
use Rattle.block_model.specs.declared.value.Op.TheVariants.{Contains}
use Rattle.block_model.specs.Matches.{range_matches}
use Rattle.block_model.specs.Ranges.{Range, Empty}
use Rattle.opclass_inclusion.specs.SpanHulls.{no_range, with_value}
use Rattle.opclass_inclusion.specs.declared.span_summary.SpanSummary.{SpanSummary}

-- the first range contains the second
abbrev pub HoldsRange : Range → Range → Type 0
HoldsRange r k = range_matches r Contains k ≡ true

-- the range contains the value, by `@>`
abbrev pub HoldsValue : Range → Value → Type 0
HoldsValue r (Span k) = HoldsRange r k
HoldsValue r v = ⊥

-- it contains each value, and every range that does so contains it
pub record IsSmallestRange (values : List Value) (u : Range) : Type 0 where
  pub holds_each : All (HoldsValue u) values
  pub smallest : (r : Range) → All (HoldsValue r) values → HoldsRange r u

-- the flag exactly where an empty range is among the values, and the smallest range that contains each; it is empty
-- exactly where each value is, and then counts as no hull
pub record ExactSummary (values : List Value) (s : SpanSummary) : Type 0 where
  pub flag : (s.empty_added ≡ true) ↔ Has values (Span Empty)
  pub hull : IsSmallestRange values s.hull

-- the summary of values that are added one by one, in their order
abbrev pub summary_of : List Value → SpanSummary
summary_of values = fold with_value no_range values
