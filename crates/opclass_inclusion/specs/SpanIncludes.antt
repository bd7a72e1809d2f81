-- which values a summary of ranges includes
use Rattle.std.specs.Prelude.{◌≡◌, Bool, true, false, ◌&&◌}
use Rattle.block_model.specs.declared.value.Value.{Value}
use Rattle.block_model.specs.declared.value.Value.TheVariants.{Span}
use Rattle.block_model.specs.declared.value.Op.TheVariants.{Contains}
use Rattle.block_model.specs.Matches.{range_matches}
use Rattle.block_model.specs.Ranges.{Range, Empty, Between, IsRange, leaves_room}
use Rattle.opclass_inclusion.specs.declared.span_summary.SpanSummary.{SpanSummary}

-- the values of the class are those of int8range
abbrev pub IsSpan : Value → Type 0
IsSpan (Span r) = Unit {0}
IsSpan v = ⊥

-- an empty range where one was added, and any other that the hull contains
abbrev pub IncludesRange : Bool → Range → Range → Type 0
IncludesRange empty_added hull Empty = empty_added ≡ true
IncludesRange empty_added hull (Between l h) = IsRange (Between l h) × (range_matches hull Contains (Between l h) ≡ true)

abbrev pub Includes : SpanSummary → Value → Type 0
Includes s (Span r) = IncludesRange s.empty_added s.hull r
Includes s v = ⊥

-- both again, as tests
abbrev pub range_is_included : Bool → Range → Range → Bool
range_is_included empty_added hull Empty = empty_added
range_is_included empty_added hull (Between l h) = leaves_room l h && range_matches hull Contains (Between l h)

abbrev pub is_included : SpanSummary → Value → Bool
is_included s (Span r) = range_is_included s.empty_added s.hull r
is_included s v = false
