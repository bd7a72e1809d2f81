-- which values a column of a kind has
use Rattle.block_model.specs.declared.value.Kind.{Kind}
use Rattle.block_model.specs.declared.value.Kind.TheVariants as kinds
use Rattle.block_model.specs.declared.value.Value.{Value}
use Rattle.block_model.specs.declared.value.Value.TheVariants.{Null, Int, Span, Net}

-- null, or a value of the kind
abbrev pub IsOfKind : Kind → Value → Type 0
IsOfKind kind Null = Unit {0}
IsOfKind kinds.Int (Int n) = Unit {0}
IsOfKind kinds.Span (Span r) = Unit {0}
IsOfKind kinds.Net (Net n) = Unit {0}
IsOfKind kind v = ⊥
