-- which operators each kind of values takes
use Rattle.std.specs.Prelude.{Bool, true, false}
use Rattle.block_model.specs.declared.value.Kind.{Kind}
use Rattle.block_model.specs.declared.value.Kind.TheVariants as kinds
use Rattle.block_model.specs.declared.value.Op.{Op}
use Rattle.block_model.specs.declared.value.Op.TheVariants as ops

-- the operators of each kind; whether a value is null is asked of every kind
abbrev pub takes_operator : Kind → Op → Bool
takes_operator kind ops.IsNull = true
takes_operator kind ops.NotNull = true
takes_operator kind ops.Eq = true
takes_operator kinds.Int ops.Lt = true
takes_operator kinds.Int ops.Le = true
takes_operator kinds.Int ops.Ge = true
takes_operator kinds.Int ops.Gt = true
takes_operator kinds.Span ops.Overlaps = true
takes_operator kinds.Span ops.Contains = true
takes_operator kinds.Span ops.Within = true
takes_operator kinds.Span ops.Before = true
takes_operator kinds.Span ops.After = true
takes_operator kinds.Span ops.NotAfter = true
takes_operator kinds.Span ops.NotBefore = true
takes_operator kinds.Span ops.Adjacent = true
takes_operator kinds.Net ops.Overlaps = true
takes_operator kinds.Net ops.Before = true
takes_operator kinds.Net ops.After = true
takes_operator kinds.Net ops.WithinEq = true
takes_operator kinds.Net ops.ContainsEq = true
takes_operator kind op = false
