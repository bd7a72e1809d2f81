-- the five forms of operator class as one class
use Rattle.std.specs.Prelude.{ℕ, ◌+◌, ◌*◌, Bool, true, false, List, Result, Ok, Err}
use Rattle.block_model.specs.declared.row.Cond.{Cond}
use Rattle.block_model.specs.declared.schema.Class.{Class}
use Rattle.block_model.specs.declared.schema.Class.TheVariants as classes
use Rattle.block_model.specs.declared.value.Kind.{Kind}
use Rattle.block_model.specs.declared.value.Kind.TheVariants as kinds
use Rattle.block_model.specs.declared.value.Value.{Value}
use Rattle.opclass_any.specs.declared.classes.AnyClass.{AnyClass}
use Rattle.opclass_any.specs.declared.classes.AnyClass.TheVariants as forms
use Rattle.opclass_any.specs.declared.classes.AnySummary.{AnySummary}
use Rattle.opclass_any.specs.declared.classes.AnySummary.TheVariants as kept
use Rattle.opclass_minmax.specs as minmax
use Rattle.opclass_multi.specs as multi
use Rattle.opclass_inclusion.specs as inclusion
use Rattle.opclass_bloom.specs as bloom

-- the form of a class for a kind: inclusion has one for ranges and one for networks
abbrev pub class_of : Class → Kind → AnyClass
class_of classes.MinMax kind = forms.MinMax (record {})
class_of (classes.Multi limit) kind = forms.Multi limit
class_of classes.Inclusion kinds.Net = forms.NetHull (record {})
class_of classes.Inclusion kind = forms.SpanHull (record {})
class_of (classes.Bloom bits hashes) kind = forms.Bloom (record { bits = bits; hashes = hashes })

-- the values of the class's kind, without null
unfoldable pub takes : AnyClass → Value → Type 0
takes (forms.MinMax class) v = minmax.Includes.IsInt v
takes (forms.Multi limit) v = multi.Includes.IsInt v
takes (forms.SpanHull class) v = inclusion.SpanIncludes.IsSpan v
takes (forms.NetHull class) v = inclusion.NetIncludes.IsNet v
takes (forms.Bloom p) v = bloom.Includes.HasWords v

-- the summaries of the class with its parameters
unfoldable pub is_of : AnyClass → AnySummary → Type 0
is_of (forms.MinMax class) (kept.MinMax s) = minmax.Bounds.IsSummary s
is_of (forms.Multi limit) (kept.Multi s) = multi.Kept.IsSummary limit s
is_of (forms.SpanHull class) (kept.SpanHull s) = inclusion.SpanHulls.IsSummary s
is_of (forms.NetHull class) (kept.NetHull s) = inclusion.NetHulls.IsSummary s
is_of (forms.Bloom p) (kept.Bloom s) = bloom.Bits.IsSummary p s
is_of class s = ⊥

-- the values that a summary includes
unfoldable pub includes : AnyClass → AnySummary → Value → Type 0
includes (forms.MinMax class) (kept.MinMax s) v = minmax.Includes.Includes s v
includes (forms.Multi limit) (kept.Multi s) v = multi.Includes.Includes s v
includes (forms.SpanHull class) (kept.SpanHull s) v = inclusion.SpanIncludes.Includes s v
includes (forms.NetHull class) (kept.NetHull s) v = inclusion.NetIncludes.Includes s v
includes (forms.Bloom p) (kept.Bloom s) v = bloom.Includes.Includes p s v
includes class s v = ⊥

-- the summary of no value
unfoldable pub empty : AnyClass → AnySummary
empty (forms.MinMax class) = kept.MinMax minmax.Bounds.NothingYet
empty (forms.Multi limit) = kept.Multi (multi.Kept.nothing_yet limit)
empty (forms.SpanHull class) = kept.SpanHull inclusion.SpanHulls.no_range
empty (forms.NetHull class) = kept.NetHull inclusion.declared.net_summary.NetSummary.TheVariants.NothingYet
empty (forms.Bloom p) = kept.Bloom (bloom.Bits.nothing_set p)

-- a summary, widened by a value
unfoldable pub add : AnyClass → AnySummary → Value → AnySummary
add (forms.MinMax class) (kept.MinMax s) v = kept.MinMax (minmax.Bounds.with_value s v)
add (forms.Multi limit) (kept.Multi s) v = kept.Multi (multi.Kept.with_value s v)
add (forms.SpanHull class) (kept.SpanHull s) v = kept.SpanHull (inclusion.SpanHulls.with_value s v)
add (forms.NetHull class) (kept.NetHull s) v = kept.NetHull (inclusion.NetHulls.with_value s v)
add (forms.Bloom p) (kept.Bloom s) v = kept.Bloom (bloom.Bits.with_value p s v)
add class s v = s

-- a summary, widened by another
unfoldable pub united : AnyClass → AnySummary → AnySummary → AnySummary
united class (kept.MinMax s) (kept.MinMax other) = kept.MinMax (minmax.Bounds.united s other)
united class (kept.Multi s) (kept.Multi other) = kept.Multi (multi.Kept.united s other)
united class (kept.SpanHull s) (kept.SpanHull other) = kept.SpanHull (inclusion.SpanHulls.united s other)
united class (kept.NetHull s) (kept.NetHull other) = kept.NetHull (inclusion.NetHulls.united s other)
united class (kept.Bloom s) (kept.Bloom other) = kept.Bloom (bloom.Bits.united s other)
united class s other = s

-- whether a summary may include a value that meets each condition
unfoldable pub consistent : AnyClass → AnySummary → List Cond → Bool
consistent (forms.MinMax class) (kept.MinMax s) conds = minmax.Consistent.consistent s conds
consistent (forms.Multi limit) (kept.Multi s) conds = multi.Consistent.consistent s conds
consistent (forms.SpanHull class) (kept.SpanHull s) conds = inclusion.SpanConsistent.consistent s conds
consistent (forms.NetHull class) (kept.NetHull s) conds = inclusion.NetConsistent.consistent s conds
consistent (forms.Bloom p) (kept.Bloom s) conds = bloom.Consistent.consistent p s conds
consistent class s conds = true

-- the bytes of a summary
unfoldable pub bytes_of : AnyClass → AnySummary → List ℕ
bytes_of class (kept.MinMax s) = minmax.Encoding.bytes_of s
bytes_of class (kept.Multi s) = multi.Encoding.bytes_of s
bytes_of class (kept.SpanHull s) = inclusion.SpanEncoding.bytes_of s
bytes_of class (kept.NetHull s) = inclusion.NetEncoding.bytes_of s
bytes_of class (kept.Bloom s) = bloom.Encoding.bytes_of s

-- how many bytes a summary has at most
unfoldable pub greatest_size : AnyClass → ℕ
greatest_size (forms.MinMax class) = 16
greatest_size (forms.Multi limit) = 2 + 9 * limit
greatest_size (forms.SpanHull class) = 18
greatest_size (forms.NetHull class) = 7
greatest_size (forms.Bloom p) = bloom.Encoding.size_of p

-- whether a summary includes a value
unfoldable pub is_included : AnyClass → AnySummary → Value → Bool
is_included (forms.MinMax class) (kept.MinMax s) v = minmax.Includes.is_included s v
is_included (forms.Multi limit) (kept.Multi s) v = multi.Includes.is_included s v
is_included (forms.SpanHull class) (kept.SpanHull s) v = inclusion.SpanIncludes.is_included s v
is_included (forms.NetHull class) (kept.NetHull s) v = inclusion.NetIncludes.is_included s v
is_included (forms.Bloom p) (kept.Bloom s) v = bloom.Includes.is_included p s v
is_included class s v = false

-- the exact summary of values
unfoldable pub exact : AnyClass → List Value → AnySummary
exact (forms.MinMax class) values = kept.MinMax (minmax.ExactSummary.summary_of values)
exact (forms.Multi limit) values = kept.Multi (multi.ExactSummary.exact_summary limit values)
exact (forms.SpanHull class) values = kept.SpanHull (inclusion.SpanExact.summary_of values)
exact (forms.NetHull class) values = kept.NetHull (inclusion.NetExact.summary_of values)
exact (forms.Bloom p) values = kept.Bloom (bloom.ExactSummary.summary_of p values)

-- a summary of one of the forms, or where its bytes go wrong
abbrev pub kept_as : {X : Type 0} → (X → AnySummary) → Result X ℕ → Result AnySummary ℕ
kept_as form (Ok s) = Ok (form s)
kept_as form (Err at) = Err at

-- the summary that bytes encode, or where they go wrong
unfoldable pub read_of : AnyClass → List ℕ → Result AnySummary ℕ
read_of (forms.MinMax class) bytes = kept_as kept.MinMax (minmax.Reading.read_of bytes)
read_of (forms.Multi limit) bytes = kept_as kept.Multi (multi.Reading.summary_in limit bytes)
read_of (forms.SpanHull class) bytes = kept_as kept.SpanHull (inclusion.SpanReading.read_of bytes)
read_of (forms.NetHull class) bytes = kept_as kept.NetHull (inclusion.NetReading.read_of bytes)
read_of (forms.Bloom p) bytes = kept_as kept.Bloom (bloom.Reading.read_of p bytes)
