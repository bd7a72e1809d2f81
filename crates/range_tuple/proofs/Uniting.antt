-- a column united with another
use Rattle.std.proofs.Common.{◌≡◌, ℕ, Bool, true, false, cond, Option, None, Some, List, slice_get, refl, ◌∙◌, subst}
use Rattle.std.proofs.lemmas.Bool.{false≢true, or_left, or_right}
use Rattle.block_model.specs.declared.value.Value.{Value}
use Rattle.block_model.specs.declared.value.Value.TheVariants.{Null, Int, Span, Net}
use Rattle.opclass_any.specs.AnyClass.{includes, united}
use Rattle.range_tuple.specs.NullStates.{has_nulls, has_values}
use Rattle.range_tuple.specs.TupleIncludes.{ColumnIncludes, IncludesThere, IncludesValue}
use Rattle.range_tuple.specs.Tuples.{IndexedColumn, united_column}
use Rattle.range_tuple.proofs.Exactness.{nulls_of, values_of}

by_values : (column other : IndexedColumn) (v : Value) (b : Bool) → has_values other.state ≡ b → (has_values other.state ≡ true → includes column.class (united column.class column.summary other.summary) v) → (b ≡ false → includes column.class column.summary v) → includes column.class (cond b (united column.class column.summary other.summary) column.summary) v
by_values column other v true is joins stays = joins is
by_values column other v false is joins stays = stays refl

-- the summary includes what the column's did
kept_by : (column other : IndexedColumn) (v : Value) → (has_values other.state ≡ true → includes column.class column.summary v → includes column.class (united column.class column.summary other.summary) v) → includes column.class column.summary v → includes column.class (united_column column other).summary v
kept_by column other v keeps within = by_values column other v (has_values other.state) refl (λ some. keeps some within) (λ none. within)

-- and what the other's did
taken_by : (column other : IndexedColumn) (v : Value) (b : Bool) → has_values other.state ≡ b → b ≡ true → includes column.class (united column.class column.summary other.summary) v → includes column.class (cond b (united column.class column.summary other.summary) column.summary) v
taken_by column other v true is some within = within
taken_by column other v false is some within = absurd (false≢true some)

value_kept : (column other : IndexedColumn) (v : Value) → ((w : Value) → has_values other.state ≡ true → includes column.class column.summary w → includes column.class (united column.class column.summary other.summary) w) → IncludesValue column v → IncludesValue (united_column column other) v
value_kept column other Null keeps within = nulls_of _ _ ∙ or_left (has_nulls column.state) (has_nulls other.state) within
value_kept column other (Int n) keeps within = (values_of _ _ ∙ or_left (has_values column.state) (has_values other.state) within.0, kept_by column other (Int n) (keeps (Int n)) within.1)
value_kept column other (Span r) keeps within = (values_of _ _ ∙ or_left (has_values column.state) (has_values other.state) within.0, kept_by column other (Span r) (keeps (Span r)) within.1)
value_kept column other (Net n) keeps within = (values_of _ _ ∙ or_left (has_values column.state) (has_values other.state) within.0, kept_by column other (Net n) (keeps (Net n)) within.1)

there_kept : (column other : IndexedColumn) (o : Option Value) → ((w : Value) → has_values other.state ≡ true → includes column.class column.summary w → includes column.class (united column.class column.summary other.summary) w) → IncludesThere column o → IncludesThere (united_column column other) o
there_kept column other None keeps within = within
there_kept column other (Some v) keeps within = value_kept column other v keeps within

pub row_kept : (column other : IndexedColumn) → ((w : Value) → has_values other.state ≡ true → includes column.class column.summary w → includes column.class (united column.class column.summary other.summary) w) → (row : List Value) → ColumnIncludes row column → ColumnIncludes row (united_column column other)
row_kept column other keeps row within = there_kept column other (slice_get row column.place) keeps within

value_taken : (column other : IndexedColumn) (v : Value) → ((w : Value) → has_values other.state ≡ true → includes other.class other.summary w → includes column.class (united column.class column.summary other.summary) w) → IncludesValue other v → IncludesValue (united_column column other) v
value_taken column other Null takes within = nulls_of _ _ ∙ or_right (has_nulls column.state) (has_nulls other.state) within
value_taken column other (Int n) takes within = (values_of _ _ ∙ or_right (has_values column.state) (has_values other.state) within.0, taken_by column other (Int n) (has_values other.state) refl within.0 (takes (Int n) within.0 within.1))
value_taken column other (Span r) takes within = (values_of _ _ ∙ or_right (has_values column.state) (has_values other.state) within.0, taken_by column other (Span r) (has_values other.state) refl within.0 (takes (Span r) within.0 within.1))
value_taken column other (Net n) takes within = (values_of _ _ ∙ or_right (has_values column.state) (has_values other.state) within.0, taken_by column other (Net n) (has_values other.state) refl within.0 (takes (Net n) within.0 within.1))

there_taken : (column other : IndexedColumn) (o : Option Value) → ((w : Value) → has_values other.state ≡ true → includes other.class other.summary w → includes column.class (united column.class column.summary other.summary) w) → IncludesThere other o → IncludesThere (united_column column other) o
there_taken column other None takes within = within
there_taken column other (Some v) takes within = value_taken column other v takes within

pub row_taken : (column other : IndexedColumn) → other.place ≡ column.place → ((w : Value) → has_values other.state ≡ true → includes other.class other.summary w → includes column.class (united column.class column.summary other.summary) w) → (row : List Value) → ColumnIncludes row other → ColumnIncludes row (united_column column other)
row_taken column other place takes row within = subst (λ (n : ℕ). IncludesThere (united_column column other) (slice_get row n)) place (there_taken column other (slice_get row other.place) takes within)
