-- the tuples of an index as the protocol of coverage sees them: what its operator classes make of bytes
use Rattle.std.specs.Prelude.{◌≡◌, ℕ, ◌^◌, ◌==◌, nat_le, nat_lt, ℤ, Bool, true, false, ◌&&◌, if◌then◌else◌, All, List, [], ◌∷◌, length, map, slice_get, slice_index_or, Option, None, Some}
use Rattle.std.specs.List.{list_all}
use Rattle.std.specs.Option.{option_map}
use Rattle.block_model.specs.declared.row.Cond.{Cond}
use Rattle.block_model.specs.declared.row.Row.{Row}
use Rattle.block_model.specs.declared.schema.Column.{Column}
use Rattle.block_model.specs.declared.schema.Index.{Index}
use Rattle.block_model.specs.declared.schema.Part.{Part}
use Rattle.block_model.specs.declared.value.Kind.{Kind}
use Rattle.block_model.specs.declared.value.Kind.TheVariants as kinds
use Rattle.block_model.specs.declared.value.Value.{Value}
use Rattle.block_model.specs.declared.value.Value.TheVariants.{Int, Net, Null, Span}
use Rattle.block_model.specs.IndexedColumns.{columns_of}
use Rattle.block_model.specs.TupleSize.{tuple_size}
use Rattle.block_model.specs.Ranges.{Between, Empty, Range, leaves_room}
use Rattle.block_model.specs.ValuesOfKind.{has_kind, is_int8}
use Rattle.byte_fields.specs.Fields.{field_at, number_of}
use Rattle.store_layout.specs.DiskLayout.{DiskLayout}
use Rattle.opclass_any.specs.declared.classes.AnyClass.{AnyClass}
use Rattle.range_tuple.specs.IncludedRows.{tuple_includes}
use Rattle.range_tuple.specs.Keeps.{keeps}
use Rattle.range_tuple.specs.TupleBytes.{tuple_bytes}
use Rattle.range_tuple.specs.TupleIncludes.{TakesThere}
use Rattle.range_tuple.specs.TupleReading.{tuple_in}
use Rattle.range_tuple.specs.Tuples.{Tuple, empty_column, empty_placeholder, parts_of, united_tuple, with_row}
use Rattle.coverage.specs.IndexView.{Contents, IndexTuple}

-- the columns of an index's table, and the indexed ones with their classes
pub record IndexShape : Type 0 where
  pub columns : List Column
  pub parts : List Part

-- an index on no columns
abbrev pub no_index : Index
no_index = record { name = []; table = 0; pages_per_range = 0; auto = false; parts = [] }

-- the index of that number
abbrev pub index_at : DiskLayout → ℕ → Index
index_at layout index = slice_index_or layout.schema.indexes index no_index

unfoldable pub shape_of : DiskLayout → ℕ → IndexShape
shape_of layout index = record { columns = columns_of layout.schema (index_at layout index); parts = (index_at layout index).parts }

-- the number of each indexed column in the table, with its class
unfoldable pub classes_of : IndexShape → List (ℕ × AnyClass)
classes_of shape = parts_of (map (empty_column shape.columns) shape.parts)

-- each value was made as one of its kind
abbrev pub have_kinds : List Kind → List Value → Bool
have_kinds [] [] = true
have_kinds (kind ∷ kinds) (v ∷ values) = has_kind kind v && have_kinds kinds values
have_kinds kinds values = false

abbrev pub kinds_of : IndexShape → List Kind
kinds_of shape = map (λ column. column.kind) shape.columns

-- a bound of a range is a number of int8
abbrev pub is_bound : Option ℤ → Bool
is_bound None = true
is_bound (Some n) = is_int8 n

-- a range that isn't empty has a number
abbrev pub is_range : Range → Bool
is_range Empty = true
is_range (Between lower upper) = leaves_room lower upper && is_bound lower && is_bound upper

-- the value is one of the kind: a number of int8, a range of such, or an address of 32 bits
abbrev pub is_value_of : Kind → Value → Bool
is_value_of kind Null = true
is_value_of kinds.Int (Int n) = is_int8 n
is_value_of kinds.Span (Span range) = is_range range
is_value_of kinds.Net (Net n) = (n.family == 4) && nat_le n.prefix 32 && nat_lt n.address (2 ^ 32)
is_value_of kind v = false

-- one value of each kind
abbrev pub are_values : List Kind → List Value → Bool
are_values [] [] = true
are_values (kind ∷ kinds) (v ∷ values) = is_value_of kind v && are_values kinds values
are_values kinds values = false

-- The values of a row of the table. One with other values is never put, and counts as a row of nulls.
unfoldable pub row_values : IndexShape → Row → List Value
row_values shape r = if are_values (kinds_of shape) r.values then r.values else map (λ kind. Null) (kinds_of shape)

-- the first four bytes are the number of the range; fewer are of none
unfoldable pub range_said : List ℕ → ℕ
range_said bytes = if nat_lt (length bytes) 4 then 2 ^ 32 else number_of (field_at bytes 0 4)

-- bytes that are no tuple of the index stand for a placeholder that includes nothing
abbrev pub is_placeholder : Option Tuple → Bool
is_placeholder None = true
is_placeholder (Some t) = t.placeholder

abbrev pub includes_row : Option Tuple → List Value → Bool
includes_row None values = false
includes_row (Some t) values = tuple_includes t values

abbrev pub keeps_conds : Option Tuple → List Cond → Bool
keeps_conds None conds = true
keeps_conds (Some t) conds = keeps t conds

-- bytes as a tuple, by what the classes of the index read in them
abbrev pub seen_as : IndexShape → List ℕ → Option Tuple → IndexTuple
seen_as shape bytes t = record {
  bytes = bytes;
  range = range_said bytes;
  placeholder = is_placeholder t;
  includes = λ r. includes_row t (row_values shape r);
  keeps = λ conds. keeps_conds t conds;
}

unfoldable pub seen : IndexShape → List ℕ → IndexTuple
seen shape bytes = seen_as shape bytes (tuple_in (classes_of shape) bytes)

-- the tuple that this change makes of bytes; bytes that are no tuple stay
abbrev pub changed_as : IndexShape → List ℕ → (Tuple → Tuple) → Option Tuple → IndexTuple
changed_as shape bytes change None = seen shape bytes
changed_as shape bytes change (Some t) = seen shape (tuple_bytes (change t))

abbrev pub changed : IndexShape → List ℕ → (Tuple → Tuple) → IndexTuple
changed shape bytes change = changed_as shape bytes change (tuple_in (classes_of shape) bytes)

-- united with another, as a final tuple
abbrev pub final_union : Tuple → Tuple → Tuple
final_union other t = record (united_tuple t other) { placeholder = false }

abbrev pub united_as : IndexShape → List ℕ → Option Tuple → IndexTuple
united_as shape bytes None = seen shape bytes
united_as shape bytes (Some other) = changed shape bytes (final_union other)

-- numbers below 256
abbrev pub are_bytes : List ℕ → Bool
are_bytes bytes = list_all (λ byte. nat_lt byte 256) bytes

-- the tuple of the index that bytes are; other numbers are none
abbrev pub tuple_said : IndexShape → List ℕ → Option Tuple
tuple_said shape bytes = if are_bytes bytes then tuple_in (classes_of shape) bytes else None

-- what the operator classes of the index make of its tuples, and how long these are at most
unfoldable pub contents_of : IndexShape → Contents
contents_of shape = record {
  empty = λ range. seen shape (tuple_bytes (empty_placeholder range shape.columns shape.parts));
  added = λ r t. changed shape t.bytes (with_row (row_values shape r));
  united = λ t other. united_as shape t.bytes (tuple_in (classes_of shape) other.bytes);
  read = λ bytes. option_map (λ _. seen shape bytes) (tuple_said shape bytes);
  greatest = tuple_size shape.columns shape.parts;
  ranges = 2 ^ 32;
}

-- values of the kinds of the table, which each class of the index takes where its column stands
pub record TakesValues (shape : IndexShape) (values : List Value) : Type 0 where
  pub kinds : have_kinds (kinds_of shape) values ≡ true
  pub taken : All (λ (p : ℕ × AnyClass). TakesThere p.1 (slice_get values p.0)) (classes_of shape)
