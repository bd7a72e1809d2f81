-- what is made of the tuples of an index, whichever they are
use Rattle.std.specs.Prelude.{◌≡◌, ℕ, ◌<◌, ◌≤◌, ◌^◌, Bool, false, All, List, length, map, slice_get, Some}
use Rattle.std.specs.List.{list_all}
use Rattle.block_model.specs.declared.row.Cond.{Cond}
use Rattle.block_model.specs.declared.schema.Column.{Column}
use Rattle.block_model.specs.declared.schema.Part.{Part}
use Rattle.block_model.specs.declared.value.Value.{Value}
use Rattle.block_model.specs.RowMatches.{column_matches}
use Rattle.byte_fields.specs.Fields.{AreBytes}
use Rattle.opclass_any.specs.declared.classes.AnyClass.{AnyClass}
use Rattle.range_tuple.specs.TupleBytes.{tuple_bytes}
use Rattle.range_tuple.specs.TupleIncludes.{TakesThere, TupleIncludes}
use Rattle.range_tuple.specs.TupleReading.{tuple_in}
use Rattle.range_tuple.specs.Tuples.{IsTuple, Tuple, empty_column, empty_tuple, parts_of, tuple_room, united_tuple, with_row}
use Rattle.range_tuple.specs.OwnKinds.{IsOfItsKind}
use Rattle.range_tuple.specs.SoundClasses.{IsWithinLimits}

-- an index on some columns, each by a class within its limits
pub record IsIndexed (parts : List (ℕ × AnyClass)) : Type 0 where
  pub some : 0 < length parts
  pub limits : All (λ (p : ℕ × AnyClass). IsWithinLimits p.1) parts

-- a tuple of the index with these columns
pub record IsIndexTuple (parts : List (ℕ × AnyClass)) (t : Tuple) : Type 0 where
  pub is : IsTuple t
  pub of_index : parts_of t.columns ≡ parts

-- one to which no row was added includes none
pub record IsEmptyTuple (parts : List (ℕ × AnyClass)) (t : Tuple) : Type 0 where
  pub of : IsIndexTuple parts t
  pub nothing : (row : List Value) → TupleIncludes t row → ⊥

-- the row has a value for each indexed column, which its class takes
abbrev pub AreTaken : List (ℕ × AnyClass) → List Value → Type 0
AreTaken parts values = All (λ (p : ℕ × AnyClass). TakesThere p.1 (slice_get values p.0)) parts

-- a tuple with a row added is one of the index, which includes the row, and what the tuple included
pub record WidensTuple (parts : List (ℕ × AnyClass)) (t : Tuple) (values : List Value) : Type 0 where
  pub of : IsIndexTuple parts (with_row values t)
  pub row : TupleIncludes (with_row values t) values
  pub kept : (row : List Value) → TupleIncludes t row → TupleIncludes (with_row values t) row

-- two united are one of the index, which includes what both did
pub record UnitesTuples (parts : List (ℕ × AnyClass)) (t other : Tuple) : Type 0 where
  pub of : IsIndexTuple parts (united_tuple t other)
  pub first : (row : List Value) → TupleIncludes t row → TupleIncludes (united_tuple t other) row
  pub second : (row : List Value) → TupleIncludes other row → TupleIncludes (united_tuple t other) row

-- its bytes are bytes, no more than its columns have room for, and are read as it
pub record IsTupleWritten (parts : List (ℕ × AnyClass)) (t : Tuple) : Type 0 where
  pub bytes : AreBytes (tuple_bytes t)
  pub bound : length (tuple_bytes t) ≤ tuple_room t.columns
  pub again : tuple_in parts (tuple_bytes t) ≡ Some t

-- bytes are those of a tuple of the index
pub record IsTupleSpelt (parts : List (ℕ × AnyClass)) (bytes : List ℕ) (t : Tuple) : Type 0 where
  pub of : IsIndexTuple parts t
  pub spelt : bytes ≡ tuple_bytes t

-- What is added to a tuple of the index, united with one, written as bytes and read in them is one, and loses nothing.
pub record AreSoundTuples (parts : List (ℕ × AnyClass)) : Type 0 where
  pub empty : (range : ℕ) (held : Bool) (columns : List Column) (indexed : List Part) → range < 2 ^ 32 → parts_of (map (empty_column columns) indexed) ≡ parts → IsEmptyTuple parts (empty_tuple range held columns indexed)
  pub widens : (t : Tuple) (values : List Value) → IsIndexTuple parts t → AreTaken parts values → All IsOfItsKind values → WidensTuple parts t values
  pub unites : (t other : Tuple) → IsIndexTuple parts t → IsIndexTuple parts other → UnitesTuples parts t other
  pub written : (t : Tuple) → IsIndexTuple parts t → IsTupleWritten parts t
  pub read : (bytes : List ℕ) (t : Tuple) → AreBytes bytes → tuple_in parts bytes ≡ Some t → IsTupleSpelt parts bytes t

-- the tuple is final, and includes no row that meets the conditions
pub record ExcludesRows (t : Tuple) (conds : List Cond) : Type 0 where
  pub final : t.placeholder ≡ false
  pub none : (row : List Value) → TupleIncludes t row → list_all (column_matches row) conds ≡ false
