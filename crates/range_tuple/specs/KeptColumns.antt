-- how columns are kept
use Rattle.std.specs.Prelude.{◌≡◌, ℕ, ◌<◌, ◌≤◌, ◌^◌, List, length, Ok}
use Rattle.block_model.specs.declared.limits.TheConstants.{MAX_TUPLE}
use Rattle.opclass_any.specs.AnyClass.{is_of, empty, bytes_of, read_of, greatest_size}
use Rattle.range_tuple.specs.Tuples.{IndexedColumn, IsSummaryIn, Tuple, parts_of, tuple_room}
use Rattle.opclass_any.specs.declared.classes.AnyClass.{AnyClass}
use Rattle.opclass_any.specs.declared.classes.AnySummary.{AnySummary}
use Rattle.range_tuple.specs.declared.state.NullState.{NullState}

-- a summary in its state, whose length has room in 2 bytes
pub record IsColumnKept (class : AnyClass) (state : NullState) (summary : AnySummary) : Type 0 where
  pub in_state : IsSummaryIn class state summary
  pub length_fits : greatest_size class < 65536

-- beside a column that is read: the bytes of the summary of no value
pub record IsBlankOf (class : AnyClass) (blank : List ℕ) : Type 0 where
  pub empty_of_class : is_of class (empty class)
  pub blank_bytes : blank ≡ bytes_of class (empty class)

-- a tuple's range has 4 bytes, it has a column, and its bytes fit a page
pub record AreKept (range : ℕ) (columns : List IndexedColumn) : Type 0 where
  pub range_fits : range < 2 ^ 32
  pub some : 0 < length columns
  pub fits : tuple_room columns ≤ MAX_TUPLE

-- beside a tuple: columns of the same index to be read, and room for its bytes
pub record CanBeRead (t : Tuple) (spare : List IndexedColumn) (scratch : List ℕ) : Type 0 where
  pub same_index : parts_of spare ≡ parts_of t.columns
  pub room : tuple_room t.columns ≤ length scratch

-- what a class knows of bytes: a summary has no more than its greatest size, whose length has room in 2 bytes, and its bytes are
-- read as it
pub record IsReadAgain (class : AnyClass) : Type 0 where
  pub bound : (s : AnySummary) → is_of class s → length (bytes_of class s) ≤ greatest_size class
  pub fits : (s : AnySummary) → is_of class s → length (bytes_of class s) < 65536
  pub again : (s : AnySummary) → is_of class s → read_of class (bytes_of class s) ≡ Ok s

-- the class of a column does
abbrev pub ReadsAgain : IndexedColumn → Type 0
ReadsAgain column = IsReadAgain column.class
