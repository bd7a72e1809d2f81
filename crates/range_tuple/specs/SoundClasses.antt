-- what an operator class makes of its summaries, whichever they are
use Rattle.std.specs.Prelude.{◌≡◌, ℕ, ◌<◌, ◌≤◌, List, length, Ok}
use Rattle.block_model.specs.declared.value.Value.{Value}
use Rattle.byte_fields.specs.Fields.{AreBytes}
use Rattle.opclass_multi.specs.Kept.{IsLimit}
use Rattle.opclass_bloom.specs.Parameters.{AreWithinLimits}
use Rattle.opclass_any.specs.AnyClass.{add, bytes_of, empty, greatest_size, includes, is_of, read_of, takes, united}
use Rattle.opclass_any.specs.declared.classes.AnyClass.{AnyClass}
use Rattle.opclass_any.specs.declared.classes.AnyClass.TheVariants as forms
use Rattle.opclass_any.specs.declared.classes.AnySummary.{AnySummary}
use Rattle.range_tuple.specs.OwnKinds.{IsOfItsKind}

-- the class's parameters are within their limits
abbrev pub IsWithinLimits : AnyClass → Type 0
IsWithinLimits (forms.Multi limit) = IsLimit limit
IsWithinLimits (forms.Bloom parameters) = AreWithinLimits parameters
IsWithinLimits class = Unit {0}

-- a summary with a value added is one of the class; it includes the value, and what it included; and it has bytes
pub record Widens (class : AnyClass) (s : AnySummary) (v : Value) : Type 0 where
  pub of_class : is_of class (add class s v)
  pub value : includes class (add class s v) v
  pub kept : (w : Value) → includes class s w → includes class (add class s v) w
  pub has_bytes : 0 < length (bytes_of class (add class s v))

-- two united are one of the class, which includes what both did, and has bytes where the second has
pub record Unites (class : AnyClass) (s other : AnySummary) : Type 0 where
  pub of_class : is_of class (united class s other)
  pub first : (w : Value) → includes class s w → includes class (united class s other) w
  pub second : (w : Value) → includes class other w → includes class (united class s other) w
  pub has_bytes : 0 < length (bytes_of class other) → 0 < length (bytes_of class (united class s other))

-- its bytes are bytes, no more than the class says, and are read as it
pub record IsSummaryWritten (class : AnyClass) (s : AnySummary) : Type 0 where
  pub bytes : AreBytes (bytes_of class s)
  pub bound : length (bytes_of class s) ≤ greatest_size class
  pub again : read_of class (bytes_of class s) ≡ Ok s

-- bytes are those of a summary of the class
pub record IsSummarySpelt (class : AnyClass) (bytes : List ℕ) (s : AnySummary) : Type 0 where
  pub of_class : is_of class s
  pub spelt : bytes ≡ bytes_of class s

-- What is added to a summary of the class, united with one, written as bytes and read in them is one, and loses nothing.
pub record IsSoundClass (class : AnyClass) : Type 0 where
  pub empty : is_of class (empty class)
  pub widens : (s : AnySummary) (v : Value) → is_of class s → takes class v → IsOfItsKind v → Widens class s v
  pub unites : (s other : AnySummary) → is_of class s → is_of class other → Unites class s other
  pub written : (s : AnySummary) → is_of class s → IsSummaryWritten class s
  pub read : (bytes : List ℕ) (s : AnySummary) → AreBytes bytes → read_of class bytes ≡ Ok s → IsSummarySpelt class bytes s
  pub small : greatest_size class < 65536
