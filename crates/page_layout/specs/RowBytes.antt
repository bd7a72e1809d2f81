-- the bytes of a row on a page
use Rattle.std.specs.Prelude.{◌≡◌, ℕ, ℤ, ◌+◌, ◌*◌, ◌<◌, ◌^◌, Bool, true, false, List, [], ◌∷◌, ◌++◌, Option, None, Some, replicate, if◌then◌else◌, FitsSigned}
use Rattle.std.specs.Int.{w64, bytes_high_first, cast_unsigned}
use Rattle.block_model.specs.declared.value.Kind.{Kind}
use Rattle.block_model.specs.declared.value.Value.{Value}
use Rattle.block_model.specs.declared.value.Value.TheVariants.{Null, Int, Span, Net}
use Rattle.block_model.specs.declared.row.RowId.{RowId}
use Rattle.block_model.specs.Ranges.{Range, Empty, Between, IsRange, lower_of, upper_of}
use Rattle.block_model.specs.Networks.{Network, IsNetwork}
use Rattle.block_model.specs.RowSize.{value_size}
use Rattle.block_model.specs.ValuesOfKind.{has_kind}

-- a row with the transaction that deleted it, 0 for none
pub record StoredRow : Type 0 where
  pub id : RowId
  pub deleter : ℕ
  pub values : List Value

-- bit 0 of an empty range, bit 1 where the lower bound is infinite, bit 2 where the upper one is
abbrev pub range_flags : Range → ℕ
range_flags Empty = 1
range_flags (Between None None) = 6
range_flags (Between None (Some h)) = 2
range_flags (Between (Some l) None) = 4
range_flags (Between (Some l) (Some h)) = 0

-- eight bytes of a number, and zeros where the bound is absent
abbrev pub bound_bytes : Option ℤ → List ℕ
bound_bytes None = replicate 8 0
bound_bytes (Some b) = bytes_high_first 8 (cast_unsigned w64 b)

-- the flags and both bounds
abbrev pub range_bytes : Range → List ℕ
range_bytes r = range_flags r ∷ (bound_bytes (lower_of r) ++ bound_bytes (upper_of r))

-- the family, the prefix and four bytes of address
abbrev pub network_bytes : Network → List ℕ
network_bytes n = 4 ∷ n.prefix ∷ bytes_high_first 4 n.address

-- a value in its column, and zeros where it is null
abbrev pub column_bytes : Kind → Value → List ℕ
column_bytes kind Null = replicate (value_size kind) 0
column_bytes kind (Int n) = bytes_high_first 8 (cast_unsigned w64 n)
column_bytes kind (Span r) = range_bytes r
column_bytes kind (Net n) = network_bytes n

-- the values in the order of their columns
unfoldable pub columns_bytes : List Kind → List Value → List ℕ
columns_bytes (kind ∷ kinds) (value ∷ values) = column_bytes kind value ++ columns_bytes kinds values
columns_bytes kinds values = []

abbrev pub is_null : Value → Bool
is_null Null = true
is_null value = false

-- bit c is set where the value of column c is null
unfoldable pub null_bits : List Value → ℕ
null_bits [] = 0
null_bits (value ∷ values) = (if is_null value then 1 else 0) + 2 * null_bits values

-- in use, eight bytes and four of id, eight of deleter, and the null bits
unfoldable pub head_bytes : RowId → ℕ → ℕ → List ℕ
head_bytes id deleter bits = 1 ∷ (bytes_high_first 8 id.t ++ bytes_high_first 4 id.k ++ bytes_high_first 8 deleter ++ bits ∷ [])

-- the head and the columns
unfoldable pub row_bytes : List Kind → StoredRow → List ℕ
row_bytes kinds row = head_bytes row.id row.deleter (null_bits row.values) ++ columns_bytes kinds row.values

-- one value of each column's kind
abbrev pub HaveKinds : List Kind → List Value → Type 0
HaveKinds [] [] = Unit {0}
HaveKinds (kind ∷ kinds) (value ∷ values) = (has_kind kind value ≡ true) × HaveKinds kinds values
HaveKinds kinds values = ⊥

-- a bound is a number of int8
abbrev pub IsBound : Option ℤ → Type 0
IsBound None = Unit {0}
IsBound (Some b) = FitsSigned w64 b

-- a number of int8, a range in its canonical form, or an address of 32 bits
abbrev pub IsValue : Value → Type 0
IsValue Null = Unit {0}
IsValue (Int n) = FitsSigned w64 n
IsValue (Span r) = IsRange r × (IsBound (lower_of r) × IsBound (upper_of r))
IsValue (Net n) = IsNetwork n

abbrev pub AreValues : List Value → Type 0
AreValues [] = Unit {0}
AreValues (value ∷ values) = IsValue value × AreValues values

-- a row of a table with columns of these kinds
pub record IsRow (kinds : List Kind) (row : StoredRow) : Type 0 where
  pub t : row.id.t < 2 ^ 64
  pub k : row.id.k < 2 ^ 32
  pub deleter : row.deleter < 2 ^ 64
  pub columns : HaveKinds kinds row.values
  pub values : AreValues row.values

-- the bytes are those of this row
abbrev pub AreBytesOf : List Kind → List ℕ → StoredRow → Type 0
AreBytesOf kinds bytes row = IsRow kinds row × (bytes ≡ row_bytes kinds row)

-- the bytes are those of a row
abbrev pub IsRowBytes : List Kind → List ℕ → Type 0
IsRowBytes kinds bytes = (row : StoredRow) × IsRow kinds row × (bytes ≡ row_bytes kinds row)

-- what is read of a row: its id and its deleter, and its values
abbrev pub IsReadAs : StoredRow → RowId × ℕ → List Value → Type 0
IsReadAs row read values = (read ≡ (row.id, row.deleter)) × (values ≡ row.values)
