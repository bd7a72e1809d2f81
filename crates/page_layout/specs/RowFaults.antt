-- the first field of a slot whose rule is broken, as its place in the slot
use Rattle.std.specs.Prelude.{ℕ, ℤ, pos, int_lt, ◌+◌, ◌/◌, ◌%◌, ◌^◌, ◌==◌, nat_lt, Bool, List, [], ◌∷◌, length, drop, slice_index, Option, None, Some, if◌then◌else◌}
use Rattle.std.specs.Ordering.{int_eq}
use Rattle.block_model.specs.declared.value.Kind.{Kind}
use Rattle.block_model.specs.declared.value.Kind.TheVariants as kinds
use Rattle.block_model.specs.RowSize.{value_size}
use Rattle.page_layout.specs.RowReading.{number_at}
use Rattle.index_layout.specs.Int8.{int8_at}

-- a fault of the part before, or of the part behind it
abbrev pub first_of : Option ℕ → Option ℕ → Option ℕ
first_of (Some at) later = Some at
first_of None later = later

-- a fault of a part that begins n bytes on
abbrev pub shifted : ℕ → Option ℕ → Option ℕ
shifted n (Some at) = Some (n + at)
shifted n None = None

-- a field at a place that holds a fact
abbrev pub fault_unless : Bool → ℕ → Option ℕ
fault_unless holds at = if holds then None else Some at

-- bounds that are both absent are zeros
abbrev pub absent_fault : ℤ → ℤ → Option ℕ
absent_fault l h = first_of (fault_unless (int_eq l (pos 0)) 1) (fault_unless (int_eq h (pos 0)) 9)

-- Flags tell which bounds are absent: those are zeros. Where both are there, the lower one is less.
abbrev pub range_fault : ℕ → ℤ → ℤ → Option ℕ
range_fault flags l h =
    if flags == 0 then fault_unless (int_lt l h) 9
    else (if flags == 2 then fault_unless (int_eq l (pos 0)) 1
    else (if flags == 4 then fault_unless (int_eq h (pos 0)) 9
    else (if flags == 1 then absent_fault l h
    else (if flags == 6 then absent_fault l h
    else Some 0))))

-- the family is 4, and the prefix at most 32
abbrev pub network_fault : ℕ → ℕ → Option ℕ
network_fault family prefix = first_of (fault_unless (family == 4) 0) (fault_unless (nat_lt prefix 33) 1)

-- every eight bytes are a number
abbrev pub value_fault : Kind → List ℕ → Option ℕ
value_fault kinds.Int bytes = None
value_fault kinds.Span bytes = range_fault (slice_index bytes 0) (int8_at bytes 1) (int8_at bytes 9)
value_fault kinds.Net bytes = network_fault (slice_index bytes 0) (slice_index bytes 1)

-- each field of a null column is zero
abbrev pub null_fault : Kind → List ℕ → Option ℕ
null_fault kinds.Int bytes = fault_unless (number_at bytes 0 8 == 0) 0
null_fault kinds.Span bytes = first_of (fault_unless (slice_index bytes 0 == 0) 0) (absent_fault (int8_at bytes 1) (int8_at bytes 9))
null_fault kinds.Net bytes = first_of (fault_unless (slice_index bytes 0 == 0) 0) (first_of (fault_unless (slice_index bytes 1 == 0) 1) (fault_unless (number_at bytes 2 4 == 0) 2))

abbrev pub column_fault : Bool → Kind → List ℕ → Option ℕ
column_fault null kind bytes = if null then null_fault kind bytes else value_fault kind bytes

-- the columns whose null bits these are
unfoldable pub columns_fault : List Kind → ℕ → List ℕ → Option ℕ
columns_fault [] bits bytes = None
columns_fault (kind ∷ kinds) bits bytes = first_of (column_fault (bits % 2 == 1) kind bytes) (shifted (value_size kind) (columns_fault kinds (bits / 2) (drop (value_size kind) bytes)))

-- no null bit is set past the columns
unfoldable pub row_fault : List Kind → List ℕ → Option ℕ
row_fault kinds bytes = first_of (fault_unless (nat_lt (slice_index bytes 21) (2 ^ length kinds)) 21) (shifted 22 (columns_fault kinds (slice_index bytes 21) (drop 22 bytes)))

-- each field of a free slot is zero, its columns as where each is null
unfoldable pub free_fault : List Kind → List ℕ → Option ℕ
free_fault kinds bytes =
    first_of (fault_unless (number_at bytes 1 8 == 0) 1)
    (first_of (fault_unless (number_at bytes 9 4 == 0) 9)
    (first_of (fault_unless (number_at bytes 13 8 == 0) 13)
    (first_of (fault_unless (slice_index bytes 21 == 0) 21)
    (shifted 22 (columns_fault kinds 255 (drop 22 bytes))))))

-- a slot is in use or free
unfoldable pub slot_fault : List Kind → List ℕ → Option ℕ
slot_fault kinds bytes =
    if slice_index bytes 0 == 1 then row_fault kinds bytes
    else (if slice_index bytes 0 == 0 then free_fault kinds bytes
    else Some 0)
