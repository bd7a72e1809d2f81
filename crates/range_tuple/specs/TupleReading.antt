-- the tuple of an index that bytes encode, or where they go wrong
use Rattle.std.specs.Prelude.{ℕ, zero, suc, ◌+◌, ◌*◌, ◌==◌, nat_lt, Bool, true, false, ◌||◌, if◌then◌else◌, List, [], ◌∷◌, ◌++◌, length, take, drop, slice_index, Option, None, Some, Result, Ok, Err}
use Rattle.byte_fields.specs.Fields.{field_at, number_of}
use Rattle.opclass_any.specs.AnyClass.{empty, read_of as summary_of}
use Rattle.range_tuple.specs.NullStates.{has_values}
use Rattle.range_tuple.specs.TupleFaults.{head_fault, length_at, state_at}
use Rattle.range_tuple.specs.Tuples.{IndexedColumn, Tuple, tuple_of}
use Rattle.opclass_any.specs.declared.classes.AnyClass.{AnyClass}
use Rattle.opclass_any.specs.declared.classes.AnySummary.{AnySummary}
use Rattle.range_tuple.specs.declared.state.NullState.{NullState}
use Rattle.range_tuple.specs.declared.state.NullState.TheVariants.{Nothing, Nulls, Values, Both}

-- the state of a number up to 3
abbrev pub state_in : ℕ → NullState
state_in zero = Nothing
state_in (suc zero) = Nulls
state_in (suc (suc zero)) = Values
state_in (suc (suc (suc n))) = Both

-- a summary whose bytes are all there
abbrev pub whole : Bool → ℕ → Result AnySummary ℕ → Result AnySummary ℕ
whole short end (Err at) = Err at
whole true end (Ok s) = Err end
whole false end (Ok s) = Ok s

-- the summary of so many first bytes: they go wrong where the class says, else at their end where they are fewer
abbrev pub some_in : AnyClass → ℕ → List ℕ → Result AnySummary ℕ
some_in class size bytes = if length bytes == 0 then Err 0 else whole (nat_lt (length bytes) size) (length bytes) (summary_of class (take size bytes))

-- that, or the summary of no value in a state without values
unfoldable pub summary_in : AnyClass → NullState → ℕ → List ℕ → Result AnySummary ℕ
summary_in class state size bytes = if has_values state then some_in class size bytes else Ok (empty class)

-- what is read on behind a summary, which stands at that place
abbrev pub read_on : ℕ → Result AnySummary ℕ → (AnySummary → Result (List IndexedColumn) ℕ) → Result (List IndexedColumn) ℕ
read_on at (Ok s) next = next s
read_on at (Err fault) next = Err (at + fault)

-- columns behind others
abbrev pub behind : List IndexedColumn → Result (List IndexedColumn) ℕ → Result (List IndexedColumn) ℕ
behind columns (Ok more) = Ok (columns ++ more)
behind columns (Err at) = Err at

-- the columns of these parts: the first is column k of the tuple, its summary stands at that place, and no byte behind the last
abbrev pub columns_in : ℕ → List ℕ → List (ℕ × AnyClass) → ℕ → ℕ → Result (List IndexedColumn) ℕ
columns_in count bytes [] k at = if nat_lt at (length bytes) then Err at else Ok []
columns_in count bytes (part ∷ parts) k at =
    read_on at (summary_in part.1 (state_in (state_at bytes k)) (length_at count bytes k) (drop at bytes))
    (λ s. behind (record { place = part.0; class = part.1; state = state_in (state_at bytes k); summary = s } ∷ []) (columns_in count bytes parts (k + 1) (at + length_at count bytes k)))

-- the columns of a tuple with so many, behind the fields before the summaries
abbrev pub columns_read : ℕ → List (ℕ × AnyClass) → List ℕ → Result (List IndexedColumn) ℕ
columns_read count parts bytes = columns_in count bytes parts 0 (5 + 3 * count)

-- bit 0 of the flags
abbrev pub says_placeholder : List ℕ → Bool
says_placeholder bytes = (slice_index bytes 4 == 1) || (slice_index bytes 4 == 3)

abbrev pub tuple_behind : List ℕ → Option ℕ → Result (List IndexedColumn) ℕ → Result Tuple ℕ
tuple_behind bytes (Some at) columns = Err at
tuple_behind bytes None (Err at) = Err at
tuple_behind bytes None (Ok columns) = Ok (tuple_of (number_of (field_at bytes 0 4)) (says_placeholder bytes) columns)

-- the fields before the summaries first, then the summaries in turn
unfoldable pub read_of : List (ℕ × AnyClass) → List ℕ → Result Tuple ℕ
read_of parts bytes = tuple_behind bytes (head_fault (length parts) bytes) (columns_read (length parts) parts bytes)

abbrev pub is_there : Result Tuple ℕ → Option Tuple
is_there (Ok t) = Some t
is_there (Err at) = None

-- the tuple of the index that the bytes are
abbrev pub tuple_in : List (ℕ × AnyClass) → List ℕ → Option Tuple
tuple_in parts bytes = is_there (read_of parts bytes)
