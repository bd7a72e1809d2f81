-- when what a summarise has made so far is exactly what the rows in use of its range make
use Rattle.std.specs.Prelude.{◌≡◌, ℕ, zero, suc, ◌+◌, ◌-◌, ◌*◌, ◌≤◌, ◌<◌, min, false, ◌||◌, if◌then◌else◌, List, [], ◌++◌, length, slice_index_or}
use Rattle.std.specs.List.{filter, list_any}
use Rattle.block_model.specs.declared.value.Value.{Value}
use Rattle.page_layout.specs.PageContents.{Slot}
use Rattle.heap_rows.specs.HeapBlocks.{slots_of}
use Rattle.heap_rows.specs.StoredRows.{stored_rows}
use Rattle.opclass_api.specs.Conditions.{is_null}
use Rattle.opclass_any.specs.AnyClass.{exact, united}
use Rattle.range_tuple.specs.ExactTuples.{is_value, values_at, with_rows}
use Rattle.range_tuple.specs.NullStates.{has_nulls, has_values}
use Rattle.range_tuple.specs.Tuples.{IndexedColumn, Tuple, empty_placeholder, parts_of}
use Rattle.index_steps.specs.IndexTuples.{IndexShape, classes_of, final_union}
use Rattle.index_steps.specs.Readings.{IsReadAs}
use Rattle.summarise_core.specs.declared.range_stage.Stage.{Stage}
use Rattle.summarise_core.specs.declared.range_stage.Stage.TheVariants as stages
use Rattle.summarise_core.specs.BlockRows.{values_of}
use Rattle.summarise_core.specs.ShownHeap.{Heap}
use Rattle.summarise_core.specs.SummariseHands.{SummariseHand}

-- the rows in use of a block, in order of slot; and those of so many blocks from the first one on, in order of block
abbrev pub rows_of_block : List (List Slot) → ℕ → List (List Value)
rows_of_block blocks block = values_of (stored_rows (slots_of blocks block))

abbrev pub rows_of_blocks : List (List Slot) → (first count : ℕ) → List (List Value)
rows_of_blocks blocks first zero = []
rows_of_blocks blocks first (suc n) = rows_of_blocks blocks first n ++ rows_of_block blocks (first + n)

-- the first block of the range
abbrev pub first_of_range : Heap → ℕ → ℕ
first_of_range heap range = range * heap.pages_per_range

-- how many blocks the range has below the end of the table
abbrev pub blocks_of_range : Heap → ℕ → ℕ
blocks_of_range heap range = min (length heap.blocks) (first_of_range heap (range + 1)) - first_of_range heap range

-- the rows in use of all its blocks, in order of block and slot
abbrev pub rows_of_range : Heap → ℕ → List (List Value)
rows_of_range heap range = rows_of_blocks heap.blocks (first_of_range heap range) (blocks_of_range heap range)

-- The extent is that of the table's blocks in the range. So many of these are passed, up to the next one, and their rows were added to the
-- empty placeholder.
pub record HasPassed (shape : IndexShape) (heap : Heap) (range extent next : ℕ) (running : Tuple) : Type 0 where
  pub passed : ℕ
  pub ends : extent ≡ min (length heap.blocks) (first_of_range heap (range + 1))
  pub reached : next ≡ first_of_range heap range + passed
  pub within : passed ≤ blocks_of_range heap range
  pub added : running ≡ with_rows (rows_of_blocks heap.blocks (first_of_range heap range) passed) (empty_placeholder range shape.columns shape.parts)

-- all blocks of the range are passed
abbrev pub HasPassedAll : IndexShape → Heap → (range extent next : ℕ) → Tuple → Type 0
HasPassedAll shape heap range extent next running = HasPassed shape heap range extent next running × (extent ≤ next)

-- the final tuple unites the placeholder that was copied with the running one
pub record Unites (shape : IndexShape) (copied : List ℕ) (final running : Tuple) : Type 0 where
  pub placeholder : Tuple
  pub read : IsReadAs shape copied placeholder
  pub of : parts_of placeholder.columns ≡ classes_of shape
  pub union : final ≡ final_union running placeholder

-- nulls and values are said exactly where the other column had some or some are among these; where values are, their exact summary joins
-- the other one's
pub record IsJoined (values : List Value) (held column : IndexedColumn) : Type 0 where
  pub nulls : has_nulls column.state ≡ (has_nulls held.state || list_any is_null values)
  pub some_values : has_values column.state ≡ (has_values held.state || list_any is_value values)
  pub summary : column.summary ≡ (if list_any is_value values then united held.class held.summary (exact held.class (filter is_value values)) else held.summary)

-- column by column
abbrev pub AreJoined : List (List Value) → (held columns : List IndexedColumn) → Type 0
AreJoined rows held columns = (k : ℕ) (other column : IndexedColumn) → k < length columns → other ≡ slice_index_or held k other → column ≡ slice_index_or columns k column → IsJoined (values_at column.place rows) other column

-- a final tuple, which has what the placeholder of these bytes held, and exactly these rows
pub record IsFinalOf (shape : IndexShape) (copied : List ℕ) (rows : List (List Value)) (t : Tuple) : Type 0 where
  pub placeholder : Tuple
  pub read : IsReadAs shape copied placeholder
  pub joined : AreJoined rows placeholder.columns t.columns
  pub range : t.range ≡ placeholder.range
  pub final : t.placeholder ≡ false

-- what it has at this stage is exact, as long as the rows of the table stay
abbrev pub IsExactAt : IndexShape → Heap → (range : ℕ) → SummariseHand → Stage → Type 0
IsExactAt shape heap range hand stages.Pass = HasPassed shape heap range hand.extent hand.next hand.running
IsExactAt shape heap range hand (stages.Copy x) = HasPassedAll shape heap range hand.extent hand.next hand.running
IsExactAt shape heap range hand (stages.Swap x) = HasPassedAll shape heap range hand.extent hand.next hand.running × Unites shape hand.copied hand.united hand.running
IsExactAt shape heap range hand (stages.Set x y) = HasPassedAll shape heap range hand.extent hand.next hand.running × Unites shape hand.copied hand.united hand.running
IsExactAt shape heap range hand stage = Unit {0}
