-- an insert over all indexes of its table: what it needs, and what it is in the table
use Rattle.std.specs.Prelude.{◌≡◌, ℕ, ◌+◌, ◌*◌, ◌/◌, ◌<◌, ◌≤◌, Bool, true, false, IsTrue, All, List, length, map, slice_get, Option, None, Some}
use Rattle.std.specs.Vec.{vec_capacity}
use Rattle.block_model.specs.declared.place.Spot.{Spot}
use Rattle.block_model.specs.declared.reply.Point.{Point}
use Rattle.block_model.specs.declared.row.Row.{Row}
use Rattle.store_layout.specs.DiskLayout.{DiskLayout}
use Rattle.page_layout.specs.RowBytes.{HaveKinds}
use Rattle.page_locks.specs.declared.did.Did.{Did}
use Rattle.page_locks.specs.declared.did.Did.TheVariants as did
use Rattle.heap_rows.specs.Heaps.{kinds_at}
use Rattle.range_tuple.specs.TupleBytes.{tuple_bytes}
use Rattle.range_tuple.specs.Tuples.{parts_of}
use Rattle.coverage.specs.Table.{Task, Resting, Asks, Inserts}
use Rattle.index_steps.specs.IndexTuples.{TakesValues, classes_of, index_at, shape_of}
use Rattle.brin_insert.specs.declared.insert.Insert.{Insert}
use Rattle.brin_insert.specs.declared.stage.Stage.TheVariants as stages
use Rattle.brin_insert.specs.InsertHands.{InsertHand}
use Rattle.brin_insert.specs.InsertSteps.{IsAtWork, on_index}
use Rattle.index_steps.specs.ShownTable.{indexes_of}

-- the numbers of the indexes that work is in
abbrev pub numbers_in : List InsertHand → List ℕ
numbers_in works = map (λ hand. hand.index) works

-- A row at the spot asks for a summary in the index: it has autosummarize, and the spot is the first one of a range above the first.
abbrev pub AsksAt : DiskLayout → (n : ℕ) → Spot → Type 0
AsksAt layout n x = IsTrue (index_at layout n).auto × (x.slot ≡ 0) × (x.block / (index_at layout n).pages_per_range * (index_at layout n).pages_per_range ≡ x.block)
    × (0 < x.block / (index_at layout n).pages_per_range)

-- the tuple with the row is one of the index
abbrev pub IsOfItsIndex : DiskLayout → InsertHand → Type 0
IsOfItsIndex layout hand = parts_of hand.widened.columns ≡ classes_of (shape_of layout hand.index)

-- the work in the index that the insert is at; none where all are complete
abbrev pub work_of : Insert → Option InsertHand
work_of insert = slice_get insert.works.items insert.at

abbrev pub AsksIn : DiskLayout → Spot → Option InsertHand → Type 0
AsksIn layout x None = ⊥
AsksIn layout x (Some hand) = AsksAt layout hand.index x

-- it has to ask for a summary before its work in the index begins
pub record IsAsking (layout : DiskLayout) (insert : Insert) : Type 0 where
  pub spot : Spot
  pub hand : InsertHand
  pub placed : insert.place ≡ Some spot
  pub work : work_of insert ≡ Some hand
  pub begun : hand.stage ≡ stages.Map
  pub asks : AsksAt layout hand.index spot

-- it asked for so many summaries in vain: none before its row is put, and one at most in each index that it has asked in
abbrev pub IsDroppedFew : Option Spot → (asking : Bool) → (at dropped : ℕ) → Type 0
IsDroppedFew None asking at dropped = dropped ≡ 0
IsDroppedFew (Some x) true at dropped = dropped ≤ at
IsDroppedFew (Some x) false at dropped = dropped ≤ at + 1

-- the request is for an index of so many
abbrev pub IsOfIndexes : (count : ℕ) → ℕ × ℕ → Type 0
IsOfIndexes count request = request.0 < count

-- The row is one of its table, and each index takes it; the work is in the table's indexes, in the order of their declarations. There is
-- room for what it asks for in vain.
pub record IsInsertFor (layout : DiskLayout) (insert : Insert) : Type 0 where
  pub table : insert.row.table < length layout.schema.tables
  pub kinds : HaveKinds (kinds_at layout insert.row.table) insert.row.values
  pub taken : (at n : ℕ) → slice_get (indexes_of layout insert.row.table) at ≡ Some n → TakesValues (shape_of layout n) insert.row.values
  pub numbers : numbers_in insert.works.items ≡ indexes_of layout insert.row.table
  pub tuples : All (IsOfItsIndex layout) insert.works.items
  pub asks : insert.asking ≡ true → IsAsking layout insert
  pub room : length insert.works.items ≤ vec_capacity insert.dropped
  pub few : IsDroppedFew insert.place insert.asking insert.at (length insert.dropped.items)
  pub named : All (IsOfIndexes (length layout.schema.indexes)) insert.dropped.items

-- work that has begun there, or none where all are complete; so the answer goes on, or is the last one
abbrev pub HasReached : Point → Did → Option InsertHand → Type 0
HasReached point answer None = answer ≡ did.Finished point
HasReached point answer (Some hand) = (answer ≡ did.Moved point) × (hand.stage ≡ stages.Map)

abbrev pub IsAtWorkIn : Option InsertHand → Type 0
IsAtWorkIn None = ⊥
IsAtWorkIn (Some hand) = IsAtWork hand.stage

abbrev pub HasStepAt : Option Spot → Option InsertHand → Type 0
HasStepAt None work = Unit {0}
HasStepAt (Some x) work = IsAtWorkIn work

-- its row isn't put yet, or the index that it is at isn't complete
abbrev pub HasStepLeft : Insert → Type 0
HasStepLeft insert = HasStepAt insert.place (work_of insert)

abbrev pub task_in : DiskLayout → Spot → Row → (at : ℕ) → (copied : List ℕ) → Option InsertHand → (asking : Bool) → Task
task_in layout x r at copied None asking = Resting
task_in layout x r at copied (Some hand) true = Asks x.block x.slot r at
task_in layout x r at copied (Some hand) false = Inserts x.block x.slot r at (on_index (shape_of layout hand.index) hand.stage copied (tuple_bytes hand.widened))

abbrev pub task_at : DiskLayout → Insert → Option Spot → Task
task_at layout insert None = Resting
task_at layout insert (Some x) = task_in layout x insert.row insert.at insert.copied (work_of insert) insert.asking

-- What the insert is at: nothing before its row is put, and once it is complete; else at an index, where it may have to ask for a summary first.
abbrev pub task_of : DiskLayout → Insert → Task
task_of layout insert = task_at layout insert insert.place
