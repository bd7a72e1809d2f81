-- The running statements of one index's table: what each is at, between two steps.
use Rattle.std.specs.Prelude.{◌≡◌, ℕ, zero, suc, ◌≤◌, ◌<◌, Bool, true, false, IsTrue, Option, None, Some}
use Rattle.block_model.specs.declared.row.Row.{Row}
use Rattle.block_model.specs.declared.place.Spot.{Spot}
use Rattle.coverage.specs.IndexView.{IndexTuple, Contents, IsFormed, most_bytes, Progress, ExtentUnread, Building}
use Rattle.coverage.specs.Changes.{IsWithin}

-- What a statement has on an index of a range: nothing; the place that the map named; also the tuple copied there, and the one to
-- come in its place; in a move, the old tuple's place and that of the new one, which is put and not named; the old one's place, which is no longer named.
pub data OnIndex : Type 0 where
  Empty : OnIndex
  Held : Spot → OnIndex
  Copied : Spot → IndexTuple → IndexTuple → OnIndex
  Moving : Spot → Spot → IndexTuple → IndexTuple → OnIndex
  Dropping : Spot → OnIndex

-- Where a maintenance statement is with its range: not building; it read that the map has no entry; the map grows, and a page
-- is locked for it; a page is emptied for the map, and a tuple of another range moves; its placeholder is put and isn't named; it is building.
pub data Phase : Type 0 where
  NotBuilding : OnIndex → Phase
  Vacant : Phase
  Growing : Phase
  Evacuating : ℕ → OnIndex → Phase
  Placing : Spot → Phase
  IsAt : Progress → OnIndex → Phase

-- A scan: the rows that its session sees, by block and slot; the test of its query, and which tuples keep it; its candidate
-- blocks, and up to where they are read; the rows found; the range that it is at, and the place that the map named for it.
pub record Scan : Type 0 where
  pub sees : ℕ → ℕ → Bool
  pub matches : Row → Bool
  pub keeps : IndexTuple → Bool
  pub candidate : ℕ → Bool
  pub read : ℕ
  pub found : ℕ → ℕ → Bool
  pub held : Option (ℕ × Spot)

pub data Statement : Type 0 where
  Idle : Statement
  -- the row stands at block and slot, and the index isn't complete
  Inserting : ℕ → ℕ → Row → OnIndex → Statement
  -- the holder of the summarise lock: summarise, desummarise, vacuum or a queued request; at a range of this index, or at none
  Maintaining : ℕ → Phase → Statement
  Holding : Statement
  Scanning : Scan → Statement

-- the loose tuple of a statement in this state on the index
abbrev pub loose_in : OnIndex → Option Spot
loose_in Empty = None
loose_in (Held x) = None
loose_in (Copied x old new) = None
loose_in (Moving x y old new) = Some y
loose_in (Dropping x) = Some x

abbrev pub loose_at : Phase → Option Spot
loose_at (NotBuilding on_index) = loose_in on_index
loose_at Vacant = None
loose_at Growing = None
loose_at (Evacuating m on_index) = loose_in on_index
loose_at (Placing x) = Some x
loose_at (IsAt p on_index) = loose_in on_index

abbrev pub loose_of : Statement → Option Spot
loose_of Idle = None
loose_of (Inserting b k r on_index) = loose_in on_index
loose_of (Maintaining range phase) = loose_at phase
loose_of Holding = None
loose_of (Scanning scan) = None

-- a summariser is building from the put of its placeholder on, or from where it found one
abbrev pub building_at : ℕ → Phase → Option Building
building_at range (NotBuilding on_index) = None
building_at range Vacant = None
building_at range Growing = None
building_at range (Evacuating m on_index) = None
building_at range (Placing x) = Some (record { range = range; progress = ExtentUnread })
building_at range (IsAt p on_index) = Some (record { range = range; progress = p })

abbrev pub building_of : Statement → Option Building
building_of Idle = None
building_of (Inserting b k r on_index) = None
building_of (Maintaining range phase) = building_at range phase
building_of Holding = None
building_of (Scanning scan) = None

-- a slot's row is added, if it has one
abbrev pub row_added : Contents → Option Row → IndexTuple → IndexTuple
row_added contents None t = t
row_added contents (Some r) t = contents.added r t

-- the new tuple is the old one with the row added
pub record IsAdded (r : Row) (old new : IndexTuple) : Type 0 where
  pub range : new.range ≡ old.range
  pub placeholder : new.placeholder ≡ old.placeholder
  pub wider : IsWithin old.includes new.includes
  pub row : IsTrue (new.includes r)

-- the new tuple is final, and unites the old one with a result
pub record IsUnited (result old new : IndexTuple) : Type 0 where
  pub range : new.range ≡ old.range
  pub placeholder : new.placeholder ≡ false
  pub wider : IsWithin old.includes new.includes
  pub united : IsWithin result.includes new.includes

-- a placeholder of its range that includes nothing
pub record IsEmptyPlaceholder (range : ℕ) (t : IndexTuple) : Type 0 where
  pub of : t.range ≡ range
  pub placeholder : t.placeholder ≡ true
  pub includes : (r : Row) → t.includes r ≡ false

-- What is made of tuples of the index is one, and includes what it has to; and a page takes each.
pub record AreLawful (contents : Contents) : Type 0 where
  pub greatest : contents.greatest ≤ most_bytes
  pub empty : (range : ℕ) → range < contents.ranges → IsFormed contents (contents.empty range) × IsEmptyPlaceholder range (contents.empty range)
  pub added : (r : Row) (t : IndexTuple) → IsFormed contents t → IsFormed contents (contents.added r t) × IsAdded r t (contents.added r t)
  pub united : (t result : IndexTuple) → IsFormed contents t → IsFormed contents result
      → IsFormed contents (contents.united t result) × IsUnited result t (contents.united t result)

-- the rows of a block's first slots are added, in order of slot
abbrev pub rows_added : Contents → (ℕ → Option Row) → ℕ → IndexTuple → IndexTuple
rows_added contents row zero t = t
rows_added contents row (suc n) t = row_added contents (row n) (rows_added contents row n t)

-- no row stands in the slots from this one on
abbrev pub HasNoMoreRows : (ℕ → Option Row) → ℕ → Type 0
HasNoMoreRows row n = (k : ℕ) → n ≤ k → row k ≡ None
