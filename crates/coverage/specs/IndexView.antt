-- One index and its table, as the running statements meet them: rows and tuples on their pages, the range map, who locks
-- what, and how far each summarising has come.
use Rattle.std.specs.Prelude.{◌≡◌, ℕ, ◌+◌, ◌*◌, ◌/◌, ◌≤◌, ◌<◌, Bool, true, Option, Some, List, length}
use Rattle.block_model.specs.declared.row.Cond.{Cond}
use Rattle.block_model.specs.declared.row.Row.{Row}
use Rattle.block_model.specs.declared.place.Spot.{Spot}

-- a tuple: its bytes, its range, whether it is a placeholder, which rows it includes, and which conditions it keeps its range for
pub record IndexTuple : Type 0 where
  pub bytes : List ℕ
  pub range : ℕ
  pub placeholder : Bool
  pub includes : Row → Bool
  pub keeps : List Cond → Bool

-- What the operator classes of an index make of tuples: the placeholder of a range that includes nothing yet; the tuple with a row
-- added; the final tuple that unites one with another; the tuple that bytes are of, if they are of one of this index; how long its
-- tuples are at most, and how many ranges there may be.
pub record Contents : Type 0 where
  pub empty : ℕ → IndexTuple
  pub added : Row → IndexTuple → IndexTuple
  pub united : IndexTuple → IndexTuple → IndexTuple
  pub read : List ℕ → Option IndexTuple
  pub greatest : ℕ
  pub ranges : ℕ

-- A tuple of this index: its bytes say what it is, and it isn't longer, nor of a higher range, than tuples may be.
pub record IsFormed (contents : Contents) (t : IndexTuple) : Type 0 where
  pub says : contents.read t.bytes ≡ Some t
  pub size : length t.bytes ≤ contents.greatest
  pub number : t.range < contents.ranges

-- the longest tuple that a page takes
abbrev pub most_bytes : ℕ
most_bytes = 8156

-- How far the building of a summary has come: the table's extent isn't read yet; or it is read, the blocks of the range
-- below `next` are passed, and the result so far is this tuple.
pub data Progress : Type 0 where
  ExtentUnread : Progress
  Passing : (extent next : ℕ) → IndexTuple → Progress

-- what a session is building: the summary of this range
pub record Building : Type 0 where
  pub range : ℕ
  pub progress : Progress

-- an index page: not started, of the range map and its count, with tuples, or with tuples and being emptied for the map
pub data PageKind : Type 0 where
  Unstarted : PageKind
  Mapping : PageKind
  Regular : PageKind
  Emptying : PageKind

-- The pages of an index: the kind of each, the number of map pages, and that of all pages at most. What room they have follows from
-- their tuples (Rooms).
pub record Pages : Type 0 where
  pub kind : ℕ → PageKind
  pub map_pages : ℕ
  pub limit : ℕ

pub record IndexView : Type 0 where
  pub contents : Contents
  -- heap blocks of a range, heap blocks of the table, and the rows in use by block and slot
  pub pages_per_range : ℕ
  pub blocks : ℕ
  pub row : ℕ → ℕ → Option Row
  -- the range map by range, the tuples by place
  pub entry : ℕ → Option Spot
  pub tuple : Spot → Option IndexTuple
  pub pages : Pages
  -- who locks an index page, and who holds the table's summarise lock
  pub lock : ℕ → Option ℕ
  pub summarise_lock : Option ℕ
  -- what a session is building
  pub building : ℕ → Option Building
  -- the one tuple that a session has put and not named yet, or no longer names and has still to drop
  pub loose : ℕ → Option Spot
  -- the tuples that were unnamed when the store was opened, and stand still
  pub unnamed : Spot → Bool

-- the range in which a heap block lies
abbrev pub range_of_block : IndexView → ℕ → ℕ
range_of_block w b = b / w.pages_per_range

-- the entries of a map page, and the page on which the entry of a range stands; block 0 counts the map pages
abbrev pub entries_a_page : ℕ
entries_a_page = 1020

abbrev pub map_page_of : ℕ → ℕ
map_page_of range = range / entries_a_page + 1

-- the page that the map grows onto
abbrev pub next_map_page : Pages → ℕ
next_map_page pages = pages.map_pages + 1

-- the map has no page for the range's entry yet
abbrev pub IsPastMap : Pages → ℕ → Type 0
IsPastMap pages range = pages.map_pages < map_page_of range

-- a statement of this session is building the range's summary, and has come so far
abbrev pub IsBuilding : IndexView → ℕ → ℕ → Progress → Type 0
IsBuilding w s range progress = w.building s ≡ Some (record { range = range; progress = progress })

-- a range of the table: it has a block, and there may be a tuple of it
abbrev pub IsRangeOf : IndexView → ℕ → Type 0
IsRangeOf w range = (range * w.pages_per_range < w.blocks) × (range < w.contents.ranges)

-- a tuple of this index, of a range of the table
abbrev pub IsTupleOf : IndexView → IndexTuple → Type 0
IsTupleOf w t = IsFormed w.contents t × (t.range * w.pages_per_range < w.blocks)

-- the map names this tuple for the range
abbrev pub NamesTuple : IndexView → ℕ → IndexTuple → Type 0
NamesTuple w range t = (x : Spot) × (w.entry range ≡ Some x) × (w.tuple x ≡ Some t)

-- how long the empty placeholder of a range is
abbrev pub placeholder_length : IndexView → ℕ → ℕ
placeholder_length w range = length (w.contents.empty range).bytes

-- the map names a placeholder for the range
abbrev pub NamesPlaceholder : IndexView → ℕ → Type 0
NamesPlaceholder w range = (x : Spot) × (t : IndexTuple) × (w.entry range ≡ Some x) × (w.tuple x ≡ Some t) × (t.placeholder ≡ true)
