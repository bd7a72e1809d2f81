-- When an index is covered: no scan loses a row to it, whatever is running.
use Rattle.std.specs.Prelude.{◌≡◌, ◌⊎◌, ℕ, ◌≤◌, ◌<◌, Bool, false, IsTrue, Option, None, Some}
use Rattle.block_model.specs.declared.row.Row.{Row}
use Rattle.block_model.specs.declared.place.Spot.{Spot}
use Rattle.coverage.specs.IndexView.{IndexTuple, Contents, Progress, Pages, IndexView, range_of_block, IsTupleOf, IsBuilding}
use Rattle.coverage.specs.IsSettled.{IsSettled, IsAccounted}
use Rattle.coverage.specs.IsSound.{IsLeftUnnamed, IsSound}
use Rattle.coverage.specs.GoesOn.{IsHeld}
use Rattle.coverage.specs.Statements.{OnIndex, Empty, Held, Copied, Moving, Dropping, Phase, NotBuilding, Vacant, Growing, Evacuating, Placing, IsAt, Scan}
use Rattle.coverage.specs.Statements.{Statement, Idle, Inserting, Maintaining, Holding, Scanning, loose_of, building_of}
use Rattle.coverage.specs.Knowing.{Knows}
use Rattle.coverage.specs.PageOrder.{AreOrdered, KnowsPages}

-- one index and its table: what is on the pages, who locks what, each session's statement, and the transactions whose rows
-- count: they are committed, or of an open session that hasn't failed
pub record IndexState : Type 0 where
  pub contents : Contents
  pub pages_per_range : ℕ
  pub blocks : ℕ
  pub row : ℕ → ℕ → Option Row
  pub entry : ℕ → Option Spot
  pub tuple : Spot → Option IndexTuple
  pub pages : Pages
  pub lock : ℕ → Option ℕ
  pub summarise_lock : Option ℕ
  pub unnamed : Spot → Bool
  pub statement : ℕ → Statement
  pub counts : ℕ → Bool

abbrev pub index_view : IndexState → IndexView
index_view w = record {
  contents = w.contents;
  pages_per_range = w.pages_per_range;
  blocks = w.blocks;
  row = w.row;
  entry = w.entry;
  tuple = w.tuple;
  pages = w.pages;
  lock = w.lock;
  summarise_lock = w.summarise_lock;
  building = λ s. building_of (w.statement s);
  loose = λ s. loose_of (w.statement s);
  unnamed = w.unnamed;
}

-- the place that a statement in this state on the index holds for a range
abbrev pub OnIndexHolds : ℕ → OnIndex → ℕ → Spot → Type 0
OnIndexHolds m Empty range x = ⊥
OnIndexHolds m (Held y) range x = (m ≡ range) × (y ≡ x)
OnIndexHolds m (Copied y old new) range x = (m ≡ range) × (y ≡ x)
OnIndexHolds m (Moving y z old new) range x = ⊥
OnIndexHolds m (Dropping y) range x = ⊥

abbrev pub PhaseHolds : ℕ → Phase → ℕ → Spot → Type 0
PhaseHolds m (NotBuilding on_index) range x = OnIndexHolds m on_index range x
PhaseHolds m Vacant range x = ⊥
PhaseHolds m Growing range x = ⊥
PhaseHolds m (Evacuating n on_index) range x = OnIndexHolds n on_index range x
PhaseHolds m (Placing y) range x = ⊥
PhaseHolds m (IsAt p on_index) range x = OnIndexHolds m on_index range x

-- the place that a statement holds for a range
abbrev pub StatementHolds : IndexView → Statement → ℕ → Spot → Type 0
StatementHolds w Idle range x = ⊥
StatementHolds w (Inserting b k r on_index) range x = OnIndexHolds (range_of_block w b) on_index range x
StatementHolds w (Maintaining m phase) range x = PhaseHolds m phase range x
StatementHolds w Holding range x = ⊥
StatementHolds w (Scanning scan) range x = scan.held ≡ Some (range, x)

pub record IsCovered (w : IndexState) : Type 0 where
  -- every row that counts is settled, or its insert is running
  pub rows_settled : (b k : ℕ) (r : Row) → w.row b k ≡ Some r → IsTrue (w.counts r.id.t)
      → IsSettled (index_view w) b r ⊎ ((s : ℕ) × (on_index : OnIndex) × (w.statement s ≡ Inserting b k r on_index))
  -- every entry names a tuple of its range, which is one of the index
  pub entries_name_tuples : (range : ℕ) (x : Spot) → w.entry range ≡ Some x
      → (t : IndexTuple) × (w.tuple x ≡ Some t) × (t.range ≡ range) × IsTupleOf (index_view w) t
  -- every tuple is named for its range; or its page is locked by the session whose put, move or clear is running; or it was unnamed at the opening
  pub tuples_are_named : (x : Spot) (t : IndexTuple) → w.tuple x ≡ Some t
      → (w.entry t.range ≡ Some x) ⊎ ((s : ℕ) × (loose_of (w.statement s) ≡ Some x) × (w.lock x.block ≡ Some s)) ⊎ IsTrue (w.unnamed x)
  -- at most one statement of the table is building a range
  pub one_builder_a_table : (s n range m : ℕ) (p q : Progress) → IsBuilding (index_view w) s range p → IsBuilding (index_view w) n m q → s ≡ n
  -- every place that a statement holds was named by the map when it was read
  pub held_places_were_named : (s range : ℕ) (x : Spot) → StatementHolds (index_view w) (w.statement s) range x → IsHeld (index_view w) range x
  -- a final tuple at a place that a scan holds for its range includes every row of the range that the scan's session sees
  pub held_tuples_include : (s : ℕ) (scan : Scan) → w.statement s ≡ Scanning scan → (range : ℕ) (x : Spot) → scan.held ≡ Some (range, x)
      → (t : IndexTuple) → w.tuple x ≡ Some t → t.range ≡ range → t.placeholder ≡ false
      → (b k : ℕ) (r : Row) → IsTrue (scan.sees b k) → w.row b k ≡ Some r → range_of_block (index_view w) b ≡ range → IsTrue (t.includes r)

-- the empty index of a new table
abbrev pub new_index : Contents → (pages_per_range blocks : ℕ) → Pages → (ℕ → Bool) → IndexState
new_index contents pages_per_range blocks pages counts = record {
  contents = contents;
  pages_per_range = pages_per_range;
  blocks = blocks;
  row = λ b k. None;
  entry = λ m. None;
  tuple = λ x. None;
  pages = pages;
  lock = λ p. None;
  summarise_lock = None;
  unnamed = λ x. false;
  statement = λ s. Idle;
  counts = counts;
}

-- rows lie on blocks of the table
abbrev pub AreRowsBelow : IndexState → Type 0
AreRowsBelow w = (b k : ℕ) (r : Row) → w.row b k ≡ Some r → b < w.blocks

-- the row of this place stands there; where it matches, it is found, or its block is a candidate and not read yet
abbrev pub IsFoundOrUnread : IndexState → Scan → ℕ → ℕ → Type 0
IsFoundOrUnread w scan b k =
    (r : Row) × (w.row b k ≡ Some r) × (IsTrue (scan.matches r) → IsTrue (scan.found b k) ⊎ (IsTrue (scan.candidate b) × (scan.read ≤ b)))

-- nobody has a statement running: no session holds a page lock or the summarise lock
pub record IsAtRest (w : IndexState) : Type 0 where
  pub idle : (s : ℕ) → w.statement s ≡ Idle
  pub unlocked : (p : ℕ) → w.lock p ≡ None
  pub free : w.summarise_lock ≡ None
  pub unnamed_tuples : (x : Spot) → IsTrue (w.unnamed x) → IsLeftUnnamed (index_view w) x

-- What every step keeps, and whatever is covered rests on: the view is sound, the pages stand in their order, each statement's
-- knowledge is true, and every row that counts is settled or its insert is running.
pub record IsIndexKept (w : IndexState) : Type 0 where
  pub sound : IsSound (index_view w)
  pub ordered : AreOrdered (index_view w)
  pub knows : (s : ℕ) → Knows (index_view w) s (w.statement s)
  pub knows_pages : (s : ℕ) → KnowsPages (index_view w) s (w.statement s)
  pub rows : (b k : ℕ) (r : Row) → w.row b k ≡ Some r → IsTrue (w.counts r.id.t)
      → IsAccounted (index_view w) b r ⊎ ((s : ℕ) × (on_index : OnIndex) × (w.statement s ≡ Inserting b k r on_index))
