-- A table with several indexes: what its statements are at, and how each index sees it.
use Rattle.std.specs.Prelude.{ℕ, zero, suc, Bool, Option, None, Some, List}
use Rattle.block_model.specs.declared.row.Row.{Row}
use Rattle.block_model.specs.declared.row.RowId.{RowId}
use Rattle.block_model.specs.declared.place.Spot.{Spot}
use Rattle.coverage.specs.IndexView.{IndexTuple, Contents, Pages, IndexView}
use Rattle.coverage.specs.Statements.{OnIndex, Empty, Phase, Scan, Statement, Idle, Inserting, Maintaining, Holding, Scanning}
use Rattle.coverage.specs.IsCovered.{IndexState, index_view}

-- one index of the table: what is made of its tuples, its pages, range map and tuples, and who locks what
pub record Index : Type 0 where
  pub contents : Contents
  pub pages_per_range : ℕ
  pub autosummarize : Bool
  pub entry : ℕ → Option Spot
  pub tuple : Spot → Option IndexTuple
  pub pages : Pages
  pub lock : ℕ → Option ℕ
  pub unnamed : Spot → Bool

-- The ranges that a maintenance statement goes over: those whose first block lies below an extent; one of these alone; those
-- all of whose blocks lie below it; or the one to be desummarised.
pub data Job : Type 0 where
  EachRange : (extent : ℕ) → Job
  OneRange : (extent only : ℕ) → Job
  WholeRanges : (extent : ℕ) → Job
  Desummarising : (only : ℕ) → Job

-- A scan of the table: the rows that its session sees; the test of its query, and which tuples of each index keep it; the
-- extent that it read; the index and range that it judges next, and the place that the map named there; which ranges of which
-- index it has judged, and whether it kept their blocks; its candidate blocks, and up to where they are read; the rows found. An
-- explain reads none; a delete marks the rows that it found.
pub record TableScan : Type 0 where
  pub sees : ℕ → ℕ → Bool
  pub matches : Row → Bool
  pub keeps : ℕ → IndexTuple → Bool
  pub explains : Bool
  pub deletes : Bool
  pub extent : ℕ
  pub at : ℕ
  pub range : ℕ
  pub held : Option Spot
  pub judged : ℕ → ℕ → Option Bool
  pub candidate : ℕ → Bool
  pub read : ℕ
  pub found : ℕ → ℕ → Bool

-- What a session's statement is at. Reaches, Considers and SweepsFrom stand within a step alone.
pub data Task : Type 0 where
  Resting : Task
  -- an insert, whose row stands at block and slot, before an index: those below it are complete; it has to ask for a summary; it is at work there
  Reaches : (b k : ℕ) → Row → (at : ℕ) → Task
  Asks : (b k : ℕ) → Row → (at : ℕ) → Task
  Inserts : (b k : ℕ) → Row → (at : ℕ) → OnIndex → Task
  -- maintenance of an index, before a range, and at it
  Considers : Job → (at range : ℕ) → Task
  Maintains : Job → (at range : ℕ) → Phase → Task
  -- vacuum: at the heap's blocks below the extent; before an index page, and at it; before an index
  Prunes : (extent next : ℕ) → Task
  SweepsFrom : (at from : ℕ) → Task
  Sweeps : (at page : ℕ) → Task
  Restarts : (at : ℕ) → Task
  Scans : TableScan → Task
  -- a delete, with the rows that it found and has still to mark
  Marks : TableScan → List RowId → Task

-- heap: its rows by block and slot, the slots of a block, the blocks that are started and those that it has at most
pub record TableState : Type 0 where
  pub indexes : ℕ
  pub index : ℕ → Index
  pub rows_per_page : ℕ
  pub heap_limit : ℕ
  pub blocks : ℕ
  pub row : ℕ → ℕ → Option Row
  pub summarise_lock : Option ℕ
  pub task : ℕ → Task
  pub counts : ℕ → Bool

-- the first where the numbers are the same, else the second
abbrev pub pick : {A : Type 0} → ℕ → ℕ → A → A → A
pick zero zero a b = a
pick zero (suc m) a b = b
pick (suc n) zero a b = b
pick (suc n) (suc m) a b = pick n m a b

-- the range that a scan is at is judged too
abbrev pub judged_with : TableScan → Bool → ℕ → ℕ → Option Bool
judged_with scan keeps i range = pick i scan.at (pick range scan.range (Some keeps) (scan.judged i range)) (scan.judged i range)

-- what an insert that is at one index has on index i: nothing more to do on those before it, nothing yet on those after it
abbrev pub on_index_by : ℕ → ℕ → OnIndex → Option OnIndex
on_index_by zero zero on_index = Some on_index
on_index_by zero (suc at) on_index = None
on_index_by (suc i) zero on_index = Some Empty
on_index_by (suc i) (suc at) on_index = on_index_by i at on_index

abbrev pub inserting_of : ℕ → ℕ → Row → Option OnIndex → Statement
inserting_of b k r None = Idle
inserting_of b k r (Some on_index) = Inserting b k r on_index

abbrev pub held_at : ℕ → Option Spot → Option (ℕ × Spot)
held_at range None = None
held_at range (Some x) = Some (range, x)

abbrev pub scan_at : ℕ → TableScan → Scan
scan_at i scan = record {
  sees = scan.sees;
  matches = scan.matches;
  keeps = scan.keeps i;
  candidate = scan.candidate;
  read = scan.read;
  found = scan.found;
  held = pick i scan.at (held_at scan.range scan.held) None;
}

-- how index i sees a statement of the table
abbrev pub seen_by : ℕ → Task → Statement
seen_by i Resting = Idle
seen_by i (Reaches b k r at) = inserting_of b k r (on_index_by i at Empty)
seen_by i (Asks b k r at) = inserting_of b k r (on_index_by i at Empty)
seen_by i (Inserts b k r at on_index) = inserting_of b k r (on_index_by i at on_index)
seen_by i (Considers job at range) = Holding
seen_by i (Maintains job at range phase) = pick i at (Maintaining range phase) Holding
seen_by i (Prunes extent next) = Holding
seen_by i (SweepsFrom at from) = Holding
seen_by i (Sweeps at page) = Holding
seen_by i (Restarts at) = Holding
seen_by i (Scans scan) = Scanning (scan_at i scan)
seen_by i (Marks scan ids) = Idle

-- the table as its index i sees it
abbrev pub index_state : ℕ → TableState → IndexState
index_state i w = record {
  contents = (w.index i).contents;
  pages_per_range = (w.index i).pages_per_range;
  blocks = w.blocks;
  row = w.row;
  entry = (w.index i).entry;
  tuple = (w.index i).tuple;
  pages = (w.index i).pages;
  lock = (w.index i).lock;
  summarise_lock = w.summarise_lock;
  unnamed = (w.index i).unnamed;
  statement = λ s. seen_by i (w.task s);
  counts = w.counts;
}

abbrev pub index_view_at : ℕ → TableState → IndexView
index_view_at i w = index_view (index_state i w)
