-- When a table is covered in all of its indexes, and what a scan of it still has before it.
use Rattle.std.specs.Prelude.{◌≡◌, ◌≢◌, ◌⊎◌, ℕ, ◌≤◌, ◌<◌, IsTrue, ◌↔◌, true, false, None, Some, List}
use Rattle.block_model.specs.declared.row.Row.{Row}
use Rattle.block_model.specs.declared.row.RowId.{RowId}
use Rattle.block_model.specs.declared.place.Spot.{Spot}
use Rattle.coverage.specs.IndexView.{Progress, IsBuilding}
use Rattle.coverage.specs.Statements.{AreLawful, Phase, NotBuilding}
use Rattle.coverage.specs.IsCovered.{IsCovered, IsAtRest, IsIndexKept}
use Rattle.coverage.specs.PageOrder.{AreOrdered, AreNewPages}
use Rattle.coverage.specs.Steps.{Stops}
use Rattle.coverage.specs.RowOrder.{IsAmong}
use Rattle.coverage.specs.Table.{Job, EachRange, OneRange, WholeRanges, Desummarising, TableScan, Task, Resting, Reaches, Asks, Inserts, Considers}
use Rattle.coverage.specs.Table.{Maintains, Prunes, SweepsFrom, Sweeps, Restarts, Scans, Marks, TableState, index_state, index_view_at}
use Rattle.coverage.specs.TableSteps.{range_in, first_block, HasRange}

-- every index of the table is covered, and one statement of the table builds at a time
pub record IsTableCovered (w : TableState) : Type 0 where
  pub indexes : (i : ℕ) → i < w.indexes → IsCovered (index_state i w)
  pub one_builder : (i j s n range m : ℕ) (p q : Progress) → i < w.indexes → j < w.indexes → IsBuilding (index_view_at i w) s range p
      → IsBuilding (index_view_at j w) n m q → s ≡ n

-- a row that a scan's session sees stands there; where it matches, it is found, or its block is a candidate and not read yet
abbrev pub SeesRows : TableState → TableScan → Type 0
SeesRows w scan = (b k : ℕ) → IsTrue (scan.sees b k)
    → (r : Row) × (w.row b k ≡ Some r) × (IsTrue (scan.matches r) → IsTrue (scan.found b k) ⊎ (IsTrue (scan.candidate b) × (scan.read ≤ b)))

-- what a scan found stands there, its session sees it, and it matches
abbrev pub FindsOnly : TableState → TableScan → Type 0
FindsOnly w scan = (b k : ℕ) → IsTrue (scan.found b k) → (r : Row) × (w.row b k ≡ Some r) × IsTrue (scan.sees b k) × IsTrue (scan.matches r)

-- a row that a delete has still to mark stands there, its session sees it, and it matches
abbrev pub AreToMark : TableState → TableScan → List RowId → Type 0
AreToMark w scan ids = (id : RowId) → IsAmong ids id
    → (b : ℕ) × (k : ℕ) × (r : Row) × (w.row b k ≡ Some r) × (r.id ≡ id) × IsTrue (scan.sees b k) × IsTrue (scan.matches r)

-- the extent of a maintenance statement lies in the table
abbrev pub IsExtentWithin : TableState → Job → Type 0
IsExtentWithin w (EachRange extent) = extent ≤ w.blocks
IsExtentWithin w (OneRange extent only) = extent ≤ w.blocks
IsExtentWithin w (WholeRanges extent) = extent ≤ w.blocks
IsExtentWithin w (Desummarising only) = Unit

-- a desummarise builds nothing
abbrev pub IsPhaseOf : Job → Phase → Type 0
IsPhaseOf (Desummarising only) (NotBuilding on_index) = Unit
IsPhaseOf (Desummarising only) phase = ⊥
IsPhaseOf job phase = Unit

-- The index that a statement is at is one of the table's; the range that a maintenance statement is at is one of those that it goes
-- over; and what it goes over lies in the table.
abbrev pub IsInTable : TableState → Task → Type 0
IsInTable w (Reaches b k r at) = at ≤ w.indexes
IsInTable w (Asks b k r at) = at < w.indexes
IsInTable w (Inserts b k r at on_index) = at < w.indexes
IsInTable w (Considers job at range) = (at < w.indexes) × IsExtentWithin w job
IsInTable w (Maintains job at range phase) = (at < w.indexes) × IsExtentWithin w job × HasRange w job at range × IsPhaseOf job phase
IsInTable w (Prunes extent next) = extent ≤ w.blocks
IsInTable w (Sweeps at page) = at < w.indexes
IsInTable w (Restarts at) = at < w.indexes
IsInTable w (Scans scan) = scan.at ≤ w.indexes
IsInTable w task = Unit

abbrev pub AreIndexesKept : TableState → Type 0
AreIndexesKept w = (i : ℕ) → i < w.indexes → IsIndexKept (index_state i w)

-- a maintenance statement is in hand: summarise, desummarise, vacuum or a queued request
abbrev pub IsMaintenance : Task → Type 0
IsMaintenance (Considers job at range) = Unit
IsMaintenance (Maintains job at range phase) = Unit
IsMaintenance (Prunes extent next) = Unit
IsMaintenance (SweepsFrom at from) = Unit
IsMaintenance (Sweeps at page) = Unit
IsMaintenance (Restarts at) = Unit
IsMaintenance task = ⊥

-- the table's summarise lock is held by the session with a maintenance statement in hand, and by no other
abbrev pub IsHeldForMaintenance : TableState → Type 0
IsHeldForMaintenance w = (s : ℕ) → (w.summarise_lock ≡ Some s) ↔ IsMaintenance (w.task s)

-- the ranges that a scan has been at: those of the indexes before its own, and those before its range in its own
abbrev pub IsBehind : TableScan → ℕ → ℕ → Type 0
IsBehind scan i range = (i < scan.at) ⊎ ((i ≡ scan.at) × (range < scan.range))

-- A block below the extent is a candidate exactly where no judged range of it left it out; and exactly the ranges that the scan
-- has been at are judged, of those that begin below the extent.
pub record JudgesExactly (w : TableState) (scan : TableScan) : Type 0 where
  pub candidate : (b : ℕ) → IsTrue (scan.candidate b)
      ↔ ((b < scan.extent) × ((i : ℕ) → i < w.indexes → scan.judged i (range_in w i b) ≢ Some false))
  pub judged : (i range : ℕ) → i < w.indexes → IsBehind scan i range → first_block w i range < scan.extent → scan.judged i range ≢ None
  pub behind : (i range : ℕ) → scan.judged i range ≢ None → IsBehind scan i range

-- what every step of the table's statements keeps
pub record IsTableKept (w : TableState) : Type 0 where
  pub indexes : AreIndexesKept w
  pub summarise_lock : IsHeldForMaintenance w
  pub rows_below : (b k : ℕ) (r : Row) → w.row b k ≡ Some r → b < w.blocks
  pub scans : (s : ℕ) (scan : TableScan) → w.task s ≡ Scans scan → SeesRows w scan
  pub exact : (s : ℕ) (scan : TableScan) → w.task s ≡ Scans scan → JudgesExactly w scan
  pub finds : (s : ℕ) (scan : TableScan) → w.task s ≡ Scans scan → FindsOnly w scan
  pub marks : (s : ℕ) (scan : TableScan) (ids : List RowId) → w.task s ≡ Marks scan ids → AreToMark w scan ids
  pub inside : (s : ℕ) → IsInTable w (w.task s)

-- every index gives the block: its range there is judged and kept
abbrev pub IsGiven : TableState → TableScan → ℕ → Type 0
IsGiven w scan b = (b < scan.extent) × ((i : ℕ) → i < w.indexes → scan.judged i (range_in w i b) ≡ Some true)

-- the block lies in a range of some index that isn't judged yet
abbrev pub IsUnjudged : TableState → TableScan → ℕ → Type 0
IsUnjudged w scan b = (i : ℕ) × (i < w.indexes) × (scan.judged i (range_in w i b) ≡ None)

-- Nobody has a statement running, nobody holds the summarise lock, and each index rests; its pages stand in their order, its ranges
-- have blocks, and rows lie on blocks of the table.
pub record IsTableAtRest (w : TableState) : Type 0 where
  pub resting : (s : ℕ) → w.task s ≡ Resting
  pub free : w.summarise_lock ≡ None
  pub rest : (i : ℕ) → i < w.indexes → IsAtRest (index_state i w)
  pub ordered : (i : ℕ) → i < w.indexes → AreOrdered (index_view_at i w)
  pub lawful : (i : ℕ) → i < w.indexes → AreLawful (w.index i).contents
  pub ranged : (i : ℕ) → i < w.indexes → 0 < (w.index i).pages_per_range
  pub rows_below : (b k : ℕ) (r : Row) → w.row b k ≡ Some r → b < w.blocks

-- a new table, without rows and tuples, whose indexes have their first two pages
pub record IsNewTable (w : TableState) : Type 0 where
  pub resting : (s : ℕ) → w.task s ≡ Resting
  pub free : w.summarise_lock ≡ None
  pub row : (b k : ℕ) → w.row b k ≡ None
  pub entry : (i range : ℕ) → (w.index i).entry range ≡ None
  pub tuple : (i : ℕ) (x : Spot) → (w.index i).tuple x ≡ None
  pub lock : (i p : ℕ) → (w.index i).lock p ≡ None
  pub unnamed : (i : ℕ) (x : Spot) → (w.index i).unnamed x ≡ false
  pub pages : (i : ℕ) → i < w.indexes → AreNewPages (w.index i).pages
  pub lawful : (i : ℕ) → i < w.indexes → AreLawful (w.index i).contents
  pub ranged : (i : ℕ) → i < w.indexes → 0 < (w.index i).pages_per_range

-- after a stop nobody is at work, and each index of the table is as one index is; a heap block may be started and have no row
pub record TableStops (w v : TableState) : Type 0 where
  pub resting : (s : ℕ) → v.task s ≡ Resting
  pub free : v.summarise_lock ≡ None
  pub indexes : v.indexes ≡ w.indexes
  pub blocks : w.blocks ≤ v.blocks
  pub row : (b k : ℕ) → v.row b k ≡ w.row b k
  pub stops : (i : ℕ) → i < w.indexes → Stops (index_state i w) (index_state i v)
