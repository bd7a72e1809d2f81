-- The steps of the statements of a table with several indexes: which comes next, and what it waits for.
use Rattle.std.specs.Prelude.{◌≡◌, ◌≢◌, ◌⊎◌, ℕ, suc, ◌+◌, ◌*◌, ◌/◌, ◌≤◌, ◌<◌, max, Bool, true, false, IsTrue, ◌↔◌, None, Some, List, [], ◌∷◌}
use Rattle.block_model.specs.declared.row.Row.{Row}
use Rattle.block_model.specs.declared.row.RowId.{RowId}
use Rattle.block_model.specs.declared.place.Spot.{Spot}
use Rattle.coverage.specs.IndexView.{IndexTuple, IndexView, range_of_block}
use Rattle.coverage.specs.Verdicts.{IsLocked, Waits, Full, SwapVerdict, ClearVerdict}
use Rattle.coverage.specs.Statements.{OnIndex, Empty, Held, Copied, Phase, NotBuilding, Statement, Idle, Inserting, Maintaining, Holding}
use Rattle.coverage.specs.PageOrder.{IsForTuples}
use Rattle.coverage.specs.Waiting.{IsPhaseWaiting, IsPhaseFull}
use Rattle.coverage.specs.Steps.{IsUnnamed, IsGone, Stands, SweepsTuples, Excludes, InsertStep, SummariseStep}
use Rattle.coverage.specs.Steps.{DesummariseStep, SummariseLockPasses}
use Rattle.coverage.specs.Table.{Job, EachRange, OneRange, WholeRanges, Desummarising, TableScan, Task, Resting, Reaches, Asks, Inserts, Considers}
use Rattle.coverage.specs.Table.{Maintains, Prunes, SweepsFrom, Sweeps, Restarts, Scans, Marks, TableState, judged_with, index_view_at}
use Rattle.coverage.specs.RowOrder.{IsAmong, AreInOrder}

-- the session's statement turns from one into the other
pub record TaskTurns (s : ℕ) (w v : TableState) (old new : Task) : Type 0 where
  pub was : w.task s ≡ old
  pub now : v.task s ≡ new
  pub others : (n : ℕ) → (n ≡ s) ⊎ (v.task n ≡ w.task n)

pub record SameLayout (w v : TableState) : Type 0 where
  pub indexes : v.indexes ≡ w.indexes
  pub rows_per_page : v.rows_per_page ≡ w.rows_per_page
  pub heap_limit : v.heap_limit ≡ w.heap_limit

-- the heap's rows and the transactions are the same
pub record SameRows (w v : TableState) : Type 0 where
  pub layout : SameLayout w v
  pub blocks : v.blocks ≡ w.blocks
  pub row : (b k : ℕ) → v.row b k ≡ w.row b k
  pub counts : (t : ℕ) → v.counts t ≡ w.counts t

pub record SameIndexes (w v : TableState) : Type 0 where
  pub index : (i : ℕ) → v.index i ≡ w.index i

-- nothing changes but what a statement is at
pub record OnlyTurns (w v : TableState) : Type 0 where
  pub rows : SameRows w v
  pub indexes : SameIndexes w v
  pub summarise_lock : v.summarise_lock ≡ w.summarise_lock

-- one index of the table changes alone
pub record StepsIn (at : ℕ) (w v : TableState) : Type 0 where
  pub below : at < w.indexes
  pub rows : SameRows w v
  pub others : (i : ℕ) → (i ≡ at) ⊎ (v.index i ≡ w.index i)
  pub autosummarize : (v.index at).autosummarize ≡ (w.index at).autosummarize

-- the range of a heap block in this index
abbrev pub range_in : TableState → ℕ → ℕ → ℕ
range_in w at b = b / (w.index at).pages_per_range

abbrev pub first_block : TableState → ℕ → ℕ → ℕ
first_block w at range = range * (w.index at).pages_per_range

-- a slot of a heap block without a row
abbrev pub IsVacantPlace : TableState → ℕ → ℕ → Type 0
IsVacantPlace w b k = (k < w.rows_per_page) × (w.row b k ≡ None)

-- the lowest such slot of the lowest block that has one
pub record IsFirstPlace (w : TableState) (b k : ℕ) : Type 0 where
  pub vacant : IsVacantPlace w b k
  pub below : b < w.heap_limit
  pub first : (c j : ℕ) → IsVacantPlace w c j → (b < c) ⊎ ((b ≡ c) × (k ≤ j))

-- no place is left below the limit
abbrev pub IsHeapFull : TableState → Type 0
IsHeapFull w = (b k : ℕ) → IsVacantPlace w b k → w.heap_limit ≤ b

pub record TableTakesRow (w v : TableState) (b k : ℕ) (r : Row) : Type 0 where
  pub layout : SameLayout w v
  pub now : v.row b k ≡ Some r
  pub others : (c j : ℕ) → ((c ≡ b) × (j ≡ k)) ⊎ (v.row c j ≡ w.row c j)
  pub blocks : v.blocks ≡ max w.blocks (b + 1)
  pub counts : (t : ℕ) → v.counts t ≡ w.counts t
  pub indexes : SameIndexes w v
  pub summarise_lock : v.summarise_lock ≡ w.summarise_lock

-- an insert asks at the first slot of the first block of each range but the first one
abbrev pub AsksFor : TableState → ℕ → ℕ → ℕ → Type 0
AsksFor w b k at = IsTrue (w.index at).autosummarize × (k ≡ 0) × (first_block w at (range_in w at b) ≡ b) × (0 < range_in w at b)

-- An insert is refused: no page is left in its index for the tuple, of so many that there may be.
pub data IsInsertRefused (w : TableState) (s b k : ℕ) (r : Row) : Task → Type 0 where
  IndexFull : (number at : ℕ) (x : Spot) (old new : IndexTuple) → SwapVerdict (index_view_at at w) s (range_in w at b) x old new (Full number)
      → IsInsertRefused w s b k r (Inserts b k r at (Copied x old new))

-- the statement goes over this range
abbrev pub HasRange : TableState → Job → ℕ → ℕ → Type 0
HasRange w (EachRange extent) at range = first_block w at range < extent
HasRange w (OneRange extent only) at range = (range ≡ only) × (first_block w at only < extent)
HasRange w (WholeRanges extent) at range = first_block w at (range + 1) ≤ extent
HasRange w (Desummarising only) at range = range ≡ only

-- what a maintenance statement begins with: summarize, of the whole table or of one range; work, with the range that was asked for first;
-- desummarize; vacuum
pub data BeginsWith (w : TableState) : Task → Type 0 where
  Summarize : (at : ℕ) → at < w.indexes → BeginsWith w (Considers (EachRange w.blocks) at 0)
  SummarizeOne : (at only : ℕ) → at < w.indexes → BeginsWith w (Considers (OneRange w.blocks only) at only)
  Work : (at only : ℕ) → at < w.indexes → BeginsWith w (Considers (OneRange w.blocks only) at only)
  Desummarize : (at only : ℕ) → at < w.indexes → BeginsWith w (Considers (Desummarising only) at only)
  Vacuum : BeginsWith w (Prunes w.blocks 0)

-- a step of the statement's own kind
abbrev pub JobStep : Job → ℕ → ℕ → IndexView → IndexView → Phase → Statement → Type 0
JobStep (EachRange extent) s range w v old new = SummariseStep s range w v old new
JobStep (OneRange extent only) s range w v old new = SummariseStep s range w v old new
JobStep (WholeRanges extent) s range w v old new = SummariseStep s range w v old new
JobStep (Desummarising only) s range w v old new = DesummariseStep s range w v old new

-- A maintenance statement is refused: no page is left for a tuple or for the map, of so many that there may be.
pub data IsMaintainRefused (w : IndexView) (s range : ℕ) : Phase → Type 0 where
  NoPage : (number : ℕ) (phase : Phase) → IsPhaseFull w s range phase number → IsMaintainRefused w s range phase

-- A step is blocked: another session holds the summarise lock, or the lock of the page that is needed first.
pub data IsBlocked (w : TableState) (s : ℕ) : Task → Type 0 where
  SummariseLockHeld : (n : ℕ) → w.summarise_lock ≡ Some n → n ≢ s → IsBlocked w s Resting
  InsertWaits : (q b k : ℕ) (r : Row) (at : ℕ) (x : Spot) (old new : IndexTuple)
      → SwapVerdict (index_view_at at w) s (range_in w at b) x old new (Waits q)
      → IsBlocked w s (Inserts b k r at (Copied x old new))
  SummariseWaits : (q : ℕ) (job : Job) (at range : ℕ) (phase : Phase) → IsPhaseWaiting (index_view_at at w) s range phase q
      → IsBlocked w s (Maintains job at range phase)
  DesummariseWaits : (q only at range : ℕ) (x : Spot) → ClearVerdict (index_view_at at w) s range x (Waits q)
      → IsBlocked w s (Maintains (Desummarising only) at range (NotBuilding (Held x)))
  SweepWaits : (at page : ℕ) → IsLocked (w.index at).lock s page → IsBlocked w s (Sweeps at page)

-- a running insert has put the row of this place
abbrev pub HasPut : ℕ → ℕ → Task → Type 0
HasPut b k (Reaches c j r at) = (c ≡ b) × (j ≡ k)
HasPut b k (Asks c j r at) = (c ≡ b) × (j ≡ k)
HasPut b k (Inserts c j r at on_index) = (c ≡ b) × (j ≡ k)
HasPut b k task = ⊥

abbrev pub SeesPlace : ℕ → ℕ → Task → Type 0
SeesPlace b k (Scans scan) = IsTrue (scan.sees b k)
SeesPlace b k (Marks scan ids) = IsTrue (scan.sees b k)
SeesPlace b k task = ⊥

-- a vacuum between two indexes' ranges, which want of memory may end
abbrev pub IsVacuuming : Task → Type 0
IsVacuuming (Prunes extent next) = Unit
IsVacuuming (Sweeps at page) = Unit
IsVacuuming (Restarts at) = Unit
IsVacuuming task = ⊥

-- rows of one block are dropped
pub record DropsRows (w v : TableState) (block : ℕ) (dropped : ℕ → ℕ → Bool) : Type 0 where
  pub layout : SameLayout w v
  pub on : (b k : ℕ) → IsTrue (dropped b k) → b ≡ block
  pub gone : (b k : ℕ) → IsTrue (dropped b k) → v.row b k ≡ None
  pub rows : (b k : ℕ) → (v.row b k ≡ w.row b k) ⊎ IsTrue (dropped b k)
  pub blocks : v.blocks ≡ w.blocks
  pub counts : (t : ℕ) → v.counts t ≡ w.counts t
  pub indexes : SameIndexes w v
  pub summarise_lock : v.summarise_lock ≡ w.summarise_lock

-- What a new scan sees counts, and its insert is done; all blocks of the table are candidates, and nothing is judged, read or
-- found. An explain looks at no rows.
pub record ScanBegins (w : TableState) (scan : TableScan) : Type 0 where
  pub sees : (b k : ℕ) → IsTrue (scan.sees b k)
      → (r : Row) × (w.row b k ≡ Some r) × IsTrue (w.counts r.id.t) × ((n : ℕ) → HasPut b k (w.task n) → ⊥)
  pub extent : scan.extent ≡ w.blocks
  pub candidate : (b : ℕ) → IsTrue (scan.candidate b) ↔ (b < w.blocks)
  pub at : scan.at ≡ 0
  pub range : scan.range ≡ 0
  pub held : scan.held ≡ None
  pub judged : (i range : ℕ) → scan.judged i range ≡ None
  pub read : scan.read ≡ 0
  pub found : (b k : ℕ) → scan.found b k ≡ false
  pub explain : scan.explains ≡ true → (b k : ℕ) → scan.sees b k ≡ false

-- One step of a scan in its range of the index that it judges, as a scan's step there.
pub data JudgeStep (w : IndexView) (old : TableScan) : TableScan → Type 0 where
  JudgeMap : (x : Spot) → old.held ≡ None → w.entry old.range ≡ Some x → JudgeStep w old (record old { held = Some x })
  JudgeNoEntry : old.held ≡ None → w.entry old.range ≡ None → JudgeStep w old (record old { range = suc old.range; judged = judged_with old true })
  JudgeGone : (x : Spot) → old.held ≡ Some x → IsGone w old.range x → JudgeStep w old (record old { held = None })
  JudgeKeeps : (x : Spot) (t : IndexTuple) → old.held ≡ Some x → Stands w old.range x t → IsTrue (old.keeps old.at t)
      → JudgeStep w old (record old { range = suc old.range; held = None; judged = judged_with old true })
  JudgeDrops : (x : Spot) (t : IndexTuple) (candidate : ℕ → Bool) → old.held ≡ Some x → Stands w old.range x t → old.keeps old.at t ≡ false
      → Excludes t old.matches
      → ((b : ℕ) → ((range_of_block w b ≡ old.range) × (candidate b ≡ false)) ⊎ ((range_of_block w b ≢ old.range) × (candidate b ≡ old.candidate b)))
      → JudgeStep w old (record old { range = suc old.range; held = None; judged = judged_with old false; candidate = candidate })

-- the next given block is read, and exactly its visible matches are found
pub record ReadsPage (w : TableState) (scan : TableScan) (next : ℕ) (found : ℕ → ℕ → Bool) : Type 0 where
  pub reads : scan.explains ≡ false
  pub judged : scan.at ≡ w.indexes
  pub given : IsTrue (scan.candidate next)
  pub unread : scan.read ≤ next
  pub first : (b : ℕ) → IsTrue (scan.candidate b) → scan.read ≤ b → next ≤ b
  pub keeps : (b k : ℕ) → IsTrue (scan.found b k) → IsTrue (found b k)
  pub page : (k : ℕ) (r : Row) → w.row next k ≡ Some r → IsTrue (scan.sees next k) → IsTrue (scan.matches r) → IsTrue (found next k)
  pub only : (b k : ℕ) → IsTrue (found b k)
      → IsTrue (scan.found b k) ⊎ ((b ≡ next) × ((r : Row) × (w.row b k ≡ Some r) × IsTrue (scan.sees b k) × IsTrue (scan.matches r)))

-- the rows of this transaction don't count any more, and no others come to count
pub record Fails (w v : TableState) (t : ℕ) : Type 0 where
  pub layout : SameLayout w v
  pub blocks : v.blocks ≡ w.blocks
  pub row : (b k : ℕ) → v.row b k ≡ w.row b k
  pub indexes : SameIndexes w v
  pub summarise_lock : v.summarise_lock ≡ w.summarise_lock
  pub failed : v.counts t ≡ false
  pub fewer : (n : ℕ) → IsTrue (v.counts n) → IsTrue (w.counts n)

-- Why an insert has no row: the heap is full; or memory is short, which the step that puts the row takes for all of its insert.
pub data IsRowRefused (w : TableState) : Type 0 where
  HeapFull : IsHeapFull w → IsRowRefused w
  RowLacksMemory : IsRowRefused w

-- What a step of session s does, with the page that it reads or changes.
pub data Does (s : ℕ) (w v : TableState) : Type 0 where
  PutsRow : (b k : ℕ) (r : Row) → IsFirstPlace w b k → TaskTurns s w v Resting (Reaches b k r 0) → TableTakesRow w v b k r → Does s w v
  -- an insert has no row, and its transaction fails
  RefusesRow : (t : ℕ) → IsRowRefused w → TaskTurns s w v Resting Resting → Fails w v t → Does s w v
  AsksSummary : (b k : ℕ) (r : Row) (at : ℕ) → TaskTurns s w v (Asks b k r at) (Inserts b k r at Empty) → OnlyTurns w v → Does s w v
  InsertGoes : (b k : ℕ) (r : Row) (at : ℕ) (old new : OnIndex) → TaskTurns s w v (Inserts b k r at old) (Inserts b k r at new) → StepsIn at w v
      → InsertStep s b k r (index_view_at at w) (index_view_at at v) old (Inserting b k r new) → Does s w v
  InsertCompletes : (b k : ℕ) (r : Row) (at : ℕ) (old : OnIndex) → TaskTurns s w v (Inserts b k r at old) (Reaches b k r (suc at)) → StepsIn at w v
      → InsertStep s b k r (index_view_at at w) (index_view_at at v) old Idle → Does s w v
  RefusesInsert : (b k : ℕ) (r : Row) (old : Task) → IsInsertRefused w s b k r old → TaskTurns s w v old Resting → Fails w v r.id.t → Does s w v
  TakesLock : (first : Task) → BeginsWith w first → TaskTurns s w v Resting first → w.summarise_lock ≡ None → v.summarise_lock ≡ Some s → SameRows w v
      → SameIndexes w v → Does s w v
  MaintainGoes : (job : Job) (at range : ℕ) (old new : Phase) → TaskTurns s w v (Maintains job at range old) (Maintains job at range new) → StepsIn at w v
      → JobStep job s range (index_view_at at w) (index_view_at at v) old (Maintaining range new) → Does s w v
  MaintainCompletes : (job : Job) (at range : ℕ) (old : Phase) → TaskTurns s w v (Maintains job at range old) (Considers job at (suc range)) → StepsIn at w v
      → JobStep job s range (index_view_at at w) (index_view_at at v) old Holding → Does s w v
  RefusesMaintain : (job : Job) (at range : ℕ) (phase : Phase) → IsMaintainRefused (index_view_at at w) s range phase
      → TaskTurns s w v (Maintains job at range phase) Resting → StepsIn at w v → SummariseLockPasses s (index_view_at at w) (index_view_at at v) (Some s) None
      → Does s w v
  RefusesVacuum : (old : Task) → IsVacuuming old → TaskTurns s w v old Resting → v.summarise_lock ≡ None → SameRows w v → SameIndexes w v → Does s w v
  -- vacuum drops rows of a block that no scan sees and no running insert has put
  PrunesBlock : (extent next : ℕ) (dropped : ℕ → ℕ → Bool) → next < extent
      → ((n b k : ℕ) → n ≢ s → IsTrue (dropped b k) → (HasPut b k (w.task n) ⊎ SeesPlace b k (w.task n)) → ⊥)
      → TaskTurns s w v (Prunes extent next) (Prunes extent (suc next)) → DropsRows w v next dropped → Does s w v
  SweepsPage : (at page : ℕ) → TaskTurns s w v (Sweeps at page) (SweepsFrom at (suc page)) → StepsIn at w v
      → SweepsTuples s (index_view_at at w) (index_view_at at v) page (λ x. (x.block ≡ page) × IsUnnamed (index_view_at at w) x) → Does s w v
  RestartsIndex : (at : ℕ) → TaskTurns s w v (Restarts at) (Considers (WholeRanges w.blocks) at 0) → OnlyTurns w v → Does s w v
  BeginsScan : (scan : TableScan) → ScanBegins w scan → TaskTurns s w v Resting (Scans scan) → OnlyTurns w v → Does s w v
  Judges : (old new : TableScan) → old.at < w.indexes → first_block w old.at old.range < old.extent → JudgeStep (index_view_at old.at w) old new
      → TaskTurns s w v (Scans old) (Scans new) → OnlyTurns w v → Does s w v
  ReadsBlock : (scan : TableScan) (next : ℕ) (found : ℕ → ℕ → Bool) → ReadsPage w scan next found
      → TaskTurns s w v (Scans scan) (Scans (record scan { read = next + 1; found = found })) → OnlyTurns w v → Does s w v
  -- want of memory ends a scan; the transaction of a select or a delete fails by it
  RefusesScan : (scan : TableScan) (t : ℕ) → TaskTurns s w v (Scans scan) Resting
      → ((scan.explains ≡ false) × Fails w v t) ⊎ ((scan.explains ≡ true) × OnlyTurns w v) → Does s w v
  -- a delete marks the next row that it found; a conflict there ends it, and its transaction fails
  MarksRow : (scan : TableScan) (id : RowId) (rest : List RowId) → TaskTurns s w v (Marks scan (id ∷ rest)) (Marks scan rest) → OnlyTurns w v → Does s w v
  Conflicts : (scan : TableScan) (id : RowId) (rest : List RowId) (t : ℕ) → TaskTurns s w v (Marks scan (id ∷ rest)) Resting → Fails w v t → Does s w v
  Blocked : (task : Task) → IsBlocked w s task → TaskTurns s w v task task → OnlyTurns w v → Does s w v
  -- a transaction begins, commits or ends: rows come to count only where there are none
  Transacts : (counts : ℕ → Bool) → w.task s ≡ Resting
      → ((t : ℕ) → IsTrue (counts t) → IsTrue (w.counts t) ⊎ ((b k : ℕ) (r : Row) → w.row b k ≡ Some r → r.id.t ≢ t))
      → v ≡ record w { counts = counts } → Does s w v

-- vacuum sweeps the pages with tuples, index by index
abbrev pub HasTuples : TableState → ℕ → ℕ → Type 0
HasTuples w at p = (at < w.indexes) × IsForTuples (w.index at).pages p

abbrev pub IsFrom : (at from m p : ℕ) → Type 0
IsFrom at from m p = (at < m) ⊎ ((at ≡ m) × (from ≤ p))

pub record IsNextPage (w : TableState) (at from m p : ℕ) : Type 0 where
  pub has : HasTuples w m p
  pub after : IsFrom at from m p
  pub first : (n q : ℕ) → HasTuples w n q → IsFrom at from n q → IsFrom m p n q

-- a scan has a range to judge, or, when all are judged and it is no explain, a given block to read
abbrev pub ScanHasStep : TableState → TableScan → Type 0
ScanHasStep w scan = ((scan.at < w.indexes) × (first_block w scan.at scan.range < scan.extent))
    ⊎ ((scan.explains ≡ false) × (scan.at ≡ w.indexes) × ((b : ℕ) × IsTrue (scan.candidate b) × (scan.read ≤ b)))

abbrev pub HasStep : TableState → Task → Type 0
HasStep w (Reaches b k r at) = ⊥
HasStep w (Considers job at range) = ⊥
HasStep w (SweepsFrom at from) = ⊥
HasStep w (Prunes extent next) = next < extent
HasStep w (Scans scan) = ScanHasStep w scan
HasStep w (Marks scan []) = ⊥
HasStep w task = Unit

-- a scan has judged every range, and an explain or one that has read each given block is through
abbrev pub IsScanRead : TableState → TableScan → Type 0
IsScanRead w scan = (scan.at ≡ w.indexes) × ((scan.explains ≡ true) ⊎ ((b : ℕ) → IsTrue (scan.candidate b) → b < scan.read))

-- it marks nothing: it is no delete, or found nothing
abbrev pub HasNothingToMark : TableScan → Type 0
HasNothingToMark scan = (scan.explains ≡ true) ⊎ (scan.deletes ≡ false) ⊎ ((b k : ℕ) → scan.found b k ≡ false)

-- these are the rows that a scan found, in their order
pub record ListsFound (w : TableState) (scan : TableScan) (ids : List RowId) : Type 0 where
  pub ordered : AreInOrder ids
  pub all : (b k : ℕ) (r : Row) → IsTrue (scan.found b k) → w.row b k ≡ Some r → IsAmong ids r.id
  pub only : (id : RowId) → IsAmong ids id → (b : ℕ) × (k : ℕ) × (r : Row) × IsTrue (scan.found b k) × (w.row b k ≡ Some r) × (r.id ≡ id)

-- Where a statement comes by its step: to what its next step is, or to its reply. No step is left that would do nothing.
pub data Onward (w : TableState) : Task → Task → Type 0 where
  Stays : (task : Task) → HasStep w task → Onward w task task
  ToAsk : (b k : ℕ) (r : Row) (at : ℕ) → at < w.indexes → AsksFor w b k at → Onward w (Reaches b k r at) (Asks b k r at)
  ToIndex : (b k : ℕ) (r : Row) (at : ℕ) → at < w.indexes → (AsksFor w b k at → ⊥) → Onward w (Reaches b k r at) (Inserts b k r at Empty)
  Inserted : (b k : ℕ) (r : Row) (at : ℕ) → at ≡ w.indexes → Onward w (Reaches b k r at) Resting
  ToRange : (job : Job) (at range : ℕ) → HasRange w job at range → Onward w (Considers job at range) (Maintains job at range (NotBuilding Empty))
  NextIndex : (extent at range : ℕ) → (HasRange w (WholeRanges extent) at range → ⊥) → suc at < w.indexes
      → Onward w (Considers (WholeRanges extent) at range) (Restarts (suc at))
  Pruned : (extent next : ℕ) (new : Task) → extent ≤ next → Onward w (SweepsFrom 0 0) new → Onward w (Prunes extent next) new
  ToPage : (at from m p : ℕ) → IsNextPage w at from m p → Onward w (SweepsFrom at from) (Sweeps m p)
  Swept : (at from : ℕ) → ((m p : ℕ) → HasTuples w m p → IsFrom at from m p → ⊥) → 0 < w.indexes → Onward w (SweepsFrom at from) (Restarts 0)
  JudgesNext : (scan : TableScan) (new : Task) → scan.at < w.indexes → scan.extent ≤ first_block w scan.at scan.range → scan.held ≡ None
      → Onward w (Scans (record scan { at = suc scan.at; range = 0 })) new → Onward w (Scans scan) new
  Scanned : (scan : TableScan) → IsScanRead w scan → HasNothingToMark scan → Onward w (Scans scan) Resting
  ToMarks : (scan : TableScan) (id : RowId) (rest : List RowId) → IsScanRead w scan → scan.explains ≡ false → scan.deletes ≡ true
      → ListsFound w scan (id ∷ rest) → Onward w (Scans scan) (Marks scan (id ∷ rest))
  Marked : (scan : TableScan) → Onward w (Marks scan []) Resting

abbrev pub IsLastIndex : TableState → Job → ℕ → Type 0
IsLastIndex w (WholeRanges extent) at = suc at ≡ w.indexes
IsLastIndex w job at = Unit

-- A maintenance statement is done: no range of it is left.
pub data IsMaintained (w : TableState) : Task → Type 0 where
  RangesDone : (job : Job) (at range : ℕ) → (HasRange w job at range → ⊥) → IsLastIndex w job at → IsMaintained w (Considers job at range)
  NothingToSweep : (extent next : ℕ) → extent ≤ next → w.indexes ≡ 0 → IsMaintained w (Prunes extent next)

-- The statement goes on, or replies; with its reply a maintenance statement gives the summarise lock.
pub data Settles (s : ℕ) (w v : TableState) : Type 0 where
  GoesOn : (old new : Task) → Onward w old new → TaskTurns s w v old new → OnlyTurns w v → Settles s w v
  GivesLock : (old : Task) → IsMaintained w old → TaskTurns s w v old Resting → v.summarise_lock ≡ None → SameRows w v → SameIndexes w v → Settles s w v

-- One step of session s: what it does, and where its statement comes by it.
pub record TableStep (s : ℕ) (w v : TableState) : Type 0 where
  pub between : TableState
  pub does : Does s w between
  pub settles : Settles s between v

-- these sessions step, one after the other
pub data TableRun : List ℕ → TableState → TableState → Type 0 where
  TableDone : (w : TableState) → TableRun [] w w
  TableNext : (s : ℕ) (rest : List ℕ) (w u v : TableState) → TableStep s w u → TableRun rest u v → TableRun (s ∷ rest) w v
