-- What the pages and page locks of a table show, what of its state they don't, and what a step of a machine over them is.
use Rattle.std.specs.Prelude.{◌≡◌, ◌⊎◌, ◌<◌, ℕ, Bool, IsTrue, Option}
use Rattle.block_model.specs.declared.row.Row.{Row}
use Rattle.block_model.specs.declared.place.Spot.{Spot}
use Rattle.coverage.specs.IndexView.{IndexTuple, Contents, Pages}
use Rattle.coverage.specs.Statements.{OnIndex, Phase, Inserting, Maintaining}
use Rattle.coverage.specs.Steps.{InsertStep}
use Rattle.coverage.specs.Table.{Job, TableScan, Task, Resting, Inserts, Maintains, Scans, TableState, pick, index_view_at}
use Rattle.coverage.specs.TableSteps.{JobStep, Does, Onward, IsMaintained, IsBlocked, TableStep}
use Rattle.coverage.specs.TableCovered.{IsTableKept}

-- what an index's layout, pages and page locks show
pub record ShownIndex : Type 0 where
  pub contents : Contents
  pub pages_per_range : ℕ
  pub autosummarize : Bool
  pub entry : ℕ → Option Spot
  pub tuple : Spot → Option IndexTuple
  pub pages : Pages
  pub lock : ℕ → Option ℕ

-- what a table's layout, its heap's pages and its indexes show
pub record ShownTable : Type 0 where
  pub indexes : ℕ
  pub index : ℕ → ShownIndex
  pub rows_per_page : ℕ
  pub heap_limit : ℕ
  pub blocks : ℕ
  pub row : ℕ → ℕ → Option Row

-- what a machine doesn't see: who holds the summarise lock, what all sessions are at, whose rows count, and which tuples were
-- unnamed at the opening
pub record Unseen : Type 0 where
  pub summarise_lock : Option ℕ
  pub task : ℕ → Task
  pub counts : ℕ → Bool
  pub unnamed : ℕ → Spot → Bool

-- the table of both
abbrev pub table_state : ShownTable → Unseen → TableState
table_state shown u = record {
  indexes = shown.indexes;
  index = λ i. record {
    contents = (shown.index i).contents;
    pages_per_range = (shown.index i).pages_per_range;
    autosummarize = (shown.index i).autosummarize;
    entry = (shown.index i).entry;
    tuple = (shown.index i).tuple;
    pages = (shown.index i).pages;
    lock = (shown.index i).lock;
    unnamed = u.unnamed i;
  };
  rows_per_page = shown.rows_per_page;
  heap_limit = shown.heap_limit;
  blocks = shown.blocks;
  row = shown.row;
  summarise_lock = u.summarise_lock;
  task = u.task;
  counts = u.counts;
}

-- the session's statement is at this task, and all else is as before
abbrev pub task_turned : ℕ → Task → Unseen → Unseen
task_turned s task u = record u { task = λ n. pick n s task (u.task n) }

-- a tuple that was unnamed at the opening may be dropped, and none joins them
abbrev pub IsFewer : (before after : ℕ → Spot → Bool) → Type 0
IsFewer before after = (i : ℕ) (x : Spot) → IsTrue (after i x) → IsTrue (before i x)

-- a machine of session s takes its statement from one task to another: whatever it doesn't see, that is a step of the table
abbrev pub MachineSteps : ℕ → (old new : ShownTable) → (before after : Task) → Type 0
MachineSteps s old new before after = (u : Unseen) → u.task s ≡ before → IsTableKept (table_state old u)
    → (unnamed : ℕ → Spot → Bool) × IsFewer u.unnamed unnamed
    × TableStep s (table_state old u) (table_state new (task_turned s after (record u { unnamed = unnamed })))

-- the last step of a maintenance statement's machine, after which its session gives the summarise lock and replies
abbrev pub MachineEnds : ℕ → (old new : ShownTable) → Task → Type 0
MachineEnds s old new before = (u : Unseen) → u.task s ≡ before → IsTableKept (table_state old u)
    → (last : Task) × Does s (table_state old u) (table_state new (task_turned s last u)) × IsMaintained (table_state new (task_turned s last u)) last

-- a blocked machine: the table's state says why
abbrev pub MachineWaits : ℕ → ShownTable → Task → Type 0
MachineWaits s shown task = (u : Unseen) → u.task s ≡ task → IsTableKept (table_state shown u) → IsBlocked (table_state shown u) s task

-- the last step of a scan's machine, after which its statement replies
abbrev pub ScanReplies : ℕ → (old new : ShownTable) → Task → TableScan → Type 0
ScanReplies s old new before scan = (u : Unseen) → u.task s ≡ before → IsTableKept (table_state old u)
    → Does s (table_state old u) (table_state new (task_turned s (Scans scan) u))
    × Onward (table_state new (task_turned s (Scans scan) u)) (Scans scan) Resting

-- the page locks are others
abbrev pub with_locks : (ℕ → ℕ → Option ℕ) → ShownTable → ShownTable
with_locks lock shown = record shown { index = λ i. record (shown.index i) { lock = lock i } }

-- a scan's machine, which sees no page locks and isn't told its session
abbrev pub ScanSteps : (old new : ShownTable) → (before after : Task) → Type 0
ScanSteps old new before after = (s : ℕ) (lock : ℕ → ℕ → Option ℕ) → MachineSteps s (with_locks lock old) (with_locks lock new) before after

-- one index changes alone
pub record ChangesIndex (at : ℕ) (old new : ShownTable) : Type 0 where
  pub below : at < old.indexes
  pub indexes : new.indexes ≡ old.indexes
  pub rows_per_page : new.rows_per_page ≡ old.rows_per_page
  pub heap_limit : new.heap_limit ≡ old.heap_limit
  pub blocks : new.blocks ≡ old.blocks
  pub row : (b k : ℕ) → new.row b k ≡ old.row b k
  pub others : (i : ℕ) → (i ≡ at) ⊎ (new.index i ≡ old.index i)
  pub autosummarize : (new.index at).autosummarize ≡ (old.index at).autosummarize

-- whatever an insert's machine doesn't see, its step in one index is one of the definitions
abbrev pub InsertStepsIn : (s b k : ℕ) → Row → (at : ℕ) → (old new : ShownTable) → (before after : OnIndex) → Type 0
InsertStepsIn s b k r at old new before after = (u : Unseen) → u.task s ≡ Inserts b k r at before → IsTableKept (table_state old u)
    → InsertStep s b k r (index_view_at at (table_state old u)) (index_view_at at (table_state new (task_turned s (Inserts b k r at after) u))) before
    (Inserting b k r after)

-- so is that of a maintenance statement, but for the unnamed tuples that it drops
abbrev pub MaintainStepsIn : (s : ℕ) → Job → (at range : ℕ) → (old new : ShownTable) → (before after : Phase) → Type 0
MaintainStepsIn s job at range old new before after = (u : Unseen) → u.task s ≡ Maintains job at range before → IsTableKept (table_state old u)
    → (unnamed : ℕ → Spot → Bool) × IsFewer u.unnamed unnamed × ((i : ℕ) → (i ≡ at) ⊎ (unnamed i ≡ u.unnamed i))
    × JobStep job s range (index_view_at at (table_state old u))
    (index_view_at at (table_state new (task_turned s (Maintains job at range after) (record u { unnamed = unnamed })))) before (Maintaining range after)
