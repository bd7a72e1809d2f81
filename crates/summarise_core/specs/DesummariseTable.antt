-- what a step of a desummarise is in the table of its index
use Rattle.std.specs.Prelude.{◌≡◌, ◌≢◌, ℕ, ◌+◌, Option, Some, None}
use Rattle.block_model.specs.declared.reply.Point.{Point}
use Rattle.store_layout.specs.DiskLayout.{DiskLayout}
use Rattle.page_locks.specs.declared.did.Did.{Did}
use Rattle.page_locks.specs.declared.did.Did.TheVariants as did
use Rattle.page_locks.specs.LockHolders.{holder}
use Rattle.page_locks.specs.RightHolders.{right_of}
use Rattle.coverage.specs.Accounts.{Account, no_account}
use Rattle.coverage.specs.InOneIndex.{DoesAt, with_ranges}
use Rattle.coverage.specs.Machines.{ShownTable, Unseen, table_state, task_turned}
use Rattle.coverage.specs.Table.{Considers, Desummarising, Maintains, Resting, Task}
use Rattle.coverage.specs.TableCovered.{IsTableKept}
use Rattle.coverage.specs.TablePoints.{PageLock, SummariseLock, WaitedFor, waits_for}
use Rattle.coverage.specs.TableSteps.{IsBlocked, Settles}
use Rattle.index_contents.specs.IndexContents.{contents, relation_of}
use Rattle.index_steps.specs.ShownRows.{shown_by}
use Rattle.index_steps.specs.SwapAnswers.{LeavesLocks}
use Rattle.summarise_core.specs.declared.desummarise_stage.Stage.{Stage}
use Rattle.summarise_core.specs.declared.desummarise_stage.Stage.TheVariants as stages
use Rattle.summarise_core.specs.Desummarises.{DesummariseState, StoreStep, count_at, phase_at, range_of, table_of}

-- What the desummarise is at, with its index at that place among the table's: its range; or nothing, before its first step and once it is done.
abbrev pub task_at : (at range : ℕ) → Stage → Task
task_at at range stages.Right = Resting
task_at at range stages.Lacked = Resting
task_at at range stages.Cleared = Resting
task_at at range stage = Maintains (Desummarising range) at range (phase_at stage)

abbrev pub task_of : DiskLayout → (at : ℕ) → DesummariseState → Task
task_of layout at a = task_at at (range_of layout a) a.stage

-- a statement begins with an empty account, and each later step adds the range that it counts
abbrev pub account_by : Stage → (count : ℕ) → Account → Account
account_by stages.Right count account = no_account
account_by stage count account = with_ranges count account

-- what the pages and locks don't show, with the summarise lock held so
abbrev pub lock_turned : Option ℕ → Unseen → Unseen
lock_turned held u = record u { summarise_lock = held }

-- Whatever pages and locks don't show, and with the summarise lock held so, this is a step of the table: the session comes from one task to
-- the other, under this point, with this made of its account; and it holds the summarise lock until it replies.
abbrev pub DesummariseGoesTo : (s : ℕ) → (old new : ShownTable) → (held held_then : Option ℕ) → (before after : Task) → Point → (Account → Account) → Type 0
DesummariseGoesTo s old new held held_then before after point account = (u : Unseen) → u.task s ≡ before → u.summarise_lock ≡ held → IsTableKept (table_state old u)
    → (between : Task) × DoesAt s (table_state old u) (table_state new (lock_turned (Some s) (task_turned s between u))) point account
    × Settles s (table_state new (lock_turned (Some s) (task_turned s between u))) (table_state new (lock_turned held_then (task_turned s after u)))

-- it waits, for this
abbrev pub DesummariseWaitsFor : (s : ℕ) → ShownTable → (held : Option ℕ) → Task → WaitedFor → Type 0
DesummariseWaitsFor s shown held task what = (u : Unseen) → u.task s ≡ task → u.summarise_lock ≡ held → IsTableKept (table_state shown u)
    → (blocked : IsBlocked (table_state shown u) s task) × (waits_for (table_state shown u) s task blocked ≡ what)

-- with the first step nothing is counted, and each later one adds what it counts
abbrev pub HasCounted : (before after : Stage) → (count : ℕ) → Type 0
HasCounted stages.Right after count = count_at after ≡ 0
HasCounted before after count = count_at after ≡ count_at before + count

-- what its statement begins with, before it is judged where it goes on: the work at its range
abbrev pub first_task : DiskLayout → (at : ℕ) → DesummariseState → Task
first_task layout at a = Considers (Desummarising (range_of layout a)) at (range_of layout a)

-- with its first step the session is at that, before it is judged where it goes on
abbrev pub IsFirstWithin : Stage → (first within : Task) → Type 0
IsFirstWithin stages.Right first within = within ≡ first
IsFirstWithin stage first within = Unit {0}

-- so is this step of the table, and its first one begins with that
abbrev pub DesummariseGoes : (s : ℕ) → (old new : ShownTable) → (held held_then : Option ℕ) → (before after : Task) → Point → (Account → Account) → Stage → (first : Task) → Type 0
DesummariseGoes s old new held held_then before after point account stage first = (goes : DesummariseGoesTo s old new held held_then before after point account)
    × ((u : Unseen) (was : u.task s ≡ before) (lock : u.summarise_lock ≡ held) (kept : IsTableKept (table_state old u)) → IsFirstWithin stage first (goes u was lock kept).0)

-- A step that goes on, or replies, counts the range where it takes out its entry, and the first one begins with its statement's work; one that
-- waits tells for what.
abbrev pub DesummariseDid : (s at : ℕ) → (old new : ShownTable) → (held : Option ℕ) → DiskLayout → (a b : DesummariseState) → Did → Type 0
DesummariseDid s at old new held layout a b (did.Moved point) = (count : ℕ) × HasCounted a.stage b.stage count
    × DesummariseGoes s old new held (Some s) (task_of layout at a) (task_of layout at b) point (account_by a.stage count) a.stage (first_task layout at a)
DesummariseDid s at old new held layout a b (did.Finished point) = (count : ℕ) × HasCounted a.stage b.stage count
    × DesummariseGoes s old new held None (task_of layout at a) (task_of layout at b) point (account_by a.stage count) a.stage (first_task layout at a)
DesummariseDid s at old new held layout a b (did.Blocked waited) =
    DesummariseWaitsFor s old held (task_of layout at a) (PageLock at waited.page.block) × (b ≡ a)
DesummariseDid s at old new held layout a b (did.NoRight by) =
    DesummariseWaitsFor s old held (task_of layout at a) SummariseLock × (held ≡ Some by) × (by ≢ s) × (b ≡ a)

-- a step leaves the other indexes, and the locks of other relations but for the actor's own
pub record LeavesTheRest (step : StoreStep) (index : ℕ) : Type 0 where
  pub others : (other : ℕ) → other ≢ index → contents step.layout step.paged other ≡ contents step.layout step.pages other
  pub locks : LeavesLocks (holder step.locks) (holder step.locked) (relation_of step.layout index) step.actor

-- what the pages and locks of the table show before a step, and after it; and who holds its summarise lock before
abbrev pub shown_before : StoreStep → (table : ℕ) → ShownTable
shown_before step table = shown_by step.layout step.pages step.locks table step.blocks

abbrev pub shown_after : StoreStep → (table : ℕ) → ShownTable
shown_after step table = shown_by step.layout step.paged step.locked table step.blocks

-- so it is of the table of its index, whose pages and locks they are
abbrev pub DoesInTable : StoreStep → (at : ℕ) → (a b : DesummariseState) → Did → Type 0
DoesInTable step at a b answer =
    DesummariseDid step.actor at (shown_before step (table_of step.layout a.index)) (shown_after step (table_of step.layout a.index))
    (right_of step.rights (table_of step.layout a.index)) step.layout a b answer
