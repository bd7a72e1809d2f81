-- what a step of a summarise is in the table of its index
use Rattle.std.specs.Prelude.{◌≡◌, ◌≢◌, ℕ, zero, suc, ◌+◌, ◌-◌, ◌/◌, Bool, Option, Some, None, length}
use Rattle.block_model.specs.declared.place.Spot.{Spot}
use Rattle.block_model.specs.declared.reply.Point.{Point}
use Rattle.store_layout.specs.DiskLayout.{DiskLayout}
use Rattle.page_locks.specs.declared.did.Did.{Did}
use Rattle.page_locks.specs.declared.did.Did.TheVariants as did
use Rattle.page_locks.specs.LockHolders.{holder}
use Rattle.page_locks.specs.RightHolders.{right_of}
use Rattle.coverage.specs.Accounts.{Account, no_account}
use Rattle.coverage.specs.InOneIndex.{DoesAt, with_ranges}
use Rattle.coverage.specs.Machines.{IsFewer, ShownTable, Unseen, table_state, task_turned}
use Rattle.coverage.specs.Refusals.{IsTaskFull}
use Rattle.coverage.specs.Table.{Considers, EachRange, Job, Maintains, OneRange, Restarts, Resting, Task, WholeRanges}
use Rattle.coverage.specs.TableCovered.{IsTableKept}
use Rattle.coverage.specs.TablePoints.{PageLock, SummariseLock, WaitedFor, waits_for}
use Rattle.coverage.specs.TableSteps.{IsBlocked, Settles}
use Rattle.index_contents.specs.IndexContents.{contents, relation_of}
use Rattle.index_steps.specs.IndexTuples.{shape_of}
use Rattle.index_steps.specs.ShownRows.{shown_by}
use Rattle.index_steps.specs.ShownTable.{indexes_of}
use Rattle.index_steps.specs.SwapAnswers.{LeavesLocks}
use Rattle.summarise_core.specs.declared.course.Standing.{Standing}
use Rattle.summarise_core.specs.declared.course.Standing.TheVariants as standings
use Rattle.summarise_core.specs.declared.wish.Wish.{Wish}
use Rattle.summarise_core.specs.declared.wish.Wish.TheVariants as wishes
use Rattle.summarise_core.specs.SummariseHands.{table_of}
use Rattle.summarise_core.specs.SummariseSteps.{phase_of}
use Rattle.summarise_core.specs.Summarises.{StoreStep, SummariseState, count_of, first_of, in_range_of}

-- the ranges that are asked for, as a maintenance statement's
abbrev pub job_of : Wish → (in_range extent : ℕ) → Job
job_of wishes.New in_range extent = EachRange extent
job_of (wishes.Block block) in_range extent = OneRange extent (block / in_range)
job_of wishes.Complete in_range extent = WholeRanges extent

-- Before its first step its session is at nothing; a vacuum's is before the index.
abbrev pub before_first : Wish → (at : ℕ) → Task
before_first wishes.Complete at = Restarts at
before_first wish at = Resting

-- so many indexes of the table come behind its own
abbrev pub indexes_left : DiskLayout → (index at : ℕ) → ℕ
indexes_left layout index at = length (indexes_of layout (table_of layout index)) - (at + 1)

-- a vacuum comes before the next index, if there is one; else it replies, and gives the summarise lock
abbrev pub next_index : (at left : ℕ) → Task
next_index at zero = Resting
next_index at (suc left) = Restarts (suc at)

abbrev pub held_next : (s left : ℕ) → Option ℕ
held_next s zero = None
held_next s (suc left) = Some s

-- so does a vacuum's behind the last range; any other statement replies
abbrev pub behind_last : Wish → (at left : ℕ) → Task
behind_last wishes.Complete at left = next_index at left
behind_last wish at left = Resting

abbrev pub held_behind : Wish → (s left : ℕ) → Option ℕ
held_behind wishes.Complete s left = held_next s left
held_behind wish s left = None

-- What the summarise is at, with its index at that place among the table's: its range; or what its session is at before its first step, and
-- behind its last range.
abbrev pub task_at : DiskLayout → (at : ℕ) → SummariseState → Standing → Task
task_at layout at a standings.Begins = before_first a.wish at
task_at layout at a standings.AtRange = Maintains (job_of a.wish (in_range_of layout a.index) a.extent) at a.range (phase_of (shape_of layout a.index) a.hand)
task_at layout at a standings.Done = behind_last a.wish at (indexes_left layout a.index at)

abbrev pub task_of : DiskLayout → (at : ℕ) → SummariseState → Task
task_of layout at a = task_at layout at a a.standing

-- a statement begins with an empty account, a vacuum with the one that it has at the index
abbrev pub account_first : Wish → Account → Account
account_first wishes.Complete account = account
account_first wish account = no_account

-- and each later step adds the ranges that it counts
abbrev pub account_by : Wish → Standing → (count : ℕ) → Account → Account
account_by wish standings.Begins count account = account_first wish account
account_by wish standing count account = with_ranges count account

-- with the first step nothing is counted, and each later one adds what it counts
abbrev pub HasCounted : Standing → (before count after : ℕ) → Type 0
HasCounted standings.Begins before count after = after ≡ 0
HasCounted standing before count after = after ≡ before + count

-- what the pages and locks don't show, with the summarise lock held so
abbrev pub lock_turned : Option ℕ → Unseen → Unseen
lock_turned held u = record u { summarise_lock = held }

-- and with these tuples unnamed
abbrev pub unnamed_turned : (ℕ → Spot → Bool) → Unseen → Unseen
unnamed_turned unnamed u = record u { unnamed = unnamed }

-- Whatever pages and locks don't show, and with the summarise lock held so, this is a step of the table: the session comes from one task to
-- the other, under this point, with this made of its account; and it holds the summarise lock until it replies. Tuples that were unnamed at
-- the opening may be dropped.
abbrev pub SummariseGoesTo : (s : ℕ) → (old new : ShownTable) → (held held_then : Option ℕ) → (before after : Task) → Point → (Account → Account) → Type 0
SummariseGoesTo s old new held held_then before after point account = (u : Unseen) → u.task s ≡ before → u.summarise_lock ≡ held → IsTableKept (table_state old u)
    → (unnamed : ℕ → Spot → Bool) × IsFewer u.unnamed unnamed × (between : Task)
    × DoesAt s (table_state old u) (table_state new (lock_turned (Some s) (task_turned s between (unnamed_turned unnamed u)))) point account
    × Settles s (table_state new (lock_turned (Some s) (task_turned s between (unnamed_turned unnamed u))))
    (table_state new (lock_turned held_then (task_turned s after (unnamed_turned unnamed u))))

-- it waits, for this
abbrev pub SummariseWaitsFor : (s : ℕ) → ShownTable → (held : Option ℕ) → Task → WaitedFor → Type 0
SummariseWaitsFor s shown held task what = (u : Unseen) → u.task s ≡ task → u.summarise_lock ≡ held → IsTableKept (table_state shown u)
    → (blocked : IsBlocked (table_state shown u) s task) × (waits_for (table_state shown u) s task blocked ≡ what)

-- no page of its index is left for the tuple that it has to put, of so many
abbrev pub IsSummariseFull : (s at : ℕ) → ShownTable → Task → (number : ℕ) → Type 0
IsSummariseFull s at shown task number = (u : Unseen) → u.task s ≡ task → IsTableKept (table_state shown u) → IsTaskFull (table_state shown u) s task at number

-- What its statement begins with, before it is judged where it goes on: the work over so many blocks of the table, at the first range that it
-- looks at.
abbrev pub first_task : DiskLayout → (at extent : ℕ) → SummariseState → Task
first_task layout at extent a = Considers (job_of a.wish (in_range_of layout a.index) extent) at (first_of a.wish (in_range_of layout a.index))

-- with its first step the session is at that, before it is judged where it goes on
abbrev pub IsFirstWithin : Standing → (first within : Task) → Type 0
IsFirstWithin standings.Begins first within = within ≡ first
IsFirstWithin standing first within = Unit {0}

-- so is this step of the table, and its first one begins with that
abbrev pub SummariseGoes : (s : ℕ) → (old new : ShownTable) → (held held_then : Option ℕ) → (before after : Task) → Point → (Account → Account) → Standing → (first : Task) → Type 0
SummariseGoes s old new held held_then before after point account standing first = (goes : SummariseGoesTo s old new held held_then before after point account)
    × ((u : Unseen) (was : u.task s ≡ before) (lock : u.summarise_lock ≡ held) (kept : IsTableKept (table_state old u)) → IsFirstWithin standing first (goes u was lock kept).2)

-- A step that goes on, or replies, counts the ranges that it gives a final tuple, and the first one begins with its statement's work; one that
-- waits tells for what.
abbrev pub SummariseDid : (s at : ℕ) → (old new : ShownTable) → (held : Option ℕ) → DiskLayout → (a b : SummariseState) → Did → Type 0
SummariseDid s at old new held layout a b (did.Moved point) = (count : ℕ) × HasCounted a.standing (count_of a) count (count_of b)
    × SummariseGoes s old new held (Some s) (task_of layout at a) (task_of layout at b) point (account_by a.wish a.standing count) a.standing (first_task layout at old.blocks a)
SummariseDid s at old new held layout a b (did.Finished point) = (count : ℕ) × HasCounted a.standing (count_of a) count (count_of b)
    × SummariseGoes s old new held (held_behind a.wish s (indexes_left layout a.index at)) (task_of layout at a) (task_of layout at b) point
    (account_by a.wish a.standing count) a.standing (first_task layout at old.blocks a)
SummariseDid s at old new held layout a b (did.Blocked waited) =
    SummariseWaitsFor s old held (task_of layout at a) (PageLock at waited.page.block) × (task_of layout at b ≡ task_of layout at a)
SummariseDid s at old new held layout a b (did.NoRight by) =
    SummariseWaitsFor s old held (task_of layout at a) SummariseLock × (held ≡ Some by) × (by ≢ s) × (b ≡ a)

-- a step leaves the other indexes, and the locks of other relations but for the actor's own
pub record LeavesTheRest (step : StoreStep) (index : ℕ) : Type 0 where
  pub others : (other : ℕ) → other ≢ index → contents step.layout step.paged other ≡ contents step.layout step.pages other
  pub locks : LeavesLocks (holder step.locks) (holder step.locked) (relation_of step.layout index) step.actor

-- what the pages and locks of the table show before a step, and after it; and who holds its summarise lock before
abbrev pub shown_before : StoreStep → (table : ℕ) → ShownTable
shown_before step table = shown_by step.layout step.pages step.locks table step.blocks

abbrev pub shown_after : StoreStep → (table : ℕ) → ShownTable
shown_after step table = shown_by step.layout step.paged step.locked table step.blocks

-- so it is of the table of its index, whose pages and locks they are
abbrev pub DoesInTable : StoreStep → (at : ℕ) → (a b : SummariseState) → Did → Type 0
DoesInTable step at a b answer =
    SummariseDid step.actor at (shown_before step (table_of step.layout a.index)) (shown_after step (table_of step.layout a.index))
    (right_of step.rights (table_of step.layout a.index)) step.layout a b answer
