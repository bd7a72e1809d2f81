-- What a step of a maintenance machine is in its table, in one form for all: a desummarise's, a summarise's, and those of both halves of a vacuum.
use Rattle.std.specs.Prelude.{◌≡◌, ◌≢◌, ℕ, Bool, Option, Some, None}
use Rattle.block_model.specs.declared.place.Spot.{Spot}
use Rattle.block_model.specs.declared.reply.Point.{Point}
use Rattle.page_locks.specs.declared.did.Did.{Did}
use Rattle.page_locks.specs.declared.did.Did.TheVariants as did
use Rattle.coverage.specs.Accounts.{Account}
use Rattle.coverage.specs.InOneIndex.{DoesAt}
use Rattle.coverage.specs.Machines.{IsFewer, ShownTable, Unseen, table_state, task_turned}
use Rattle.coverage.specs.Table.{Task}
use Rattle.coverage.specs.TableCovered.{IsTableKept}
use Rattle.coverage.specs.TablePoints.{SummariseLock, WaitedFor, waits_for}
use Rattle.coverage.specs.TableSteps.{IsBlocked, Settles}
pub use Rattle.vacuum_core.specs.TableSteps.{IsSpared, has_gone}

-- What the table sees of a machine at a moment: what its session is at; what its statement begins with, before its first step; which accounts tell what it
-- has counted; and what it waits for where the page of that block is locked.
pub record MachineView : Type 1 where
  pub task : Task
  pub first : Option Task
  pub tells : Account → Type 0
  pub waits : (block : ℕ) → WaitedFor

-- what the pages and locks don't show, with the summarise lock held so
abbrev pub lock_turned : Option ℕ → Unseen → Unseen
lock_turned held u = record u { summarise_lock = held }

-- and with these tuples unnamed
abbrev pub unnamed_turned : (ℕ → Spot → Bool) → Unseen → Unseen
unnamed_turned unnamed u = record u { unnamed = unnamed }

-- Whatever pages and locks don't show, with the summarise lock held so and the rows that have gone spared by others, this is a step of the table: the
-- session comes from one task to the other, under this point, with this made of its account; and it holds the summarise lock behind it so. Tuples
-- that were unnamed at the opening may be dropped.
abbrev pub GoesTo : (s : ℕ) → (old new : ShownTable) → (held held_then : Option ℕ) → (before after : Task) → Point → (Account → Account) → Type 0
GoesTo s old new held held_then before after point account = (u : Unseen) → u.task s ≡ before → u.summarise_lock ≡ held → IsTableKept (table_state old u) → IsSpared s old new u
    → (unnamed : ℕ → Spot → Bool) × IsFewer u.unnamed unnamed × (between : Task)
    × DoesAt s (table_state old u) (table_state new (lock_turned (Some s) (task_turned s between (unnamed_turned unnamed u)))) point account
    × Settles s (table_state new (lock_turned (Some s) (task_turned s between (unnamed_turned unnamed u))))
    (table_state new (lock_turned held_then (task_turned s after (unnamed_turned unnamed u))))

-- with its first step the session is at that, before it is judged where it goes on
abbrev pub IsFirstWithin : Option Task → (within : Task) → Type 0
IsFirstWithin None within = Unit {0}
IsFirstWithin (Some first) within = within ≡ first

-- so is this step of the table; its account tells what is counted then, and its first step begins with its statement's work
abbrev pub MachineGoes : (s : ℕ) → (old new : ShownTable) → (held held_then : Option ℕ) → (a b : MachineView) → Point → Type 0
MachineGoes s old new held held_then a b point = (account : Account → Account) × ((told : Account) → a.tells told → b.tells (account told))
    × (goes : GoesTo s old new held held_then a.task b.task point account)
    × ((u : Unseen) (was : u.task s ≡ a.task) (lock : u.summarise_lock ≡ held) (kept : IsTableKept (table_state old u)) (spared : IsSpared s old new u)
    → IsFirstWithin a.first (goes u was lock kept spared).2)

-- it waits, for this
abbrev pub MachineWaitsFor : (s : ℕ) → ShownTable → (held : Option ℕ) → Task → WaitedFor → Type 0
MachineWaitsFor s shown held task what = (u : Unseen) → u.task s ≡ task → u.summarise_lock ≡ held → IsTableKept (table_state shown u)
    → (blocked : IsBlocked (table_state shown u) s task) × (waits_for (table_state shown u) s task blocked ≡ what)

-- A step that goes on has the summarise lock, one that is done holds it so then; one that waits tells for what, and stays at its task.
abbrev pub MachineDid : (s : ℕ) → (old new : ShownTable) → (held held_done : Option ℕ) → (a b : MachineView) → Did → Type 0
MachineDid s old new held held_done a b (did.Moved point) = MachineGoes s old new held (Some s) a b point
MachineDid s old new held held_done a b (did.Finished point) = MachineGoes s old new held held_done a b point
MachineDid s old new held held_done a b (did.Blocked waited) = MachineWaitsFor s old held a.task (a.waits waited.page.block) × (b.task ≡ a.task)
MachineDid s old new held held_done a b (did.NoRight by) = MachineWaitsFor s old held a.task SummariseLock × (held ≡ Some by) × (by ≢ s) × (b.task ≡ a.task)
