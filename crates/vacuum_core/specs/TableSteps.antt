-- what a step of a vacuum is in its table
use Rattle.std.specs.Prelude.{◌≡◌, ◌≢◌, ◌⊎◌, ℕ, zero, suc, ◌+◌, Bool, true, false, IsTrue, length, Option, Some, None}
use Rattle.block_model.specs.declared.place.Spot.{Spot}
use Rattle.block_model.specs.declared.reply.Point.{Point}
use Rattle.block_model.specs.declared.row.Row.{Row}
use Rattle.page_locks.specs.declared.did.Did.{Did}
use Rattle.page_locks.specs.declared.did.Did.TheVariants as did
use Rattle.page_locks.specs.RightHolders.{right_of}
use Rattle.coverage.specs.Accounts.{Account, no_account}
use Rattle.coverage.specs.InOneIndex.{DoesAt, with_unnamed}
use Rattle.coverage.specs.Machines.{IsFewer, ShownTable, Unseen, table_state, task_turned}
use Rattle.coverage.specs.Table.{Prunes, Restarts, Resting, Sweeps, Task}
use Rattle.coverage.specs.TableCovered.{IsTableKept}
use Rattle.coverage.specs.TablePoints.{PageLock, SummariseLock, WaitedFor, waits_for}
use Rattle.coverage.specs.TableSteps.{HasPut, IsBlocked, SeesPlace, Settles}
use Rattle.index_steps.specs.ShownRows.{shown_by}
use Rattle.vacuum_core.specs.declared.standing.Standing.{Standing}
use Rattle.vacuum_core.specs.declared.standing.Standing.TheVariants as standings
use Rattle.vacuum_core.specs.Vacuums.{VacuumState, VacuumStep}

-- once all is swept a vacuum of so many indexes is before the first one, and goes on with its summaries; with none it has replied
abbrev pub task_done : (count : ℕ) → Task
task_done zero = Resting
task_done (suc n) = Restarts 0

-- and it holds the summarise lock until it replies
abbrev pub held_done : (s count : ℕ) → Option ℕ
held_done s zero = None
held_done s (suc n) = Some s

-- What the vacuum is at: nothing before its first step; else its block or page.
abbrev pub task_at : VacuumState → Standing → Task
task_at a standings.Begins = Resting
task_at a (standings.Prunes block) = Prunes a.extent block
task_at a (standings.Sweeps at block) = Sweeps at block
task_at a standings.Done = task_done (length a.indexes)

abbrev pub task_of : VacuumState → Task
task_of a = task_at a a.standing

-- a vacuum begins with an empty account, and each later step adds the rows or the tuples that it dropped
abbrev pub account_by : Standing → (count : ℕ) → Account → Account
account_by standings.Begins count account = no_account
account_by (standings.Prunes block) count account = record account { rows = account.rows + count }
account_by (standings.Sweeps at block) count account = with_unnamed count account
account_by standings.Done count account = account

abbrev pub HasCounted : Standing → (a b : VacuumState) → (count : ℕ) → Type 0
HasCounted standings.Begins a b count = (b.rows ≡ 0) × (b.unnamed ≡ 0)
HasCounted (standings.Prunes block) a b count = (b.rows ≡ a.rows + count) × (b.unnamed ≡ a.unnamed)
HasCounted (standings.Sweeps at block) a b count = (b.rows ≡ a.rows) × (b.unnamed ≡ a.unnamed + count)
HasCounted standings.Done a b count = ⊥

-- what the pages and locks don't show, with the summarise lock held so
abbrev pub lock_turned : Option ℕ → Unseen → Unseen
lock_turned held u = record u { summarise_lock = held }

-- and with these tuples unnamed
abbrev pub unnamed_turned : (ℕ → Spot → Bool) → Unseen → Unseen
unnamed_turned unnamed u = record u { unnamed = unnamed }

-- a row stood there, and none does now
abbrev pub has_gone : Option Row → Option Row → Bool
has_gone None after = false
has_gone (Some r) None = true
has_gone (Some r) (Some q) = false

-- no scan of another session sees a row that has gone, and no insert that is running has put it
abbrev pub IsSpared : (s : ℕ) → (old new : ShownTable) → Unseen → Type 0
IsSpared s old new u = (n b k : ℕ) → n ≢ s → IsTrue (has_gone (old.row b k) (new.row b k)) → HasPut b k (u.task n) ⊎ SeesPlace b k (u.task n) → ⊥

-- Whatever pages and locks don't show, with the summarise lock held so and the rows that have gone spared by others, this is a step of the
-- table: the session comes from one task to the other, under this point, with this made of its account; and it holds the summarise lock
-- until it replies. Tuples that were unnamed at the opening may be dropped.
abbrev pub VacuumGoesTo : (s : ℕ) → (old new : ShownTable) → (held held_then : Option ℕ) → (before after : Task) → Point → (Account → Account) → Type 0
VacuumGoesTo s old new held held_then before after point account = (u : Unseen) → u.task s ≡ before → u.summarise_lock ≡ held → IsTableKept (table_state old u) → IsSpared s old new u
    → (unnamed : ℕ → Spot → Bool) × IsFewer u.unnamed unnamed × (between : Task)
    × DoesAt s (table_state old u) (table_state new (lock_turned (Some s) (task_turned s between (unnamed_turned unnamed u)))) point account
    × Settles s (table_state new (lock_turned (Some s) (task_turned s between (unnamed_turned unnamed u))))
    (table_state new (lock_turned held_then (task_turned s after (unnamed_turned unnamed u))))

-- it waits, for this
abbrev pub VacuumWaitsFor : (s : ℕ) → ShownTable → (held : Option ℕ) → Task → WaitedFor → Type 0
VacuumWaitsFor s shown held task what = (u : Unseen) → u.task s ≡ task → u.summarise_lock ≡ held → IsTableKept (table_state shown u)
    → (blocked : IsBlocked (table_state shown u) s task) × (waits_for (table_state shown u) s task blocked ≡ what)

-- at a page it waits for that page's lock
abbrev pub waits_at : Standing → (page : ℕ) → WaitedFor
waits_at (standings.Sweeps at block) page = PageLock at page
waits_at standing page = SummariseLock

-- with its first step the session is at the first of so many blocks, before it is judged where it goes on
abbrev pub IsFirstWithin : Standing → (blocks : ℕ) → (within : Task) → Type 0
IsFirstWithin standings.Begins blocks within = within ≡ Prunes blocks 0
IsFirstWithin standing blocks within = Unit {0}

-- so is this step of the table, and its first one begins there
abbrev pub VacuumGoes : (s : ℕ) → (old new : ShownTable) → (held held_then : Option ℕ) → (before after : Task) → Point → (Account → Account) → Standing → Type 0
VacuumGoes s old new held held_then before after point account standing = (goes : VacuumGoesTo s old new held held_then before after point account)
    × ((u : Unseen) (was : u.task s ≡ before) (lock : u.summarise_lock ≡ held) (kept : IsTableKept (table_state old u)) (spared : IsSpared s old new u) → IsFirstWithin standing old.blocks (goes u was lock kept spared).2)

-- A step that goes on, or was the last one, counts what it drops, and the first one begins with its statement's work; one that waits tells for what.
abbrev pub VacuumDid : (s : ℕ) → (old new : ShownTable) → (held : Option ℕ) → (a b : VacuumState) → Did → Type 0
VacuumDid s old new held a b (did.Moved point) = (count : ℕ) × HasCounted a.standing a b count
    × VacuumGoes s old new held (Some s) (task_of a) (task_of b) point (account_by a.standing count) a.standing
VacuumDid s old new held a b (did.Finished point) = (count : ℕ) × HasCounted a.standing a b count
    × VacuumGoes s old new held (held_done s (length a.indexes)) (task_of a) (task_of b) point (account_by a.standing count) a.standing
VacuumDid s old new held a b (did.Blocked waited) = VacuumWaitsFor s old held (task_of a) (waits_at a.standing waited.page.block) × (b ≡ a)
VacuumDid s old new held a b (did.NoRight by) = VacuumWaitsFor s old held (task_of a) SummariseLock × (held ≡ Some by) × (by ≢ s) × (b ≡ a)

-- what the pages and locks of its table show before a step, and after it
abbrev pub shown_before : VacuumStep → (table : ℕ) → ShownTable
shown_before step table = shown_by step.layout step.pages step.locks table step.blocks

abbrev pub shown_after : VacuumStep → (table : ℕ) → ShownTable
shown_after step table = shown_by step.layout step.paged step.locks table step.blocked

-- so it is of the vacuum's table, whose pages and locks they are
abbrev pub DoesInTable : VacuumStep → (a b : VacuumState) → Did → Type 0
DoesInTable step a b answer = VacuumDid step.actor (shown_before step a.table) (shown_after step a.table) (right_of step.rights a.table) a b answer
