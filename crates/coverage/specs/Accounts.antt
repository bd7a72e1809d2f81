-- What the replies of a table's statements will tell, and the queue of the summaries that inserts ask for.
use Rattle.std.specs.Prelude.{◌≡◌, ◌≢◌, ◌⊎◌, ℕ, ◌+◌, ◌≤◌, ◌<◌, Option, None, Some, List, [], ◌∷◌, ◌++◌, length}
use Rattle.block_model.specs.declared.place.Spot.{Spot}
use Rattle.coverage.specs.IndexView.{IndexView}
use Rattle.coverage.specs.Statements.{Phase, Statement, Maintaining, Holding}
use Rattle.coverage.specs.Counts.{AreRowsGone, AreTuplesGone, summarise_count, desummarise_count}
use Rattle.coverage.specs.Table.{Job, EachRange, OneRange, WholeRanges, Desummarising, Task, TableState, index_view_at}
use Rattle.coverage.specs.TableSteps.{range_in, BeginsWith, Summarize, SummarizeOne, Work, Desummarize, Vacuum, JobStep, Does, PutsRow, RefusesRow}
use Rattle.coverage.specs.TableSteps.{AsksSummary, InsertGoes, InsertCompletes, RefusesInsert, TakesLock, MaintainGoes, MaintainCompletes}
use Rattle.coverage.specs.TableSteps.{RefusesMaintain, RefusesVacuum, PrunesBlock, SweepsPage, RestartsIndex, BeginsScan, Judges, ReadsBlock, RefusesScan}
use Rattle.coverage.specs.TableSteps.{MarksRow, Conflicts, Blocked, Transacts, TableStep}

-- a summary that is asked for: of a table, by its number; of an index of it; and of a range
pub record Asked : Type 0 where
  pub table : ℕ
  pub at : ℕ
  pub range : ℕ

abbrev pub queue_limit : ℕ
queue_limit = 64

-- What a statement has to tell so far: the rows that it dropped, and the unnamed tuples; the ranges that it gave a final tuple, or took
-- the entry from; and the summaries that it asked for in vain, since the queue was full.
pub record Account : Type 0 where
  pub rows : ℕ
  pub unnamed : ℕ
  pub ranges : ℕ
  pub dropped : List Asked

abbrev pub no_account : Account
no_account = record { rows = 0; unnamed = 0; ranges = 0; dropped = [] }

-- the number of the table, the queue of all tables, and each session's account
pub record Accounts : Type 0 where
  pub table : ℕ
  pub queue : List Asked
  pub of : ℕ → Account

-- how many ranges a step of this kind of statement counts
abbrev pub job_count : (job : Job) (s range : ℕ) (w v : IndexView) (old : Phase) (new : Statement) → JobStep job s range w v old new → ℕ
job_count (EachRange extent) s range w v old new step = summarise_count step
job_count (OneRange extent only) s range w v old new step = summarise_count step
job_count (WholeRanges extent) s range w v old new step = summarise_count step
job_count (Desummarising only) s range w v old new step = desummarise_count step

-- the session's account becomes this one, and the queue stays
pub record AccountIs (s : ℕ) (a b : Accounts) (now : Account) : Type 0 where
  pub account : b.of s ≡ now
  pub queue : b.queue ≡ a.queue

-- An insert asks for the summary of a range, unless that has an entry. It joins the queue, also where it is there already; or the queue
-- is full, and the insert keeps what it asked for in vain.
pub data Asking (s : ℕ) (a b : Accounts) (asked : Asked) : Option Spot → Type 0 where
  HasEntry : (x : Spot) → AccountIs s a b (a.of s) → Asking s a b asked (Some x)
  Joins : length a.queue < queue_limit → b.queue ≡ a.queue ++ (asked ∷ []) → b.of s ≡ a.of s → Asking s a b asked None
  IsDropped : queue_limit ≤ length a.queue → AccountIs s a b (record (a.of s) { dropped = (a.of s).dropped ++ (asked ∷ []) }) → Asking s a b asked None

-- a statement begins: work takes the first of the queue, which is its range; any other leaves the queue
abbrev pub Begins : (s : ℕ) (w : TableState) (first : Task) → BeginsWith w first → (a b : Accounts) → Type 0
Begins s w _ (Work at only below) a b = (b.of s ≡ no_account) × (a.queue ≡ record { table = a.table; at = at; range = only } ∷ b.queue)
Begins s w _ (Summarize at below) a b = AccountIs s a b no_account
Begins s w _ (SummarizeOne at only below) a b = AccountIs s a b no_account
Begins s w _ (Desummarize at only below) a b = AccountIs s a b no_account
Begins s w _ Vacuum a b = AccountIs s a b no_account

-- a statement of another table asks, or work takes the first of the queue there
pub data AsksElsewhere (a b : Accounts) : Type 0 where
  QueueStays : b.queue ≡ a.queue → AsksElsewhere a b
  JoinsElsewhere : (asked : Asked) → asked.table ≢ a.table → length a.queue < queue_limit → b.queue ≡ a.queue ++ (asked ∷ []) → AsksElsewhere a b
  TakenElsewhere : (asked : Asked) → asked.table ≢ a.table → a.queue ≡ asked ∷ b.queue → AsksElsewhere a b

-- What a step adds to the account of its session, and does to the queue; an insert asks for the range before that of its row.
abbrev pub Adds : (s : ℕ) (w v : TableState) → Does s w v → (a b : Accounts) → Type 0
Adds s w v (PutsRow b k r place turns takes) a c = AccountIs s a c no_account
Adds s w v (RefusesRow t refused turns fails) a c = AccountIs s a c no_account
Adds s w v (AsksSummary b k r at turns only) a c = (before : ℕ) × (range_in w at b ≡ before + 1)
    × Asking s a c (record { table = a.table; at = at; range = before }) ((w.index at).entry before)
Adds s w v (InsertGoes b k r at old new turns stepped step) a c = AccountIs s a c (a.of s)
Adds s w v (InsertCompletes b k r at old turns stepped step) a c = AccountIs s a c (a.of s)
Adds s w v (RefusesInsert b k r old refused turns fails) a c = AccountIs s a c (a.of s)
Adds s w v (TakesLock first begins turns free held rows indexes) a c = Begins s w first begins a c
Adds s w v (MaintainGoes job at range old new turns stepped step) a c = AccountIs s a c (record (a.of s) {
  ranges = (a.of s).ranges + job_count job s range (index_view_at at w) (index_view_at at v) old (Maintaining range new) step;
})
Adds s w v (MaintainCompletes job at range old turns stepped step) a c = AccountIs s a c (record (a.of s) {
  ranges = (a.of s).ranges + job_count job s range (index_view_at at w) (index_view_at at v) old Holding step;
})
Adds s w v (RefusesMaintain job at range phase refused turns stepped passes) a c = AccountIs s a c (a.of s)
Adds s w v (RefusesVacuum old vacuuming turns given rows indexes) a c = AccountIs s a c (a.of s)
Adds s w v (PrunesBlock extent next dropped inside spared turns drops) a c =
    (n : ℕ) × AreRowsGone w.row v.row next n × AccountIs s a c (record (a.of s) { rows = (a.of s).rows + n })
Adds s w v (SweepsPage at page turns stepped sweeps) a c =
    (n : ℕ) × AreTuplesGone (w.index at).tuple (v.index at).tuple page n × AccountIs s a c (record (a.of s) { unnamed = (a.of s).unnamed + n })
Adds s w v (RestartsIndex at turns only) a c = AccountIs s a c (a.of s)
Adds s w v (BeginsScan scan begins turns only) a c = AccountIs s a c no_account
Adds s w v (Judges old new inside low step turns only) a c = AccountIs s a c (a.of s)
Adds s w v (ReadsBlock scan next found reads turns only) a c = AccountIs s a c (a.of s)
Adds s w v (RefusesScan scan t turns how) a c = AccountIs s a c (a.of s)
Adds s w v (MarksRow scan id rest turns only) a c = AccountIs s a c (a.of s)
Adds s w v (Conflicts scan id rest t turns fails) a c = AccountIs s a c (a.of s)
Adds s w v (Blocked task blocked turns only) a c = AccountIs s a c (a.of s)
Adds s w v (Transacts counts resting few same) a c = AsksElsewhere a c

-- what a step of session s does to the accounts of the table
pub record AccountsStep (s : ℕ) (w v : TableState) (does : Does s w v) (a b : Accounts) : Type 0 where
  pub table : b.table ≡ a.table
  pub others : (n : ℕ) → (n ≡ s) ⊎ (b.of n ≡ a.of n)
  pub adds : Adds s w v does a b

-- these sessions step, one after the other, with what that does to the accounts
pub data AccountsRun : List ℕ → (w v : TableState) → (a b : Accounts) → Type 0 where
  AccountsDone : (w : TableState) (a : Accounts) → AccountsRun [] w w a a
  AccountsNext : (s : ℕ) (rest : List ℕ) (w u v : TableState) (a b c : Accounts) (step : TableStep s w u) → AccountsStep s w step.between step.does a b
      → AccountsRun rest u v b c → AccountsRun (s ∷ rest) w v a c
