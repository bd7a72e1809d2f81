-- One step of the statement in hand on its table, and what else it leaves.
use Rattle.std.specs.Prelude.{◌≡◌, ◌≢◌, ◌⊎◌, ◌↔◌, ℕ, Bool, IsTrue, List, Option, Some}
use Rattle.block_model.specs.declared.reply.Point.{Point}
use Rattle.block_model.specs.declared.request.Entry.{Entry}
use Rattle.block_model.specs.declared.row.Row.{Row}
use Rattle.store_layout.specs.declared.statement.Statement.{Statement}
use Rattle.coverage.specs.Accounts.{AccountsStep}
use Rattle.coverage.specs.Refusals as causes
use Rattle.coverage.specs.Refusals.{does_refusal}
use Rattle.coverage.specs.Table.{Task, Resting, TableState}
use Rattle.coverage.specs.TablePoints.{does_point}
use Rattle.coverage.specs.TableSteps.{Does, PrunesBlock, TableStep}
use Rattle.script_semantics.specs.Place.{Hand, Place, accounts_at}
use Rattle.script_semantics.specs.Beginnings.{IsIn, Begins, TakesUp}
use Rattle.script_semantics.specs.DeadRows.{IsDead}

-- which rows count may change with the transactions, and nothing else
abbrev pub Recounts : TableState → TableState → Type 0
Recounts w v = (counts : ℕ → Bool) × (v ≡ record w { counts = counts })

-- a block is pruned of exactly its rows that are dead to all
abbrev pub PrunesTheDead : Place → {s : ℕ} {w v : TableState} → Does s w v → Type 0
PrunesTheDead p {s} {w} (PrunesBlock extent next dropped inside spared turns drops) =
    (k : ℕ) → IsTrue (dropped next k) ↔ ((r : Row) × (w.row next k ≡ Some r) × IsDead p r.id)
PrunesTheDead p does = Unit {0}

-- A step of session n's statement on its table, which is its own: a further one, or its first one. The other tables stay.
pub record Turn (p : Place) (n : ℕ) (statement : Statement) (q : Place) : Type 0 where
  pub table : ℕ
  pub on : IsIn p n statement table
  pub step : TableStep n (p.tables table) (q.tables table)
  pub own : ((p.tables table).task n ≢ Resting) ⊎ Begins p n (p.tables table) statement (step.between.task n)
  pub dead : PrunesTheDead p step.does
  pub accounts : AccountsStep n (p.tables table) step.between step.does (accounts_at p table) (accounts_at q table)
  pub takes : TakesUp statement ((p.tables table).task n) p.queue q.queue
  pub others : (i : ℕ) → (i ≡ table) ⊎ Recounts (p.tables i) (q.tables i)

-- the name of the step, and why it refuses its statement
abbrev pub point_of : {p q : Place} {n : ℕ} {statement : Statement} → Turn p n statement q → Option Point
point_of {p} {q} {n} turn = does_point n (p.tables turn.table) turn.step.between turn.step.does

abbrev pub refusal_of : {p q : Place} {n : ℕ} {statement : Statement} → Turn p n statement q → Option causes.Refusal
refusal_of {p} {q} {n} turn = does_refusal n (p.tables turn.table) turn.step.between turn.step.does

-- what the statement is at when its step has done its work
abbrev pub task_within : {p q : Place} {n : ℕ} {statement : Statement} → Turn p n statement q → Task
task_within {p} {q} {n} turn = turn.step.between.task n

-- no statement of a table takes a step
pub record TablesStay (p q : Place) : Type 0 where
  pub tables : (i : ℕ) → Recounts (p.tables i) (q.tables i)
  pub accounts : q.accounts ≡ p.accounts
  pub queue : q.queue ≡ p.queue

-- nothing else of a place changes than what session n has in hand, the journal, the tables and what their statements have to tell
pub record Leads (p : Place) (n : ℕ) (now : Option Hand) (entries : List Entry) (q : Place) : Type 0 where
  pub layout : q.layout ≡ p.layout
  pub opening : q.opening ≡ p.opening
  pub names : q.names ≡ p.names
  pub hand : q.hands n ≡ now
  pub others : (m : ℕ) → (m ≡ n) ⊎ (q.hands m ≡ p.hands m)
  pub journal : q.journal ≡ entries
