-- the place to which a step of a session leads
use Rattle.std.specs.Prelude.{◌≢◌, ◌⊎◌, ℕ, ◌==◌, Bool, List, Option, None, if◌then◌else◌}
use Rattle.block_model.specs.declared.reply.Point.{Point}
use Rattle.block_model.specs.declared.request.Entry.{Entry}
use Rattle.store_layout.specs.declared.statement.Statement.{Statement}
use Rattle.coverage.specs.Accounts.{Account, AccountIs, Accounts, Adds, Asked}
use Rattle.coverage.specs.Refusals.{Refusal, does_refusal}
use Rattle.coverage.specs.Table.{Resting, TableState}
use Rattle.coverage.specs.TablePoints.{does_point}
use Rattle.coverage.specs.TableSteps.{TableStep}
use Rattle.script_semantics.specs.Beginnings.{Begins, IsIn, TakesUp}
use Rattle.script_semantics.specs.Place.{Hand, Place, accounts_at, updated}
use Rattle.script_semantics.specs.Turns.{PrunesTheDead}

abbrev pub recounted : TableState → (ℕ → Bool) → TableState
recounted w counts = record w { counts = counts }

-- Session n has that in hand, and that to tell; the table is that one, and in each other one these rows count; these are the entries, and these
-- the summaries that are asked for.
abbrev pub place_asking : Place → (n table : ℕ) → Option Hand → TableState → Account → (counts : ℕ → Bool) → List Entry → List Asked → Place
place_asking p n table at w account counts entries queue = record p {
  hands = updated p.hands n at;
  tables = λ i. if i == table then w else recounted (p.tables i) counts;
  accounts = updated p.accounts n account;
  queue = queue;
  journal = entries;
}

-- the summaries that are asked for stay
abbrev pub place_after : Place → (n table : ℕ) → Option Hand → TableState → Account → (counts : ℕ → Bool) → List Entry → Place
place_after p n table at w account counts entries = place_asking p n table at w account counts entries p.queue

-- Session n has nothing in hand; in each table these rows count; these are the entries.
abbrev pub place_at_once : Place → (n : ℕ) → (counts : ℕ → Bool) → List Entry → Place
place_at_once p n counts entries = record p {
  hands = updated p.hands n None;
  tables = λ i. recounted (p.tables i) counts;
  journal = entries;
}

-- The statement of session n takes a step in the table, which leads to v: a further one, or its first one; its session has that to tell then, and
-- these are the summaries that are asked for.
pub record TurnsAsking (p : Place) (n : ℕ) (statement : Statement) (table : ℕ) (v : TableState) (account : Account) (queue : List Asked) : Type 0 where
  pub on : IsIn p n statement table
  pub step : TableStep n (p.tables table) v
  pub own : ((p.tables table).task n ≢ Resting) ⊎ Begins p n (p.tables table) statement (step.between.task n)
  pub dead : PrunesTheDead p step.does
  pub adds : (b : Accounts) → AccountIs n (record (accounts_at p table) { queue = queue }) b account → Adds n (p.tables table) step.between step.does (accounts_at p table) b
  pub takes : TakesUp statement ((p.tables table).task n) p.queue queue

-- these stay
abbrev pub TurnsIn : (p : Place) (n : ℕ) (statement : Statement) (table : ℕ) (v : TableState) (account : Account) → Type 0
TurnsIn p n statement table v account = TurnsAsking p n statement table v account p.queue

-- the name of that step, why it refuses its statement, and the table within it
abbrev pub point_in : {p : Place} {n : ℕ} {statement : Statement} {table : ℕ} {v : TableState} {account : Account} {queue : List Asked}
    → TurnsAsking p n statement table v account queue → Option Point
point_in {p} {n} {statement} {table} turns = does_point n (p.tables table) turns.step.between turns.step.does

abbrev pub refusal_in : {p : Place} {n : ℕ} {statement : Statement} {table : ℕ} {v : TableState} {account : Account} {queue : List Asked}
    → TurnsAsking p n statement table v account queue → Option Refusal
refusal_in {p} {n} {statement} {table} turns = does_refusal n (p.tables table) turns.step.between turns.step.does
