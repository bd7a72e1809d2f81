-- In which table a statement makes its steps, and what its first one leads to.
use Rattle.std.specs.Prelude.{◌≡◌, ◌≢◌, ◌⊎◌, ℕ, ◌<◌, Bool, true, false, IsTrue, ◌↔◌, List, ◌∷◌, length, slice_get, None, Some}
use Rattle.std.specs.FinMap as map
use Rattle.block_model.specs.declared.row.Query.{Query}
use Rattle.block_model.specs.declared.row.Row.{Row}
use Rattle.block_model.specs.DatabaseState.{OpenTransaction}
use Rattle.block_model.specs.RequestEffect.{next_row}
use Rattle.block_model.specs.RowMatches.{row_matches}
use Rattle.store_layout.specs.declared.statement.Statement.{Statement}
use Rattle.store_layout.specs.declared.statement.Statement.TheVariants as statements
use Rattle.store_layout.specs.DiskLayout.{DiskLayout}
use Rattle.coverage.specs.Accounts.{Asked}
use Rattle.coverage.specs.Table.{EachRange, OneRange, Desummarising, TableScan, Task, Resting, Reaches, Considers, Prunes, Scans, TableState}
use Rattle.coverage.specs.TableSteps.{range_in}
use Rattle.index_steps.specs.IndexTuples.{index_at}
use Rattle.index_steps.specs.ShownTable.{indexes_of}
use Rattle.script_semantics.specs.Place.{Place, database_at}

-- the index of that number stands at this place among its table's
abbrev pub StandsAt : DiskLayout → (index at : ℕ) → Type 0
StandsAt layout index at = slice_get (indexes_of layout (index_at layout index).table) at ≡ Some index

-- the session is at nothing in any table of the layout: what it has in hand has made no step
abbrev pub IsAtRest : Place → ℕ → Type 0
IsAtRest p n = (table : ℕ) → table < length p.layout.schema.tables → (p.tables table).task n ≡ Resting

-- the first summary that is asked for is this one
abbrev pub IsAskedFirst : Place → Asked → Type 0
IsAskedFirst p asked = slice_get p.queue 0 ≡ Some asked

-- work goes to the table of the first summary that is asked for, and stays there
abbrev pub IsWorkIn : Place → ℕ → ℕ → Type 0
IsWorkIn p n i = ((i < length p.layout.schema.tables) × ((p.tables i).task n ≢ Resting))
    ⊎ (IsAtRest p n × ((asked : Asked) × IsAskedFirst p asked × (asked.table ≡ i)))

-- the table is the one in which the statement makes its steps
abbrev pub IsIn : Place → ℕ → Statement → ℕ → Type 0
IsIn p n (statements.Insert table values) i = i ≡ table
IsIn p n (statements.Select q) i = i ≡ q.table
IsIn p n (statements.Delete q) i = i ≡ q.table
IsIn p n (statements.Explain q) i = i ≡ q.table
IsIn p n (statements.Summarize index block) i = i ≡ (index_at p.layout index).table
IsIn p n (statements.Desummarize index block) i = i ≡ (index_at p.layout index).table
IsIn p n (statements.Vacuum table) i = i ≡ table
IsIn p n statements.Work i = IsWorkIn p n i
IsIn p n statement i = ⊥

-- a statement that needs the summarise lock of its table
abbrev pub takes_lock : Statement → Bool
takes_lock (statements.Summarize index block) = true
takes_lock (statements.Desummarize index block) = true
takes_lock (statements.Vacuum table) = true
takes_lock statements.Work = true
takes_lock statement = false

-- A scan of this query: each tuple is judged by its conditions. A select and a delete look at the rows of their own copy.
pub record IsScanOf (p : Place) (n : ℕ) (w : TableState) (q : Query) (explaining deleting : Bool) (scan : TableScan) : Type 0 where
  pub keeps : scan.keeps ≡ (λ i t. t.keeps q.conds)
  pub matches : (b k : ℕ) (r : Row) → w.row b k ≡ Some r → scan.matches r ≡ row_matches q r
  pub explain : scan.explains ≡ explaining
  pub deletes : scan.deletes ≡ deleting
  pub sees : explaining ≡ false → (x : OpenTransaction) × (map.get (database_at p).sessions n ≡ Some x)
      × ((b k : ℕ) (r : Row) → w.row b k ≡ Some r → IsTrue (scan.sees b k) ↔ IsTrue (map.contains_key x.view r.id))

-- What session n's statement is at, before it is judged where it goes on, by its first step on its table. An insert whose row is refused
-- stays before it.
abbrev pub Begins : Place → ℕ → TableState → Statement → Task → Type 0
Begins p n w (statements.Insert table values) task = (task ≡ Resting) ⊎ ((x : OpenTransaction) × (b : ℕ) × (k : ℕ)
    × (map.get (database_at p).sessions n ≡ Some x) × (task ≡ Reaches b k (next_row x table values) 0))
Begins p n w (statements.Select q) task = (scan : TableScan) × IsScanOf p n w q false false scan × (task ≡ Scans scan)
Begins p n w (statements.Delete q) task = (scan : TableScan) × IsScanOf p n w q false true scan × (task ≡ Scans scan)
Begins p n w (statements.Explain q) task = (scan : TableScan) × IsScanOf p n w q true false scan × (task ≡ Scans scan)
Begins p n w (statements.Summarize index None) task = (at : ℕ) × StandsAt p.layout index at × (task ≡ Considers (EachRange w.blocks) at 0)
Begins p n w (statements.Summarize index (Some block)) task = (at : ℕ) × StandsAt p.layout index at
    × (task ≡ Considers (OneRange w.blocks (range_in w at block)) at (range_in w at block))
Begins p n w (statements.Desummarize index block) task = (at : ℕ) × StandsAt p.layout index at
    × (task ≡ Considers (Desummarising (range_in w at block)) at (range_in w at block))
Begins p n w (statements.Vacuum table) task = task ≡ Prunes w.blocks 0
Begins p n w statements.Work task = (asked : Asked) × IsAskedFirst p asked × (task ≡ Considers (OneRange w.blocks asked.range) asked.at asked.range)
Begins p n w statement task = ⊥

-- work takes the first summary that is asked for by its first step; no other step takes one
abbrev pub TakesUp : Statement → Task → (before after : List Asked) → Type 0
TakesUp statements.Work Resting before after = (asked : Asked) × (before ≡ asked ∷ after)
TakesUp statement task before after = (asked : Asked) → before ≡ asked ∷ after → ⊥
