-- No row is removed by two commits, and each that is removed stood in the table.
use Rattle.std.specs.Prelude.{◌≡◌, ℕ, ◌<◌, true, List, ◌∷◌, ◌++◌, None, AllPairs}
use Rattle.std.specs.FinMap as map
use Rattle.std.specs.FinSet as set
use Rattle.block_model.specs.declared.row.RowId.{RowId}
use Rattle.block_model.specs.declared.request.Entry.{Entry}
use Rattle.block_model.specs.DatabaseState.{DatabaseState, OpenTransaction, initial_state}
use Rattle.block_model.specs.SerialRun.{serial_run}
use Rattle.model_laws.specs.Commits.{Commits, committed_in}

-- no transaction is under way, and each row has been put by one of an earlier number
pub record IsOpening (s : DatabaseState) : Type 0 where
  pub none_open : (n : ℕ) → map.get s.sessions n ≡ None
  pub earlier : (id : RowId) → map.contains_key s.table id ≡ true → id.t < s.next

-- a new database is an opening
abbrev pub InitialIsOpening : Type 0
InitialIsOpening = IsOpening initial_state

-- they mark no row in common
abbrev pub MarksApart : OpenTransaction → OpenTransaction → Type 0
MarksApart x y = (id : RowId) → set.contains x.marks id ≡ true → set.contains y.marks id ≡ true → ⊥

-- the marks stand in the table
abbrev pub MarksStand : DatabaseState → OpenTransaction → Type 0
MarksStand s x = (id : RowId) → set.contains x.marks id ≡ true → map.contains_key s.table id ≡ true

-- the commits of the journal remove each row once, and only rows that are there
pub record RemovesOnce (s : DatabaseState) (journal : List Entry) : Type 0 where
  -- no two committed transactions marked a row in common
  pub once : AllPairs MarksApart (committed_in s journal)
  -- at each commit, what the transaction marked stands in the table
  pub stood : (before after : List Entry) (e : Entry) (x : OpenTransaction) → journal ≡ before ++ e ∷ after → Commits (serial_run s before) e x → MarksStand (serial_run s before) x

-- from each opening on
abbrev pub NoRowRemovedTwice : Type 0
NoRowRemovedTwice = (s : DatabaseState) (journal : List Entry) → IsOpening s → RemovesOnce s journal
