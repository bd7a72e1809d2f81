-- What holds of the database when a store is opened.
use Rattle.std.specs.Prelude.{◌≡◌, ℕ, ◌<◌, true, None}
use Rattle.std.specs.FinMap as map
use Rattle.block_model.specs.declared.row.RowId.{RowId}
use Rattle.block_model.specs.DatabaseState.{DatabaseState, initial_state}

-- no session has a transaction
abbrev pub NoneOpen : DatabaseState → Type 0
NoneOpen o = (n : ℕ) → map.get o.sessions n ≡ None

-- each row has been put by a transaction of an earlier number
abbrev pub RowsAreEarlier : DatabaseState → Type 0
RowsAreEarlier o = (id : RowId) → map.contains_key o.table id ≡ true → id.t < o.next

-- both hold of a new database
pub record NewIsOpening : Type 0 where
  pub none_open : NoneOpen initial_state
  pub earlier : RowsAreEarlier initial_state
