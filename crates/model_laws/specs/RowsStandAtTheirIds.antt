-- Where each row stands at its own id, it does so after every journal.
use Rattle.std.specs.Prelude.{◌≡◌, ℕ, List, Some}
use Rattle.std.specs.FinMap as map
use Rattle.block_model.specs.declared.row.RowId.{RowId}
use Rattle.block_model.specs.declared.row.Row.{Row}
use Rattle.block_model.specs.declared.request.Entry.{Entry}
use Rattle.block_model.specs.TableState.{TableState}
use Rattle.block_model.specs.DatabaseState.{DatabaseState, OpenTransaction, initial_state}
use Rattle.block_model.specs.SerialRun.{serial_run}

-- in a state of the tables
abbrev pub AtIds : TableState → Type 0
AtIds table = (id : RowId) (row : Row) → map.get table id ≡ Some row → row.id ≡ id

-- in what is committed and in each transaction's own copy
pub record AtTheirIds (s : DatabaseState) : Type 0 where
  pub table : AtIds s.table
  pub views : (n : ℕ) (x : OpenTransaction) → map.get s.sessions n ≡ Some x → AtIds x.view

-- so they do from a new database on
pub record RowsStandAtTheirIds : Type 0 where
  pub initially : AtTheirIds initial_state
  pub later : (s : DatabaseState) (journal : List Entry) → AtTheirIds s → AtTheirIds (serial_run s journal)
