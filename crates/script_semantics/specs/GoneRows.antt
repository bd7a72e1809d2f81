-- A row that is gone stays gone.
use Rattle.std.specs.Prelude.{◌≡◌, false, List}
use Rattle.std.specs.FinMap as map
use Rattle.block_model.specs.declared.row.RowId.{RowId}
use Rattle.block_model.specs.declared.request.Entry.{Entry}
use Rattle.block_model.specs.DatabaseState.{DatabaseState}
use Rattle.block_model.specs.SerialRun.{serial_run}
use Rattle.script_semantics.specs.DeadRows.{HasEnded}

-- the transaction that would put it has ended, and it isn't in the table
pub record IsGone (s : DatabaseState) (id : RowId) : Type 0 where
  pub ended : HasEnded s id.t
  pub absent : map.contains_key s.table id ≡ false

-- from each state on, after each journal
abbrev pub GoneRowsStayGone : Type 0
GoneRowsStayGone = (s : DatabaseState) (journal : List Entry) (id : RowId) → IsGone s id → IsGone (serial_run s journal) id
