-- Whose rows stand in the table.
use Rattle.std.specs.Prelude.{◌≡◌, ◌⊎◌, true, List}
use Rattle.std.specs.FinMap as map
use Rattle.block_model.specs.declared.row.RowId.{RowId}
use Rattle.block_model.specs.declared.request.Entry.{Entry}
use Rattle.block_model.specs.DatabaseState.{DatabaseState}
use Rattle.block_model.specs.SerialRun.{serial_run}
use Rattle.script_semantics.specs.Place.{Place, database_at}
use Rattle.script_semantics.specs.DeadRows.{HasEnded, IsCommitted}
use Rattle.script_semantics.specs.Openings.{NoneOpen, RowsAreEarlier}

-- Each has stood there since the opening, or is of a transaction that the journal commits; and that has ended.
pub record RowsAreOfCommits : Type 0 where
  pub committed : (p : Place) (id : RowId) → map.contains_key (database_at p).table id ≡ true → (map.contains_key p.opening.table id ≡ true) ⊎ IsCommitted p id.t
  pub ended : (o : DatabaseState) (journal : List Entry) → NoneOpen o → RowsAreEarlier o → (id : RowId)
      → map.contains_key (serial_run o journal).table id ≡ true → HasEnded (serial_run o journal) id.t
