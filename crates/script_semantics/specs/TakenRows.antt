-- A commit takes away what its transaction marked.
use Rattle.std.specs.Prelude.{◌≡◌, ℕ, true, List}
use Rattle.std.specs.FinSet as set
use Rattle.block_model.specs.declared.row.RowId.{RowId}
use Rattle.block_model.specs.declared.request.Entry.{Entry}
use Rattle.block_model.specs.DatabaseState.{DatabaseState}
use Rattle.block_model.specs.RequestEffect.{after_request}
use Rattle.block_model.specs.SerialRun.{serial_run, IsLegal}
use Rattle.script_semantics.specs.Openings.{NoneOpen, RowsAreEarlier}
use Rattle.script_semantics.specs.Commits.{CommitsAt}
use Rattle.script_semantics.specs.GoneRows.{IsGone}

-- behind a legal journal from an opening on
abbrev pub CommitsTakeMarked : Type 0
CommitsTakeMarked = (o : DatabaseState) (journal : List Entry) → NoneOpen o → RowsAreEarlier o → IsLegal o journal → (e : Entry) (t : ℕ) (commit : CommitsAt (serial_run o journal) e t)
    → (id : RowId) → set.contains commit.transaction.marks id ≡ true → IsGone (after_request (serial_run o journal) e) id
