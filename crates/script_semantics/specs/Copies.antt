-- What an open transaction's copy and marks tell of the table as it was when its view was taken.
use Rattle.std.specs.Prelude.{◌≡◌, ◌⊎◌, ℕ, true, false, not, ◌&&◌, ◌||◌, List, Some}
use Rattle.std.specs.FinMap as map
use Rattle.std.specs.FinSet as set
use Rattle.block_model.specs.declared.row.RowId.{RowId}
use Rattle.block_model.specs.declared.request.Entry.{Entry}
use Rattle.block_model.specs.TableState.{TableState}
use Rattle.block_model.specs.DatabaseState.{DatabaseState, OpenTransaction}
use Rattle.block_model.specs.RequestEffect.{is_own}
use Rattle.block_model.specs.SerialRun.{serial_run, IsLegal}
use Rattle.script_semantics.specs.DeadRows.{HasEnded}
use Rattle.script_semantics.specs.Openings.{NoneOpen, RowsAreEarlier}
use Rattle.script_semantics.specs.Views.{view_front}

-- the table has exactly the rows of others that are in the copy, and those that the transaction marked
abbrev pub IsCopyOf : TableState → OpenTransaction → Type 0
IsCopyOf table x = (id : RowId) → map.contains_key table id ≡ ((map.contains_key x.view id && not (is_own x id)) || set.contains x.marks id)

-- another put the row, and it is in the copy or marked
abbrev pub HasOfOthers : OpenTransaction → RowId → Type 0
HasOfOthers x id = ((map.contains_key x.view id ≡ true) × (is_own x id ≡ false)) ⊎ (set.contains x.marks id ≡ true)

-- By a legal journal from an opening on each open transaction has a copy of the table where its view was taken, and the transactions
-- whose rows it has had ended there.
pub record CopiesAreOfTheirFronts : Type 0 where
  pub copy : (o : DatabaseState) (journal : List Entry) → NoneOpen o → RowsAreEarlier o → IsLegal o journal → (n : ℕ) (x : OpenTransaction)
      → map.get (serial_run o journal).sessions n ≡ Some x → IsCopyOf (serial_run o (view_front n journal)).table x
  pub ended : (o : DatabaseState) (journal : List Entry) → NoneOpen o → RowsAreEarlier o → IsLegal o journal → (n : ℕ) (x : OpenTransaction)
      → map.get (serial_run o journal).sessions n ≡ Some x → (id : RowId) → HasOfOthers x id → HasEnded (serial_run o (view_front n journal)) id.t
