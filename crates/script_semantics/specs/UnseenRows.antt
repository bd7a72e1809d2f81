-- Nobody sees a dead row.
use Rattle.std.specs.Prelude.{◌≡◌, ℕ, false, Some}
use Rattle.std.specs.FinMap as map
use Rattle.std.specs.FinSet as set
use Rattle.block_model.specs.declared.row.RowId.{RowId}
use Rattle.block_model.specs.DatabaseState.{DatabaseState, OpenTransaction}
use Rattle.block_model.specs.SerialRun.{IsLegal}
use Rattle.script_semantics.specs.Place.{Place, database_at}
use Rattle.script_semantics.specs.DeadRows.{IsDead}
use Rattle.script_semantics.specs.Openings.{NoneOpen, RowsAreEarlier}

-- neither the table nor an open transaction's copy has the row, and none has marked it
pub record IsUnseen (s : DatabaseState) (id : RowId) : Type 0 where
  pub table : map.contains_key s.table id ≡ false
  pub copies : (n : ℕ) (x : OpenTransaction) → map.get s.sessions n ≡ Some x → map.contains_key x.view id ≡ false
  pub marks : (n : ℕ) (x : OpenTransaction) → map.get s.sessions n ≡ Some x → set.contains x.marks id ≡ false

-- by a legal journal from an opening on
abbrev pub DeadRowsAreUnseen : Type 0
DeadRowsAreUnseen = (p : Place) → NoneOpen p.opening → RowsAreEarlier p.opening → IsLegal p.opening p.journal → (id : RowId) → IsDead p id → IsUnseen (database_at p) id
