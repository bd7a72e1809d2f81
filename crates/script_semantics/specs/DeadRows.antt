-- The rows that no transaction can see any more, by the journal: the rows that vacuum drops.
use Rattle.std.specs.Prelude.{◌≡◌, ℕ, ◌<◌, ◌≤◌, false, List, ◌∷◌, ◌++◌, Some}
use Rattle.std.specs.FinMap as map
use Rattle.block_model.specs.declared.row.RowId.{RowId}
use Rattle.block_model.specs.declared.request.Entry.{Entry}
use Rattle.block_model.specs.declared.request.Request.TheVariants as requests
use Rattle.block_model.specs.DatabaseState.{DatabaseState, OpenTransaction}
use Rattle.block_model.specs.SerialRun.{serial_run}
use Rattle.script_semantics.specs.Place.{Place, database_at}
use Rattle.script_semantics.specs.Views.{AllTook}

abbrev pub IsOpen : DatabaseState → ℕ → Type 0
IsOpen s t = (n : ℕ) × (x : OpenTransaction) × (map.get s.sessions n ≡ Some x) × (x.t ≡ t)

-- the transaction was begun and has ended
abbrev pub HasEnded : DatabaseState → ℕ → Type 0
HasEnded s t = (t < s.next) × (IsOpen s t → ⊥)

-- the journal has a commit of the transaction, which hadn't failed
pub record IsCommitted (p : Place) (t : ℕ) : Type 0 where
  pub before : List Entry
  pub entry : Entry
  pub behind : List Entry
  pub split : before ++ entry ∷ behind ≡ p.journal
  pub commits : entry.request ≡ requests.Commit
  pub transaction : OpenTransaction
  pub under_way : map.get (serial_run p.opening before).sessions entry.session ≡ Some transaction
  pub number : transaction.t ≡ t
  pub sound : transaction.failed ≡ false

-- It was put by a transaction that was rolled back since the opening; or at a front of the journal, behind which all that are
-- open now took their views, its transaction had ended and it wasn't in the table.
pub data IsDead (p : Place) (id : RowId) : Type 0 where
  RolledBack : p.opening.next ≤ id.t → HasEnded (database_at p) id.t → (IsCommitted p id.t → ⊥) → IsDead p id
  Deleted : (before behind : List Entry) → before ++ behind ≡ p.journal → HasEnded (serial_run p.opening before) id.t
      → map.contains_key (serial_run p.opening before).table id ≡ false
      → AllTook (database_at p) behind → IsDead p id
