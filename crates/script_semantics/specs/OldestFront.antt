-- Dead rows, by the front at which the oldest view was taken of those that open transactions have.
use Rattle.std.specs.Prelude.{◌≡◌, ◌⊎◌, ◌↔◌, ℕ, ◌≤◌, List, ◌++◌, Some}
use Rattle.std.specs.FinMap as map
use Rattle.block_model.specs.declared.row.RowId.{RowId}
use Rattle.block_model.specs.declared.request.Entry.{Entry}
use Rattle.block_model.specs.DatabaseState.{DatabaseState, OpenTransaction}
use Rattle.block_model.specs.SerialRun.{serial_run}
use Rattle.script_semantics.specs.Place.{Place, database_at}
use Rattle.script_semantics.specs.DeadRows.{IsOpen, HasEnded, IsCommitted, IsDead}
use Rattle.script_semantics.specs.Openings.{NoneOpen}
use Rattle.script_semantics.specs.Views.{AllTook, view_front}
use Rattle.script_semantics.specs.GoneRows.{IsGone}

-- The front of the journal at which one that is open now took its view, and behind which all of them did; the whole journal where none is open.
pub data IsOldestFront (o : DatabaseState) (journal before : List Entry) : Type 0 where
  Whole : ((t : ℕ) → IsOpen (serial_run o journal) t → ⊥) → before ≡ journal → IsOldestFront o journal before
  OfOldest : (n : ℕ) (x : OpenTransaction) → map.get (serial_run o journal).sessions n ≡ Some x → before ≡ view_front n journal
      → (behind : List Entry) → before ++ behind ≡ journal → AllTook (serial_run o journal) behind → IsOldestFront o journal before

-- from an opening on there is one
abbrev pub OldestFrontStands : Type 0
OldestFrontStands = (o : DatabaseState) (journal : List Entry) → NoneOpen o → (before : List Entry) × IsOldestFront o journal before

-- the transaction began since the opening, and has ended without a commit
pub record IsRolledBack (p : Place) (t : ℕ) : Type 0 where
  pub since : p.opening.next ≤ t
  pub ended : HasEnded (database_at p) t
  pub uncommitted : IsCommitted p t → ⊥

-- a row is dead exactly where its transaction was rolled back, or it was gone at that front
abbrev pub DeadByOldestFront : Type 0
DeadByOldestFront = (p : Place) (before : List Entry) → IsOldestFront p.opening p.journal before → (id : RowId)
    → IsDead p id ↔ (IsRolledBack p id.t ⊎ IsGone (serial_run p.opening before) id)
