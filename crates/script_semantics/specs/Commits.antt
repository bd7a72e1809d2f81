-- The commits of a journal.
use Rattle.std.specs.Prelude.{◌≡◌, ◌⊎◌, ◌↔◌, ℕ, ◌≤◌, false, [], ◌∷◌, ◌++◌, Some}
use Rattle.std.specs.FinMap as map
use Rattle.block_model.specs.declared.request.Entry.{Entry}
use Rattle.block_model.specs.declared.request.Request.TheVariants as requests
use Rattle.block_model.specs.DatabaseState.{DatabaseState, OpenTransaction}
use Rattle.script_semantics.specs.Place.{Place, database_at}
use Rattle.script_semantics.specs.DeadRows.{HasEnded, IsCommitted}
use Rattle.script_semantics.specs.Openings.{NoneOpen}

-- the request commits the session's transaction of that number, which hasn't failed
pub record CommitsAt (s : DatabaseState) (e : Entry) (t : ℕ) : Type 0 where
  pub commits : e.request ≡ requests.Commit
  pub transaction : OpenTransaction
  pub under_way : map.get s.sessions e.session ≡ Some transaction
  pub number : transaction.t ≡ t
  pub sound : transaction.failed ≡ false

-- A journal with one request more has the commits that it had, and that of the request. From an opening on, what a journal
-- commits began since then, and has ended.
pub record CommitsStand : Type 0 where
  pub more : (p after : Place) (e : Entry) → after.opening ≡ p.opening → after.journal ≡ p.journal ++ e ∷ [] → (t : ℕ)
      → IsCommitted after t ↔ (IsCommitted p t ⊎ CommitsAt (database_at p) e t)
  pub since : (p : Place) → NoneOpen p.opening → (t : ℕ) → IsCommitted p t → (p.opening.next ≤ t) × HasEnded (database_at p) t
