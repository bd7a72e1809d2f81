-- Each open transaction took a view at a front of the journal.
use Rattle.std.specs.Prelude.{◌≡◌, ℕ, true, false, List, ◌∷◌, ◌++◌, Some}
use Rattle.std.specs.List.{list_any}
use Rattle.std.specs.FinMap as map
use Rattle.block_model.specs.declared.request.Entry.{Entry}
use Rattle.block_model.specs.DatabaseState.{DatabaseState, OpenTransaction}
use Rattle.block_model.specs.SerialRun.{serial_run}
use Rattle.script_semantics.specs.DeadRows.{HasEnded}
use Rattle.script_semantics.specs.Openings.{NoneOpen}
use Rattle.script_semantics.specs.Views.{AllTook, Took, takes_view, view_front}

-- The journal goes on behind the front by a request by which session n took a view, and has no such request behind that.
pub record IsBeforeLast (n : ℕ) (front journal : List Entry) : Type 0 where
  pub entry : Entry
  pub behind : List Entry
  pub split : front ++ entry ∷ behind ≡ journal
  pub takes : takes_view n entry ≡ true
  pub last : list_any (takes_view n) behind ≡ false

-- From an opening on each open transaction's session has taken a view, at that front, where the transaction hadn't ended.
pub record ViewsAreTaken : Type 0 where
  pub took : (o : DatabaseState) (journal : List Entry) → NoneOpen o → AllTook (serial_run o journal) journal
  pub front : (n : ℕ) (journal : List Entry) → Took n journal → IsBeforeLast n (view_front n journal) journal
  pub unended : (o : DatabaseState) (journal : List Entry) (n : ℕ) (x : OpenTransaction) → map.get (serial_run o journal).sessions n ≡ Some x
      → HasEnded (serial_run o (view_front n journal)) x.t → ⊥
