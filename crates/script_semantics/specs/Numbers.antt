-- The numbers of transactions over a journal.
use Rattle.std.specs.Prelude.{◌≡◌, ℕ, ◌<◌, ◌≤◌, List, Some}
use Rattle.std.specs.FinMap as map
use Rattle.block_model.specs.declared.request.Entry.{Entry}
use Rattle.block_model.specs.DatabaseState.{DatabaseState, OpenTransaction}
use Rattle.block_model.specs.SerialRun.{serial_run}
use Rattle.script_semantics.specs.DeadRows.{HasEnded}
use Rattle.script_semantics.specs.Openings.{NoneOpen}

-- each open transaction has begun since the opening, whose next number is first, and no two have one number
pub record AreNumbered (first : ℕ) (s : DatabaseState) : Type 0 where
  pub since : (n : ℕ) (x : OpenTransaction) → map.get s.sessions n ≡ Some x → first ≤ x.t
  pub below : (n : ℕ) (x : OpenTransaction) → map.get s.sessions n ≡ Some x → x.t < s.next
  pub apart : (n m : ℕ) (x y : OpenTransaction) → map.get s.sessions n ≡ Some x → map.get s.sessions m ≡ Some y → x.t ≡ y.t → n ≡ m

-- from each state on the next number doesn't fall, and what has ended stays ended; from an opening on open transactions have numbers of their own
pub record NumbersRise : Type 0 where
  pub next : (s : DatabaseState) (journal : List Entry) → s.next ≤ (serial_run s journal).next
  pub ended : (s : DatabaseState) (journal : List Entry) (t : ℕ) → HasEnded s t → HasEnded (serial_run s journal) t
  pub numbered : (o : DatabaseState) (journal : List Entry) → NoneOpen o → AreNumbered o.next (serial_run o journal)
