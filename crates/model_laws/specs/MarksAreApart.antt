-- Open transactions mark rows that stand in the table, and no two of them the same one.
use Rattle.std.specs.Prelude.{◌≡◌, ◌≢◌, ℕ, List, Some}
use Rattle.std.specs.FinMap as map
use Rattle.block_model.specs.declared.request.Entry.{Entry}
use Rattle.block_model.specs.DatabaseState.{DatabaseState, OpenTransaction}
use Rattle.block_model.specs.SerialRun.{serial_run}
use Rattle.model_laws.specs.NoRowRemovedTwice.{IsOpening, MarksApart, MarksStand}

-- so it is in this state
pub record AreMarksApart (s : DatabaseState) : Type 0 where
  pub stand : (n : ℕ) (x : OpenTransaction) → map.get s.sessions n ≡ Some x → MarksStand s x
  pub apart : (n m : ℕ) (x y : OpenTransaction) → n ≢ m → map.get s.sessions n ≡ Some x → map.get s.sessions m ≡ Some y → MarksApart x y

-- and behind each journal from an opening on
abbrev pub MarksAreApart : Type 0
MarksAreApart = (s : DatabaseState) (journal : List Entry) → IsOpening s → AreMarksApart (serial_run s journal)
