-- how the rows that a session sees stay what they are while its scan goes on
use Rattle.std.specs.Prelude.{◌≡◌, ◌≢◌, ◌⊎◌, ℕ, true, false, List}
use Rattle.page_layout.specs.RowBytes.{StoredRow}
use Rattle.snapshot_core.specs.Visibility.{had_ended, has_done, is_committed}
use Rattle.coverage.specs.Table.{Scans, TableScan, TableState}
use Rattle.coverage.specs.TableSteps.{TableDone, TableNext, TableRun}
use Rattle.bitmap_scan.specs.Finds.{Sight}

-- A transaction sees by the same snapshot later on; and each one that had ended when the snapshot was taken stands as it stood.
pub record SeesLater (old new : Sight) : Type 0 where
  pub snapshot : new.snapshot ≡ old.snapshot
  pub own : new.own ≡ old.own
  pub ended : (t : ℕ) → had_ended old.snapshot t ≡ true → is_committed (new.status t) ≡ is_committed (old.status t)

-- another transaction that hadn't ended when the snapshot was taken
pub record IsOthersSince (sight : Sight) (t : ℕ) : Type 0 where
  pub other : t ≢ sight.own
  pub since : had_ended sight.snapshot t ≡ false

-- The row is the same. Its deleter is, too, or such a transaction deleted it, where no delete had happened for the one that sees.
pub record StaysInSlot (sight : Sight) (row now : StoredRow) : Type 0 where
  pub id : now.id ≡ row.id
  pub deleter : (now.deleter ≡ row.deleter) ⊎ ((has_done sight.snapshot sight.own row.deleter (sight.status row.deleter) ≡ false) × IsOthersSince sight now.deleter)

-- the session is at a scan after each step of the run: it hasn't replied
abbrev pub ScansOn : (s : ℕ) (steps : List ℕ) (w v : TableState) → TableRun steps w v → Type 0
ScansOn s _ w _ (TableDone _) = Unit {0}
ScansOn s _ w v (TableNext n rest _ u _ step run) = ((scan : TableScan) × (u.task s ≡ Scans scan)) × ScansOn s rest u v run
