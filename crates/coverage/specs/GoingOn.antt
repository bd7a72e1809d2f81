-- What a table has so that its statements go on, and steps that a session takes alone.
use Rattle.std.specs.Prelude.{◌≡◌, ℕ, suc, ◌<◌, false, Some}
use Rattle.block_model.specs.declared.reply.Point.{Point}
use Rattle.block_model.specs.declared.place.Spot.{Spot}
use Rattle.coverage.specs.IndexView.{IndexTuple}
use Rattle.coverage.specs.Verdicts.{HasFreeSlots}
use Rattle.coverage.specs.Statements.{HasNoMoreRows}
use Rattle.coverage.specs.Steps.{Excludes}
use Rattle.coverage.specs.Table.{Task, Resting, Asks, Inserts, Scans, TableScan, TableState}
use Rattle.coverage.specs.TableSteps.{first_block, TableStep}
use Rattle.coverage.specs.TablePoints.{does_point}

-- each page of an index has a free slot, tuples can be made of each range of the table, and the rows of a block end at some slot
pub record CanGoOn (w : TableState) : Type 0 where
  pub slots : (i : ℕ) → i < w.indexes → HasFreeSlots (w.index i).tuple
  pub ranges : (i range : ℕ) → i < w.indexes → first_block w i range < w.blocks → range < (w.index i).contents.ranges
  pub rows : (b : ℕ) → (n : ℕ) × HasNoMoreRows (w.row b) n

-- a tuple that doesn't keep the query of the session's scan includes none of its matches
abbrev pub IsScanHonest : TableState → ℕ → Type 0
IsScanHonest w s = (scan : TableScan) → w.task s ≡ Scans scan → (x : Spot) (t : IndexTuple) → (w.index scan.at).tuple x ≡ Some t
    → scan.keeps scan.at t ≡ false → Excludes t scan.matches

-- an insert has put its row, and isn't done
abbrev pub IsInserting : Task → Type 0
IsInserting (Asks b k r at) = Unit
IsInserting (Inserts b k r at on_index) = Unit
IsInserting task = ⊥

-- The session's statement takes so many steps, each with its point, one right after the other, while no other session steps.
pub data StepsAlone (s : ℕ) : (steps : ℕ) → TableState → Type 0 where
  LastAlone : (w v : TableState) (step : TableStep s w v) (p : Point) → does_point s w step.between step.does ≡ Some p → StepsAlone s 1 w
  OneMoreAlone : (steps : ℕ) (w v : TableState) (step : TableStep s w v) (p : Point) → does_point s w step.between step.does ≡ Some p
      → (v.task s ≡ Resting → ⊥) → StepsAlone s steps v → StepsAlone s (suc steps) w
