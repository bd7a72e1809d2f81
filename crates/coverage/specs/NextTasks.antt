-- Where a maintenance statement's step takes it.
use Rattle.std.specs.Prelude.{◌≡◌, ◌⊎◌, ℕ, suc, ◌≤◌}
use Rattle.coverage.specs.Statements.{Empty, Phase, NotBuilding}
use Rattle.coverage.specs.Table.{Job, WholeRanges, Task, Resting, Maintains, Prunes, Sweeps, Restarts, TableState}
use Rattle.coverage.specs.TableSteps.{HasRange, HasTuples, IsFrom, IsNextPage}

-- a statement that begins is at the lowest range that it goes over, at block 0 of the heap, or at the first page with tuples, or, where
-- there is no such page, before the first index
abbrev pub AtFirst : TableState → Task → Type 0
AtFirst u (Maintains job at range phase) = (m : ℕ) → HasRange u job at m → range ≤ m
AtFirst u (Prunes extent next) = (extent ≡ u.blocks) × (next ≡ 0)
AtFirst u (Sweeps at page) = (m p : ℕ) → HasTuples u m p → IsFrom at page m p
AtFirst u (Restarts at) = (at ≡ 0) × ((m p : ℕ) → HasTuples u m p → ⊥)
AtFirst u task = Unit

-- after a step at a range: at it still, at the next one, before the next index, or done
abbrev pub AfterRange : Job → (at range : ℕ) → Task → Type 0
AfterRange job at range t = ((phase : Phase) × (t ≡ Maintains job at range phase)) ⊎ (t ≡ Maintains job at (suc range) (NotBuilding Empty))
    ⊎ (t ≡ Restarts (suc at)) ⊎ (t ≡ Resting)

-- after a step at a block of the heap: at it still, at the next one, with all blocks pruned at the first index page, or done
abbrev pub AfterBlock : TableState → (extent next : ℕ) → Task → Type 0
AfterBlock u extent next t = (t ≡ Prunes extent next) ⊎ (t ≡ Prunes extent (suc next)) ⊎ ((extent ≤ suc next) × AtFirst u t) ⊎ (t ≡ Resting)

-- after a step at an index page: at it still, at the next one with tuples, before the first index with no such page left, or done
abbrev pub AfterPage : TableState → (at page : ℕ) → Task → Type 0
AfterPage u at page t = (t ≡ Sweeps at page) ⊎ ((m : ℕ) × (p : ℕ) × (t ≡ Sweeps m p) × IsNextPage u at (suc page) m p)
    ⊎ ((t ≡ Restarts 0) × ((m p : ℕ) → HasTuples u m p → IsFrom at (suc page) m p → ⊥)) ⊎ (t ≡ Resting)

-- after a step before an index: at its first range, before the next index, or done
abbrev pub AfterRestart : (extent at : ℕ) → Task → Type 0
AfterRestart extent at t = (t ≡ Maintains (WholeRanges extent) at 0 (NotBuilding Empty)) ⊎ (t ≡ Restarts (suc at)) ⊎ (t ≡ Resting)
