-- The table after a step that changes one index of it, or its heap's rows, with the other indexes as they were.
use Rattle.std.specs.Prelude.{◌≡◌, ◌⊎◌, ℕ, ◌+◌, Option, Some}
use Rattle.block_model.specs.declared.place.Spot.{Spot}
use Rattle.block_model.specs.declared.reply.Point.{Point}
use Rattle.block_model.specs.declared.row.Row.{Row}
use Rattle.coverage.specs.IndexView.{Building, IndexView}
use Rattle.coverage.specs.Statements.{Phase, Statement}
use Rattle.coverage.specs.IndexPart.{IndexPart, with_part}
use Rattle.coverage.specs.Table.{Index, Job, Task, TableState, pick}
use Rattle.coverage.specs.TableSteps.{JobStep, Does}
use Rattle.coverage.specs.TablePoints.{job_point, does_point}
use Rattle.coverage.specs.Accounts.{Account, Accounts, AccountIs, Adds, job_count}

-- the index has this part
abbrev pub index_with : IndexPart → Index → Index
index_with p i = record i { entry = p.entry; tuple = p.tuple; pages = p.pages; lock = p.lock; unnamed = p.unnamed }

-- one index of the table has this part, and the session's statement is at this task
abbrev pub with_index : (at : ℕ) → IndexPart → (s : ℕ) → Task → TableState → TableState
with_index at p s task w = record w {
  index = λ i. pick i at (index_with p (w.index at)) (w.index i);
  task = λ n. pick n s task (w.task n);
}

-- the heap has these rows on so many blocks, and the session's statement is at this task
abbrev pub with_rows : (row : ℕ → ℕ → Option Row) → (blocks s : ℕ) → Task → TableState → TableState
with_rows row blocks s task w = record w { row = row; blocks = blocks; task = λ n. pick n s task (w.task n) }

-- one row more stands at this place
pub record RowComesTo (old new : ℕ → ℕ → Option Row) (b k : ℕ) (r : Row) : Type 0 where
  pub now : new b k ≡ Some r
  pub others : (c j : ℕ) → ((c ≡ b) × (j ≡ k)) ⊎ (new c j ≡ old c j)

-- a step of a maintenance statement, under this point, makes this part of an index and counts so many ranges
abbrev pub JobMakes : Job → (s range : ℕ) → IndexView → IndexPart → Phase → Statement → Point → (count : ℕ) → Type 0
JobMakes job s range w p old new point count = (building : ℕ → Option Building) (loose : ℕ → Option Spot)
    → (step : JobStep job s range w (with_part w p building loose) old new)
    × (job_point job s range w (with_part w p building loose) old new step ≡ point)
    × (job_count job s range w (with_part w p building loose) old new step ≡ count)

-- so many ranges more, or so many unnamed tuples, are counted
abbrev pub with_ranges : ℕ → Account → Account
with_ranges count account = record account { ranges = account.ranges + count }

abbrev pub with_unnamed : ℕ → Account → Account
with_unnamed count account = record account { unnamed = account.unnamed + count }

-- What the session does is printed under this point, and makes this of its account.
pub record DoesAt (s : ℕ) (w v : TableState) (point : Point) (account : Account → Account) : Type 0 where
  pub does : Does s w v
  pub point_is : does_point s w v does ≡ Some point
  pub adds : (a b : Accounts) → AccountIs s a b (account (a.of s)) → Adds s w v does a b
