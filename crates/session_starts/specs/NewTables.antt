-- the tables that the pages of a new store show
use Rattle.std.specs.Prelude.{◌≡◌, ℕ, Bool, false, [], None}
use Rattle.block_model.specs.declared.place.Spot.{Spot}
use Rattle.store_layout.specs.DiskLayout.{DiskLayout}
use Rattle.page_locks.specs.LockHolders.{LockState}
use Rattle.page_map.specs.PageMap.{PageMap}
use Rattle.coverage.specs.PageOrder.{AreNewPages}
use Rattle.index_contents.specs.IndexContents.{IndexContents}
use Rattle.coverage.specs.Machines.{table_state}
use Rattle.coverage.specs.Table.{Resting, TableState}
use Rattle.index_steps.specs.ShownRows.{shown_by}

-- an index without entries and tuples, whose first two pages alone are started
pub record IsNewIndex (c : IndexContents) : Type 0 where
  pub entry : (range : ℕ) → c.entry range ≡ None
  pub bytes : (x : Spot) → c.bytes x ≡ None
  pub pages : AreNewPages c.pages

-- The table that pages and page locks show without a block of its heap, in which nobody is at anything: the rows of these transactions count, and no
-- tuple was unnamed.
abbrev pub new_table : DiskLayout → PageMap → LockState → (table : ℕ) → (counts : ℕ → Bool) → TableState
new_table layout pages locks table counts = table_state (shown_by layout pages locks table []) (record { summarise_lock = None; task = λ n. Resting; counts = counts; unnamed = λ i x. false })
