-- When a table that pages show is no larger than its layout may make it.
use Rattle.std.specs.Prelude.{ℕ, ◌<◌, List, length}
use Rattle.store_layout.specs.DiskLayout.{DiskLayout}
use Rattle.store_layout.specs.FirstBrokenRule.{KeepsLimits}
use Rattle.page_layout.specs.PageContents.{Slot}
use Rattle.page_map.specs.Forms.{IsPageIn}
use Rattle.page_map.specs.PageMap.{PageMap}
use Rattle.page_locks.specs.LockHolders.{LockState}
use Rattle.index_steps.specs.HeapBlocks.{HasBlocks}
use Rattle.coverage.specs.Machines.{Unseen, table_state}
use Rattle.index_steps.specs.IndexContents.{index_page, relation_of}
use Rattle.index_steps.specs.ShownRows.{shown_by}
use Rattle.script_semantics.specs.Bounds.{IsBounded}

-- each page of each index passes the check of its form
abbrev pub HasIndexPages : DiskLayout → PageMap → Type 0
HasIndexPages layout pages = (index block : ℕ) → index < length layout.schema.indexes → IsPageIn layout (relation_of layout index) (index_page layout pages index block)

-- a table of a layout within its limits, whatever its pages and locks don't show
abbrev pub ShownTablesAreBounded : Type 0
ShownTablesAreBounded = (layout : DiskLayout) (pages : PageMap) (locks : LockState) (table : ℕ) (blocks : List (List Slot)) (u : Unseen) → KeepsLimits layout.schema layout.sizes
    → HasIndexPages layout pages → table < length layout.schema.tables → HasBlocks layout pages table blocks → IsBounded (table_state (shown_by layout pages locks table blocks) u)
