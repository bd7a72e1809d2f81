use Rattle.std.proofs.Common.{◌≡◌, ◌≤◌, ◌++◌, ℕ, List, drop, length}
use Rattle.std.specs.Prelude.{None, vec_capacity}
use Rattle.page_store.specs.Survives.{Survives}
use Rattle.page_map.specs.Keeps.{Keeps}
use Rattle.page_map.specs.PageMap.{PageMap}
use Rattle.snapshot_core.specs.declared.statuses.Status.{Status}
use Rattle.tx_table.specs.Statuses.{OfStatuses}
use Rattle.vacuum_core.specs.DeadRows.{IsPicked, dead_slots, living}
use Rattle.vacuum_core.proofs.dead_rows.list_dead.Given as goal

-- the dead ones of the rows so far are listed
abbrev pub invariant-rows : goal.invariant-rows
invariant-rows g l = record {
  kept : Keeps g.D.Disk.told l.fn.pages l.pages;
  survives : Survives g.D.Disk.told (λ (passed : PageMap). passed ≡ l.fn.pages.pages) l.fn.pages l.pages;
  started : l.fn.pages.failed ≡ None;
  ready : l.pages.failed ≡ None;
  few : length l.dead.items ≤ l.row-index;
  capacity : vec_capacity l.dead ≡ vec_capacity l.initial.dead;
  picked : (more : List ℕ) → IsPicked more (drop l.row-index l.rows) → IsPicked (l.dead.items ++ more) l.rows;
  so_far : OfStatuses g.D.Disk.told l.fn.pages (λ (statuses : List Status). l.dead.items ++ dead_slots (living l.live l.tx.first statuses) (drop l.row-index l.rows) ≡ dead_slots (living l.live l.tx.first statuses) l.rows);
}
