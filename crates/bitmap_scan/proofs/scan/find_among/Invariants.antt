use Rattle.std.proofs.Common.{◌≡◌, ◌++◌, List, None, drop}
use Rattle.page_store.specs.Survives.{Survives}
use Rattle.page_map.specs.Keeps.{Keeps}
use Rattle.page_map.specs.PageMap.{PageMap}
use Rattle.snapshot_core.specs.declared.statuses.Status.{Status}
use Rattle.tx_table.specs.Statuses.{OfStatuses}
use Rattle.bitmap_scan.specs.Finds.{visible_matches}
use Rattle.bitmap_scan.specs.LastStatuses.{Remembers}
use Rattle.bitmap_scan.proofs.Ordered.{IsAhead}
use Rattle.bitmap_scan.proofs.VisibleRows.{sight_of}
use Rattle.bitmap_scan.proofs.scan.find_among.Given as goal

abbrev pub invariant-rows : goal.invariant-rows
invariant-rows g l = record {
  kept : Keeps g.D.Disk.told l.fn.pages l.pages;
  survives : Survives g.D.Disk.told (λ (passed : PageMap). passed ≡ l.fn.pages.pages) l.fn.pages l.pages;
  started : l.fn.pages.failed ≡ None;
  ready : l.pages.failed ≡ None;
  ahead : IsAhead l.block l.initial.found.items l.found.items (drop l.row-index l.rows);
  so_far : OfStatuses g.D.Disk.told l.fn.pages (λ (statuses : List Status). l.found.items ++ visible_matches (sight_of l.snapshot l.own l.tx.first statuses) l.query l.block (drop l.row-index l.rows)
      ≡ l.initial.found.items ++ visible_matches (sight_of l.snapshot l.own l.tx.first statuses) l.query l.block l.rows);
  remembers : OfStatuses g.D.Disk.told l.fn.pages (λ (statuses : List Status). Remembers (sight_of l.snapshot l.own l.tx.first statuses) l.last);
}
