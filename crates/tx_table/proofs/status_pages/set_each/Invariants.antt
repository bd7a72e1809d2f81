use Rattle.std.proofs.Common.{◌≡◌, List, take}
use Rattle.std.specs.Prelude.{None}
use Rattle.snapshot_core.specs.declared.statuses.Status.{Status}
use Rattle.page_store.specs.Survives.{Survives}
use Rattle.tx_table.specs.Durable.{HasPart}
use Rattle.tx_table.specs.LeavesRest.{LeavesRest}
use Rattle.tx_table.specs.Statuses.{HasStatuses, OfStatuses, with_all}
use Rattle.tx_table.proofs.status_pages.set_each.Given as goal

-- a first part of the list has the status
abbrev pub invariant-list : goal.invariant-list
invariant-list g l = record {
  began : l.fn.pages.failed ≡ None;
  none : l.pages.failed ≡ None;
  rest : LeavesRest g.D.Disk.told l.fn.pages l.pages;
  survives : Survives g.D.Disk.told (HasPart l.fn.pages.layout l.fn.pages.pages l.list l.status) l.fn.pages l.pages;
  set : OfStatuses g.D.Disk.told l.fn.pages (λ (statuses : List Status). HasStatuses l.fn.pages.layout l.pages.pages (with_all statuses (take l.t-index l.list) l.status));
}
