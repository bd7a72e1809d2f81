use Rattle.std.proofs.Common.{◌≡◌, ◌≤◌}
use Rattle.std.specs.Prelude.{None}
use Rattle.page_map.specs.Keeps.{Keeps, Tells}
use Rattle.page_store.specs.Survives.{Survives}
use Rattle.tx_table.specs.Durable.{IsBefore}
use Rattle.tx_table.specs.Statuses.{number_limit}
use Rattle.tx_table.proofs.Openings.{IsNextBelow}
use Rattle.tx_table.proofs.opening.next_number.Given as goal

-- the next number is that of the blocks that were read, and no page is changed
abbrev pub invariant-blocks-2 : goal.invariant-blocks-2
invariant-blocks-2 g l = record {
  kept : Keeps g.D.Disk.told l.fn.pages l.pages;
  survives : Survives g.D.Disk.told (IsBefore l.fn.pages) l.fn.pages l.pages;
  began : l.fn.pages.failed ≡ None;
  none : l.pages.failed ≡ None;
  some : 1 ≤ l.next;
  within : l.next ≤ number_limit l.fn.pages.layout;
  next : Tells g.D.Disk.told l.fn.pages → IsNextBelow l.fn.pages.pages l.block l.next;
}
