use Rattle.std.proofs.Common.{◌≡◌, ◌⊎◌, ◌<◌, ℕ, drop}
use Rattle.std.specs.Prelude.{None, Option}
use Rattle.page_store.specs.Survives.{Survives}
use Rattle.page_map.specs.Keeps.{Keeps, Tells}
use Rattle.page_map.specs.PageMap.{PageMap}
use Rattle.vacuum_core.specs.NextPages.{IsNextIn}
use Rattle.vacuum_core.proofs.next_page.next_page.Given as goal

-- what comes next from here on comes next in all
abbrev pub invariant-places : goal.invariant-places
invariant-places g l = record {
  kept : Keeps g.D.Disk.told l.fn.pages l.pages;
  survives : Survives g.D.Disk.told (λ (passed : PageMap). passed ≡ l.fn.pages.pages) l.fn.pages l.pages;
  started : l.fn.pages.failed ≡ None;
  ready : l.pages.failed ≡ None;
  behind : ((l.place ≡ l.at) × (l.start ≡ l.from)) ⊎ (l.at < l.place);
  so_far : Tells g.D.Disk.told l.fn.pages → (next : Option (ℕ × ℕ)) → IsNextIn l.fn.pages.layout l.fn.pages.pages (drop l.place l.indexes) l.place l.start next
      → IsNextIn l.fn.pages.layout l.fn.pages.pages (drop l.at l.indexes) l.at l.from next;
}
