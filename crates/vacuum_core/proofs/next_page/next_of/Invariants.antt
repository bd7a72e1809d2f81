use Rattle.std.proofs.Common.{◌≡◌, ◌≤◌, ◌<◌, ℕ}
use Rattle.std.specs.Prelude.{None}
use Rattle.page_store.specs.Survives.{Survives}
use Rattle.page_map.specs.Keeps.{Keeps, Tells}
use Rattle.page_map.specs.PageMap.{PageMap}
use Rattle.coverage.specs.PageOrder.{IsForTuples}
use Rattle.index_contents.specs.IndexContents.{contents}
use Rattle.vacuum_core.proofs.next_page.next_of.Given as goal

-- no page so far has tuples
abbrev pub invariant-later : goal.invariant-later
invariant-later g l = record {
  kept : Keeps g.D.Disk.told l.fn.pages l.pages;
  survives : Survives g.D.Disk.told (λ (passed : PageMap). passed ≡ l.fn.pages.pages) l.fn.pages l.pages;
  started : l.fn.pages.failed ≡ None;
  ready : l.pages.failed ≡ None;
  none : Tells g.D.Disk.told l.fn.pages → (p : ℕ) → l.from ≤ p → p < l.block → IsForTuples (contents l.fn.pages.layout l.fn.pages.pages l.index).pages p → ⊥;
}
