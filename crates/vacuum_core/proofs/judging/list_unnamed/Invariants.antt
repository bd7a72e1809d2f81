use Rattle.std.proofs.Common.{◌≡◌, ◌≤◌, ◌<◌, ◌*◌, ℕ, true, length}
use Rattle.std.specs.Prelude.{◌↔◌, None, vec_capacity}
use Rattle.page_store.specs.Survives.{Survives}
use Rattle.page_map.specs.Keeps.{Keeps, Tells}
use Rattle.page_map.specs.PageMap.{PageMap}
use Rattle.coverage.specs.Counts.{IsCountBelow}
use Rattle.index_layout.specs.IndexWrites.{are_ascending}
use Rattle.index_contents.specs.IndexContents.{contents}
use Rattle.vacuum_core.specs.SweptPages.{IsListed, IsUnnamedOn}
use Rattle.vacuum_core.proofs.judging.list_unnamed.Given as goal

-- the unnamed tuples in the slots so far are listed, and counted
abbrev pub invariant-slots : goal.invariant-slots
invariant-slots g l = record {
  kept : Keeps g.D.Disk.told l.fn.pages l.pages;
  survives : Survives g.D.Disk.told (λ (passed : PageMap). passed ≡ l.fn.pages.pages) l.fn.pages l.pages;
  started : l.fn.pages.failed ≡ None;
  ready : l.pages.failed ≡ None;
  capacity : vec_capacity l.unnamed ≡ vec_capacity l.initial.unnamed;
  few : length l.unnamed.items ≤ 2 * l.slot;
  small : l.count ≤ l.slot;
  ascending : are_ascending 0 l.slot l.unnamed.items ≡ true;
  listed : Tells g.D.Disk.told l.fn.pages → (n : ℕ) → IsListed l.unnamed.items n ↔ ((n < l.slot) × IsUnnamedOn (contents l.fn.pages.layout l.fn.pages.pages l.index) l.page (record { block = l.block; slot = n }));
  counted : Tells g.D.Disk.told l.fn.pages → IsCountBelow (λ (k : ℕ). IsUnnamedOn (contents l.fn.pages.layout l.fn.pages.pages l.index) l.page (record { block = l.block; slot = k })) l.slot l.count;
}
