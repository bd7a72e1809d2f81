use Rattle.std.proofs.Common.{◌+◌, ◌<◌, ℕ, List, length, sym, subst, ◌∙◌}
use Rattle.std.specs.Box.{boxed_slice_items}
use Rattle.std.specs.Prelude.{vec_capacity}
use Rattle.store_layout.specs.DiskLayout.{DiskLayout}
use Rattle.heap_rows.specs.DroppedRows.{with_slots_free}
use Rattle.heap_rows.specs.HeapBlocks.{HasBlocks}
use Rattle.heap_rows.specs.LeavesOthers.{LeavesOthers}
use Rattle.page_store.specs.SurvivesLaws.{survives_on}
use Rattle.vacuum_core.specs.Vacuums.{ComesTo, VacuumState}
use Rattle.vacuum_core.proofs.Pruned.{has_after, tables_then}
use Rattle.vacuum_core.proofs.Beginning.{prunes_rows}
use Rattle.vacuum_core.proofs.Naming.{index_stays}
use Rattle.vacuum_core.proofs.vacuum.Vacuum.prune_block.Goals as goal

pub returns-in-Err-prune-clause-survives : goal.returns-in-Err-prune-clause-survives
returns-in-Err-prune-clause-survives g c = survives_on g.D.Disk.told c.args.pages.now c.stand_at.new.pages c.prune.new.pages c.in-Ok-stand_at.ensures.kept c.in-Ok-stand_at.ensures.survives c.in-Err-prune.ensures.survives

pub returns-clause-survives : goal.returns-clause-survives
returns-clause-survives g c = survives_on g.D.Disk.told c.args.pages.now c.stand_at.new.pages c.prune.new.pages c.in-Ok-stand_at.ensures.kept c.in-Ok-stand_at.ensures.survives c.in-Ok-prune.ensures.survives

pub returns-clause-others : goal.returns-clause-others
returns-clause-others g c =
    subst (λ (a : VacuumState). LeavesOthers g.D.Disk.told a.table c.args.pages.now c.prune.new.pages) c.self.view_is
    (tables_then g.D.Disk.told c.self.inside.table c.args.pages.now c.stand_at.new.pages c.prune.new.pages c.in-Ok-stand_at.ensures.kept c.in-Ok-prune.ensures.others)

pub returns-clause-does : goal.returns-clause-does
returns-clause-does g c = λ locks rights actor tells blocks has.
    let told = g.D.Disk.told in
    let first = c.args.pages.now in
    let mid = c.stand_at.new.pages in
    let kept = c.in-Ok-stand_at.ensures.kept in
    let table = c.self.inside.table in
    let has_too : HasBlocks first.layout first.pages table blocks = subst (λ (a : VacuumState). HasBlocks first.layout first.pages a.table blocks) (sym c.self.view_is) has in
    let now = c.prune.new.dead.items in
    let there : table < length first.layout.schema.tables = subst (λ (a : VacuumState). a.table < length first.layout.schema.tables) (sym c.self.view_is) c.requires.of.table in
    prunes_rows first.layout first.pages c.prune.new.pages.pages locks rights actor table c.args.block c.in-Ok-prune.count c.self.inside.room.rows.room (vec_capacity c.self.inside.room.dead) c.prune.new.rows.room (vec_capacity c.prune.new.dead) c.args.self.now blocks
    (with_slots_free blocks c.args.block now) (boxed_slice_items c.self.inside.indexes) c.self.inside.course c.in-Ok-stand_at.next c.answer_at.result c.self.view_is c.requires.at
    (subst (λ (l : DiskLayout). HasBlocks l c.prune.new.pages.pages table (with_slots_free blocks c.args.block now)) kept.leaves.layout (c.in-Ok-prune.ensures.blocks (kept.leaves.tells ∙ tells) blocks (has_after told first mid table blocks kept tells has_too)))
    (c.in-Ok-prune.ensures.drops (kept.leaves.tells ∙ tells) blocks (has_after told first mid table blocks kept tells has_too))
    (λ index. index_stays told table first c.prune.new.pages (tables_then told table first mid c.prune.new.pages kept c.in-Ok-prune.ensures.others) there tells index)
    (subst (λ (l : List ℕ). ComesTo first.layout first.pages l c.self.inside.course.extent (c.args.block + 1) c.in-Ok-stand_at.next) c.deref.ensures.value (c.in-Ok-stand_at.ensures.comes tells))
    c.answer_at.ensures c.in-Ok-prune.ensures.room c.in-Ok-prune.ensures.capacity
