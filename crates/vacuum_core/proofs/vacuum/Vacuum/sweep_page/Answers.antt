use Rattle.std.proofs.Common.{◌≡◌, ◌+◌, ◌<◌, ℕ, List, length, ap, sym, subst, ◌∙◌, refl}
use Rattle.std.specs.Box.{boxed_slice_items}
use Rattle.std.specs.Prelude.{drop, vec_capacity}
use Rattle.store_layout.specs.DiskLayout.{DiskLayout}
use Rattle.page_locks.specs.LockChanges.{IsAnothers, IsFreeFor, page_of}
use Rattle.page_locks.specs.LockHolders.{holder}
use Rattle.heap_rows.specs.HeapBlocks.{HasBlocks}
use Rattle.page_store.specs.SurvivesLaws.{survives_on}
use Rattle.index_contents.specs.IndexChanges.{LeavesOtherPages, LeavesOthers}
use Rattle.index_contents.specs.IndexContents.{relation_of}
use Rattle.index_contents.specs.OrderLaws.{order_then}
use Rattle.vacuum_core.specs.declared.standing.Standing.{Standing}
use Rattle.vacuum_core.specs.declared.standing.Standing.TheVariants as standings
use Rattle.vacuum_core.specs.NextPages.{IsNextIn}
use Rattle.vacuum_core.specs.Vacuums.{StandsWell, VacuumState}
use Rattle.vacuum_core.proofs.Naming.{order_by_page}
use Rattle.vacuum_core.proofs.PageSteps.{blocks_then, index_leaves, named_by, page_leaves, step_sweeps, sweeps_page, waits_page}
use Rattle.vacuum_core.proofs.vacuum.Vacuum.sweep_page.Goals as goal

pub returns-in-Err-sweep-clause-survives : goal.returns-in-Err-sweep-clause-survives
returns-in-Err-sweep-clause-survives g c = survives_on g.D.Disk.told c.args.pages.now c.next_page.new.pages c.sweep.new.pages c.in-Ok-next_page.ensures.kept c.in-Ok-next_page.ensures.survives c.in-Err-sweep.ensures.survives

pub returns-clause-survives : goal.returns-clause-survives
returns-clause-survives g c = survives_on g.D.Disk.told c.args.pages.now c.next_page.new.pages c.sweep.new.pages c.in-Ok-next_page.ensures.kept c.in-Ok-next_page.ensures.survives c.in-Ok-sweep.ensures.survives

pub returns-in-Some-clause-does : goal.returns-in-Some-clause-does
returns-in-Some-clause-does g c = λ rights tells blocks has.
    let store = c.args.pages.now in
    let a = c.args.self.now in
    let index = c.index-index.result.now in
    let well : StandsWell store.layout a (standings.Sweeps c.args.at c.args.block) = subst (λ (q : Standing). StandsWell store.layout a q) c.requires.at c.requires.of.stands in
    let there = named_by (boxed_slice_items c.self.inside.indexes) a.indexes c.from.result c.args.at index (ap (λ (z : VacuumState). z.indexes) c.self.view_is) well.0 c.from.ensures c.index-index.ensures in
    let relation : c.relation_of-relation.result ≡ relation_of store.layout index = c.relation_of-relation.ensures.number ∙ ap (λ (l : DiskLayout). relation_of l index) c.layout-2.ensures in
    waits_page store.layout store.pages c.args.locks.now rights c.args.actor c.args.at c.args.block index a blocks c.in-Some.held c.requires.at there.0 has
    (c.in-Some.ensures.names ∙ ap (λ (r : ℕ). page_of r c.args.block) relation)
    (subst (λ (r : ℕ). IsAnothers (holder c.args.locks.now) c.args.actor (page_of r c.args.block) c.in-Some.held.by) relation c.in-Some.ensures.another)

pub returns-clause-does : goal.returns-clause-does
returns-clause-does g c = λ rights tells blocks has.
    let told = g.D.Disk.told in
    let first = c.args.pages.now in
    let mid = c.next_page.new.pages in
    let last = c.sweep.new.pages in
    let kept = c.in-Ok-next_page.ensures.kept in
    let others = c.in-Ok-sweep.ensures.others in
    let a = c.args.self.now in
    let table = c.self.inside.table in
    let indexes = boxed_slice_items c.self.inside.indexes in
    let index = c.index-index.result.now in
    let well : StandsWell first.layout a (standings.Sweeps c.args.at c.args.block) = subst (λ (q : Standing). StandsWell first.layout a q) c.requires.at c.requires.of.stands in
    let inside : c.args.at < length indexes = subst (λ (l : List ℕ). c.args.at < length l) (sym (ap (λ (z : VacuumState). z.indexes) c.self.view_is)) well.0 in
    let there = named_by indexes indexes c.from.result c.args.at index refl inside c.from.ensures c.index-index.ensures in
    let relation : c.relation_of-relation.result ≡ relation_of first.layout index = c.relation_of-relation.ensures.number ∙ ap (λ (l : DiskLayout). relation_of l index) c.layout-2.ensures in
    let declared : table < length first.layout.schema.tables = subst (λ (z : VacuumState). z.table < length first.layout.schema.tables) (sym c.self.view_is) c.requires.of.table in
    let has_too : HasBlocks first.layout first.pages table blocks = subst (λ (z : VacuumState). HasBlocks first.layout first.pages z.table blocks) (sym c.self.view_is) has in
    sweeps_page first.layout first.pages last.pages c.args.locks.now rights c.args.actor table c.args.at c.args.block index c.in-Ok-sweep.count c.self.inside.room.rows.room (vec_capacity c.self.inside.room.dead) a blocks indexes c.self.inside.course
    c.in-Ok-next_page.next c.standing_of-next.result c.answer_at.result c.self.view_is c.requires.at there.0
    (blocks_then told index c.args.block first mid last kept others table blocks declared tells has_too)
    (step_sweeps told index c.args.block first mid last kept others c.args.locks.now rights c.args.actor c.in-Ok-sweep.count blocks
    (subst (λ (r : ℕ). IsFreeFor (holder c.args.locks.now) c.args.actor (page_of r c.args.block)) relation c.in-None.ensures.free) c.in-Ok-sweep.ensures.swept c.in-Ok-sweep.ensures.counted tells)
    (subst (λ (l : List ℕ). IsNextIn first.layout first.pages (drop c.args.at l) c.args.at (c.args.block + 1) c.in-Ok-next_page.next) c.deref.ensures.value (c.in-Ok-next_page.ensures.next tells))
    c.standing_of-next.ensures c.answer_at.ensures

pub returns-clause-others : goal.returns-clause-others
returns-clause-others g c =
    let told = g.D.Disk.told in
    let first = c.args.pages.now in
    let mid = c.next_page.new.pages in
    let last = c.sweep.new.pages in
    let kept = c.in-Ok-next_page.ensures.kept in
    let others = c.in-Ok-sweep.ensures.others in
    let a = c.args.self.now in
    let index = c.index-index.result.now in
    let well : StandsWell first.layout a (standings.Sweeps c.args.at c.args.block) = subst (λ (q : Standing). StandsWell first.layout a q) c.requires.at c.requires.of.stands in
    let there = named_by (boxed_slice_items c.self.inside.indexes) a.indexes c.from.result c.args.at index (ap (λ (z : VacuumState). z.indexes) c.self.view_is) well.0 c.from.ensures c.index-index.ensures in
    subst (λ (n : ℕ). LeavesOthers told n first last × LeavesOtherPages told (page_of (relation_of first.layout n) c.args.block) first last) (sym there.1)
    (index_leaves told index c.args.block first mid last kept others, page_leaves told index c.args.block first mid last kept others)

pub returns-clause-order : goal.returns-clause-order
returns-clause-order g c = λ index low.
    let told = g.D.Disk.told in
    let first = c.args.pages.now in
    let mid = c.next_page.new.pages in
    let last = c.sweep.new.pages in
    let kept = c.in-Ok-next_page.ensures.kept in
    let this = c.index-index.result.now in
    order_by_page told this c.args.block first last (page_leaves told this c.args.block first mid last kept c.in-Ok-sweep.ensures.others) (order_then told this first mid last kept c.in-Ok-sweep.ensures.order) index
