use Rattle.std.proofs.Common.{refl, ap, ◌∙◌, arith}
use Rattle.block_model.specs.declared.place.Place.{Place}
use Rattle.block_model.specs.declared.reply.Point.TheVariants as points
use Rattle.store_layout.specs.DiskLayout.{DiskLayout}
use Rattle.page_map.specs.Keeps.{Untold}
use Rattle.page_locks.specs.declared.did.Did.TheVariants as did
use Rattle.page_locks.specs.LockHolders.{holder}
use Rattle.heap_rows.specs.SurvivesLaws.{survives_still}
use Rattle.index_contents.specs.IndexContents.{relation_of}
use Rattle.index_steps.specs.declared.growth_stage.Stage.TheVariants as stages
use Rattle.index_steps.specs.Called.{hand_at}
use Rattle.index_steps.specs.LockLaws.{gives_apart, takes_more}
use Rattle.index_steps.proofs.Refusals.{done, same_keeps, waits}
use Rattle.index_steps.proofs.Standing.{count_waits_at, counts_left_over_at}
use Rattle.index_steps.proofs.counting.count_left_over.Goals as goal

pub returns-in-Some : goal.returns-in-Some
returns-in-Some g c = λ was moved.
    let store = c.args.pages.now in
    let at = (c.relation_of-relation.ensures.number ∙ ap (λ (l : DiskLayout). relation_of l c.args.index) c.layout.ensures) in
    waits g.D.Disk.told store store (same_keeps g.D.Disk.told store) c.args.actor (survives_still g.D.Disk.told store c.known.ensures.stays) (Untold g.D.Disk.told c.args.pages.now) c.args.index was moved c.args.locks.now c.in-Some.held
    (ap (λ (p : Place). p.relation) c.in-Some.ensures.names ∙ at, ap (holder c.args.locks.now) c.in-Some.ensures.names ∙ c.in-Some.ensures.another.0, c.in-Some.ensures.another.1)
    (λ tells. count_waits_at store.layout store.pages c.args.index c.args.actor was moved c.args.locks.now c.relation_of-relation.result at c.args.block c.in-Some.held c.in-Some.ensures.names c.in-Some.ensures.another (c.requires.next tells))
    (c.requires.ready, c.requires.ready, omega arith)

pub returns-in-Ok : goal.returns-in-Ok
returns-in-Ok g c = λ was moved.
    let store = c.args.pages.now in
    done g.D.Disk.told c.args.actor (Untold g.D.Disk.told c.args.pages.now) (hand_at c.args.index stages.Judge was) moved store c.count.new.pages c.args.locks.now c.count.new.locks stages.Judge (did.Finished points.Meta)
    (λ tells. counts_left_over_at store.layout store.pages c.args.index c.args.actor was moved c.args.locks.now c.relation_of-relation.result (c.relation_of-relation.ensures.number ∙ ap (λ (l : DiskLayout). relation_of l c.args.index) c.layout.ensures) c.args.block c.count.new.pages.pages c.count.new.locks (c.requires.next tells) c.in-None.ensures.free (c.in-Ok.ensures.counted tells) c.in-Ok.ensures.given.all)
    (refl, refl, refl) tt c.count.ensures.others (gives_apart (relation_of store.layout c.args.index) c.args.actor (holder c.args.locks.now) (holder c.count.new.locks) c.in-Ok.ensures.given.all)
    (takes_more 0 3 c.args.locks.now c.count.new.locks c.args.actor (omega arith) c.count.ensures.counts.limit c.count.ensures.counts.adds)
    (λ gives. c.in-Ok.ensures.given.none) (λ few. omega (arith, c.in-Ok.ensures.given.none)) c.count.ensures.order c.count.ensures.survives c.in-Ok.ensures.outcome
