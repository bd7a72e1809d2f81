use Rattle.std.proofs.Common.{[], ◌∷◌, refl, sym, ap, subst, ◌∙◌, arith}
use Rattle.std.specs.Prelude.{Ok}
use Rattle.block_model.specs.declared.reply.Point.TheVariants as points
use Rattle.store_layout.specs.DiskLayout.{DiskLayout}
use Rattle.page_map.specs.Keeps.{Untold}
use Rattle.page_locks.specs.declared.did.Did.TheVariants as did
use Rattle.page_locks.specs.LockHolders.{LockState, holder}
use Rattle.heap_rows.specs.SurvivesLaws.{survives_still}
use Rattle.index_contents.specs.IndexContents.{relation_of}
use Rattle.index_steps.specs.declared.growth_stage.Stage.TheVariants as stages
use Rattle.index_steps.specs.Called.{Called, hand_at}
use Rattle.index_steps.specs.LockLaws.{few_more, takes_apart, takes_more}
use Rattle.index_steps.proofs.Refusals.{done, same_keeps, waits}
use Rattle.index_steps.proofs.Standing.{start_waits_at, starts_at}
use Rattle.index_steps.proofs.judging.start.Goals as goal

pub returns-in-Err : goal.returns-in-Err
returns-in-Err g c = λ was moved.
    let store = c.args.pages.now in
    let at = (c.relation_of-relation.ensures.number ∙ ap (λ (l : DiskLayout). relation_of l c.args.index) c.layout.ensures) in
    subst (λ (l : LockState). Called g.D.Disk.told c.args.actor (Untold g.D.Disk.told c.args.pages.now) (hand_at c.args.index stages.Judge was) moved store store c.args.locks.now l (Ok (stages.Judge, did.Blocked c.in-Err.held))) (sym c.in-Err.ensures.same)
    (waits g.D.Disk.told store store (same_keeps g.D.Disk.told store) c.args.actor (survives_still g.D.Disk.told store c.known.ensures.stays) (Untold g.D.Disk.told c.args.pages.now) c.args.index was moved c.args.locks.now c.in-Err.held
    (c.in-Err.ensures.names ∙ at, c.in-Err.ensures.by.0, c.in-Err.ensures.by.1)
    (λ tells. start_waits_at store.layout store.pages c.args.index c.args.actor was moved c.args.locks.now c.relation_of-relation.result at c.args.block c.in-Err.held.page.block (c.requires.next tells) c.in-Err.ensures.refused)
    (c.requires.ready, c.requires.ready, omega arith))

pub returns-in-Ok-start_map_page : goal.returns-in-Ok-start_map_page
returns-in-Ok-start_map_page g c = λ was moved.
    let store = c.args.pages.now in
    let at = (c.relation_of-relation.ensures.number ∙ ap (λ (l : DiskLayout). relation_of l c.args.index) c.layout.ensures) in
    done g.D.Disk.told c.args.actor (Untold g.D.Disk.told c.args.pages.now) (hand_at c.args.index stages.Judge was) moved store c.start_map_page.new.pages c.args.locks.now c.take_all.new.self stages.Count (did.Moved points.Grow)
    (λ tells. starts_at store.layout store.pages c.args.index c.args.actor was moved c.args.locks.now c.relation_of-relation.result at c.args.block c.start_map_page.new.pages.pages c.take_all.new.self (c.requires.next tells) c.in-Ok.ensures.taken (c.in-Ok-start_map_page.ensures.turned tells))
    refl tt c.start_map_page.ensures.others
    (takes_apart c.relation_of-relation.result (relation_of store.layout c.args.index) c.args.actor (holder c.args.locks.now) (holder c.take_all.new.self) (c.args.block ∷ 0 ∷ []) at c.in-Ok.ensures.taken)
    (takes_more 2 3 c.args.locks.now c.take_all.new.self c.args.actor (omega arith) c.take_all.ensures.limit c.take_all.ensures.counts)
    (λ gives. absurd gives) (λ few. few_more 2 0 2 c.args.locks.now c.take_all.new.self c.args.actor c.take_all.ensures.counts few (omega arith))
    c.start_map_page.ensures.order c.start_map_page.ensures.survives c.in-Ok-start_map_page.ensures.outcome
