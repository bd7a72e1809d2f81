use Rattle.std.proofs.Common.{◌≡◌, ℕ, [], ◌∷◌, length, refl, sym, ap, subst, ◌∙◌, arith}
use Rattle.std.specs.Prelude.{Ok}
use Rattle.block_model.specs.declared.reply.Point.TheVariants as points
use Rattle.store_layout.specs.DiskLayout.{DiskLayout}
use Rattle.page_map.specs.Keeps.{Tells, Untold}
use Rattle.page_locks.specs.declared.did.Did.TheVariants as did
use Rattle.page_locks.specs.LockChanges.{IsFreeFor, page_of}
use Rattle.page_locks.specs.LockHolders.{LockState, holder}
use Rattle.heap_rows.specs.SurvivesLaws.{survives_still}
use Rattle.index_contents.specs.IndexContents.{contents, relation_of}
use Rattle.index_steps.specs.declared.growth_stage.Stage.TheVariants as stages
use Rattle.index_steps.specs.Called.{Called, hand_at}
use Rattle.block_model.specs.declared.schema.Sizes.{Sizes}
use Rattle.coverage.specs.Verdicts.{IsTarget}
use Rattle.index_steps.specs.IndexTuples.{shape_of}
use Rattle.page_locks.specs.LockChanges.{IsFirstHeld, TakesAll}
use Rattle.index_steps.specs.GrowthSteps.{StepFull, growth_at}
use Rattle.index_steps.specs.LockLaws.{few_more, takes_apart, takes_more}
use Rattle.index_steps.proofs.Refusals.{done, full, same_keeps, waits}
use Rattle.index_steps.proofs.Standing.{moves_at, put_full_at, put_waits_at}
use Rattle.index_steps.proofs.moving_off.put_elsewhere.Goals as goal

pub returns-in-None : goal.returns-in-None
returns-in-None g c = λ was.
    let store = c.args.pages.now in
    let at = (c.relation_of-relation.ensures.number ∙ ap (λ (l : DiskLayout). relation_of l c.args.at.index) c.layout.ensures) in
    let number = c.from.ensures ∙ ap (λ (s : Sizes). s.index_blocks) (c.sizes.ensures ∙ ap (λ (l : DiskLayout). l.sizes) c.layout-in-None.ensures) in
    full g.D.Disk.told store store (same_keeps g.D.Disk.told store) c.args.at.actor (survives_still g.D.Disk.told store c.known.ensures.stays) (Untold g.D.Disk.told store) (hand_at c.args.at.index stages.Judge was) c.args.bytes.now c.args.locks.now
    c.relation_of-relation.result c.from.result at
    (λ tells. subst (λ (n : ℕ). StepFull (shape_of store.layout c.args.at.index) c.args.at.actor (growth_at store.layout store.pages c.args.locks.now (hand_at c.args.at.index stages.Judge was)) n) (sym number)
    (put_full_at store.layout store.pages c.args.at.index c.args.at.actor was c.args.bytes.now c.args.locks.now (relation_of store.layout c.args.at.index) refl c.args.from.block store.pages c.args.from c.args.bytes.now c.args.at.range (c.requires.next tells) (c.requires.first tells) (c.requires.of tells) (c.requires.named tells) c.requires.free (c.room_for.ensures.none c.in-None.is tells)))
    (c.requires.ready, c.requires.ready, omega arith)

pub returns-in-Err : goal.returns-in-Err
returns-in-Err g c = λ was.
    let store = c.args.pages.now in
    let at = (c.relation_of-relation.ensures.number ∙ ap (λ (l : DiskLayout). relation_of l c.args.at.index) c.layout.ensures) in
    subst (λ (l : LockState). Called g.D.Disk.told c.args.at.actor (Untold g.D.Disk.told store) (hand_at c.args.at.index stages.Judge was) c.args.bytes.now store store c.args.locks.now l (Ok (stages.Judge, did.Blocked c.in-Err.held))) (sym c.in-Err.ensures.same)
    (waits g.D.Disk.told store store (same_keeps g.D.Disk.told store) c.args.at.actor (survives_still g.D.Disk.told store c.known.ensures.stays) (Untold g.D.Disk.told store) c.args.at.index was c.args.bytes.now c.args.locks.now c.in-Err.held
    (c.in-Err.ensures.names ∙ at, c.in-Err.ensures.by.0, c.in-Err.ensures.by.1)
    (λ tells. put_waits_at store.layout store.pages c.args.at.index c.args.at.actor was c.args.bytes.now c.args.locks.now c.relation_of-relation.result at c.args.from.block store.pages c.args.from c.args.bytes.now c.args.at.range (c.requires.next tells) (c.requires.first tells) (c.requires.of tells) (c.requires.named tells) c.in-Some.block c.in-Err.held.page.block
    (subst (λ (r : ℕ). IsFreeFor (holder c.args.locks.now) c.args.at.actor (page_of r c.args.from.block)) (sym at) c.requires.free) (c.in-Some.ensures.target tells)
    (subst (λ (n : ℕ). IsFirstHeld (holder c.args.locks.now) c.relation_of-relation.result c.args.at.actor (c.args.from.block ∷ c.in-Some.block ∷ n ∷ []) c.in-Err.held.page.block) c.map_page_of.ensures c.in-Err.ensures.refused))
    (c.requires.ready, c.requires.ready, omega arith))

pub returns-in-Ok-put : goal.returns-in-Ok-put
returns-in-Ok-put g c = λ was.
    let store = c.args.pages.now in
    let at = (c.relation_of-relation.ensures.number ∙ ap (λ (l : DiskLayout). relation_of l c.args.at.index) c.layout.ensures) in
    let to = c.in-Ok-put.to in
    let here : to.block ≡ c.in-Some.block = c.in-Ok-put.ensures.block in
    let target : Tells g.D.Disk.told store → IsTarget (contents store.layout store.pages c.args.at.index).pages (contents store.layout store.pages c.args.at.index).bytes (length c.args.bytes.now) to.block =
    λ tells. subst (λ (b : ℕ). IsTarget (contents store.layout store.pages c.args.at.index).pages (contents store.layout store.pages c.args.at.index).bytes (length c.args.bytes.now) b) (sym here) (c.in-Some.ensures.target tells) in
    let these = subst (λ (n : ℕ). TakesAll (holder c.args.locks.now) (holder c.take_all.new.self) c.relation_of-relation.result (c.args.from.block ∷ to.block ∷ n ∷ []) c.args.at.actor) c.map_page_of.ensures
    (subst (λ (b : ℕ). TakesAll (holder c.args.locks.now) (holder c.take_all.new.self) c.relation_of-relation.result (c.args.from.block ∷ b ∷ c.map_page_of.result ∷ []) c.args.at.actor) (sym here) c.in-Ok.ensures.taken) in
    done g.D.Disk.told c.args.at.actor (Untold g.D.Disk.told store) (hand_at c.args.at.index stages.Judge was) c.args.bytes.now store c.put.new.pages c.args.locks.now c.take_all.new.self (stages.Set c.args.at.range c.args.from to) (did.Moved points.Put)
    (λ tells. moves_at store.layout store.pages c.args.at.index c.args.at.actor was c.args.bytes.now c.args.locks.now c.relation_of-relation.result at c.args.from.block c.put.new.pages.pages c.args.from c.args.bytes.now c.args.at.range (c.requires.next tells) (c.requires.first tells) (c.requires.of tells) (c.requires.named tells) to c.take_all.new.self (target tells) these (c.in-Ok-put.ensures.put tells))
    refl tt c.put.ensures.others
    (takes_apart c.relation_of-relation.result (relation_of store.layout c.args.at.index) c.args.at.actor (holder c.args.locks.now) (holder c.take_all.new.self) (c.args.from.block ∷ c.in-Some.block ∷ c.map_page_of.result ∷ []) at c.in-Ok.ensures.taken)
    (takes_more 3 3 c.args.locks.now c.take_all.new.self c.args.at.actor (omega arith) c.take_all.ensures.limit c.take_all.ensures.counts)
    (λ gives. absurd gives) (λ few. few_more 3 0 3 c.args.locks.now c.take_all.new.self c.args.at.actor c.take_all.ensures.counts few (omega arith))
    (c.put.ensures.order (λ tells. c.a_target_takes_its_tuple.ensures.first _ _ _ _ (c.in-Some.ensures.target tells)))
    c.put.ensures.survives c.in-Ok-put.ensures.outcome
