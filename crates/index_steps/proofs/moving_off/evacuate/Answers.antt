use Rattle.std.proofs.Common.{List, ℕ, ap, subst, ◌∙◌, arith}
use Rattle.block_model.specs.declared.place.Place.{Place}
use Rattle.store_layout.specs.DiskLayout.{DiskLayout}
use Rattle.page_map.specs.Keeps.{Untold}
use Rattle.page_locks.specs.LockHolders.{holder}
use Rattle.heap_rows.specs.SurvivesLaws.{survives_still}
use Rattle.index_contents.specs.IndexContents.{relation_of}
use Rattle.index_steps.specs.declared.growth_stage.Stage.TheVariants as stages
use Rattle.index_steps.specs.Called.{Called, hand_at}
use Rattle.index_steps.proofs.Onward.{called_on}
use Rattle.index_steps.proofs.Refusals.{same_keeps, waits}
use Rattle.index_steps.proofs.Standing.{evacuate_waits_at}
use Rattle.index_steps.proofs.moving_off.evacuate.Goals as goal

pub returns-in-Some : goal.returns-in-Some
returns-in-Some g c = λ was.
    let store = c.args.pages.now in
    let at = (c.relation_of-relation.ensures.number ∙ ap (λ (l : DiskLayout). relation_of l c.args.index) c.layout.ensures) in
    waits g.D.Disk.told store store (same_keeps g.D.Disk.told store) c.args.actor (survives_still g.D.Disk.told store c.known.ensures.stays) (Untold g.D.Disk.told c.args.pages.now) c.args.index was c.args.moved.now c.args.locks.now c.in-Some.held
    (ap (λ (p : Place). p.relation) c.in-Some.ensures.names ∙ at, ap (holder c.args.locks.now) c.in-Some.ensures.names ∙ c.in-Some.ensures.another.0, c.in-Some.ensures.another.1)
    (λ tells. evacuate_waits_at store.layout store.pages c.args.index c.args.actor was c.args.moved.now c.args.locks.now c.relation_of-relation.result at c.args.block c.in-Some.held (record { block = c.args.block; slot = c.args.first.slot }) c.args.moved.now c.in-Some.ensures.names c.in-Some.ensures.another (c.requires.next tells) (c.requires.first tells).0)
    (c.requires.ready, c.requires.ready, omega arith)

pub returns-in-Ok-Some : goal.returns-in-Ok-Some
returns-in-Ok-Some g c = λ was.
    called_on g.D.Disk.told c.args.pages.now c.named.new.pages c.put_elsewhere.new.pages c.named.ensures.kept c.in-Ok-Some.ensures.outcome.0 c.in-Ok-Some.ensures.outcome.1 c.in-Ok-Some.ensures.outcome.2 c.args.actor (hand_at c.args.index stages.Judge was) c.args.moved.now c.args.locks.now c.put_elsewhere.new.locks c.put_elsewhere.result c.named.ensures.survives
    (subst (λ (b : List ℕ). Called g.D.Disk.told c.args.actor (Untold g.D.Disk.told c.named.new.pages) (hand_at c.args.index stages.Judge was) b c.named.new.pages c.put_elsewhere.new.pages c.args.locks.now c.put_elsewhere.new.locks c.put_elsewhere.result) c.bytes.ensures (c.put_elsewhere.ensures was))

pub returns-in-Ok-None : goal.returns-in-Ok-None
returns-in-Ok-None g c = λ was.
    called_on g.D.Disk.told c.args.pages.now c.named.new.pages c.drop_unnamed.new.pages c.named.ensures.kept c.in-Ok-None.ensures.outcome.0 c.in-Ok-None.ensures.outcome.1 c.in-Ok-None.ensures.outcome.2 c.args.actor (hand_at c.args.index stages.Judge was) c.args.moved.now c.args.locks.now c.args.locks.now c.drop_unnamed.result c.named.ensures.survives
    (subst (λ (b : List ℕ). Called g.D.Disk.told c.args.actor (Untold g.D.Disk.told c.named.new.pages) (hand_at c.args.index stages.Judge was) b c.named.new.pages c.drop_unnamed.new.pages c.args.locks.now c.args.locks.now c.drop_unnamed.result) c.bytes-in-Ok-None.ensures (c.drop_unnamed.ensures was))
