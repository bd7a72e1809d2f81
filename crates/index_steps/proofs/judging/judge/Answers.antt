use Rattle.std.proofs.Common.{ℕ, sym, ap, subst, ◌∙◌}
use Rattle.store_layout.specs.DiskLayout.{DiskLayout}
use Rattle.page_map.specs.Keeps.{Tells, Untold}
use Rattle.index_contents.specs.IndexContents.{relation_of}
use Rattle.index_steps.specs.declared.growth_stage.Stage.TheVariants as stages
use Rattle.index_steps.specs.Called.{hand_at}
use Rattle.block_model.specs.declared.schema.Sizes.{Sizes}
use Rattle.index_steps.specs.IndexTuples.{shape_of}
use Rattle.index_steps.specs.NextPages.{IsNext, IsNextDamaged}
use Rattle.index_steps.specs.GrowthSteps.{StepFull, growth_at}
use Rattle.index_steps.proofs.Onward.{called_on, called_too}
use Rattle.index_steps.proofs.Refusals.{full}
use Rattle.index_steps.proofs.Standing.{map_full_at}
use Rattle.index_steps.proofs.judging.judge.Goals as goal

pub returns-in-Ok-Some-clause-called : goal.returns-in-Ok-Some-clause-called
returns-in-Ok-Some-clause-called g c = λ was.
    let store = c.args.pages.now in
    called_too g.D.Disk.told c.args.actor (Untold g.D.Disk.told store) _ (hand_at c.args.index stages.Judge was) c.go_on.new.moved store c.go_on.new.pages c.args.locks.now c.go_on.new.locks c.go_on.result (λ untold tells. absurd (untold tells))
    (called_on g.D.Disk.told store c.next_page.new.pages c.go_on.new.pages c.next_page.ensures.kept c.in-Ok-Some.ensures.outcome.0 c.in-Ok-Some.ensures.outcome.1 c.in-Ok-Some.ensures.outcome.2 c.args.actor (hand_at c.args.index stages.Judge was) c.go_on.new.moved c.args.locks.now c.go_on.new.locks c.go_on.result c.next_page.ensures.survives
    (c.go_on.ensures was))

pub returns-in-Ok-None-clause-called : goal.returns-in-Ok-None-clause-called
returns-in-Ok-None-clause-called g c = λ was.
    let store = c.args.pages.now in
    let at = (c.relation_of-relation.ensures.number ∙ ap (λ (l : DiskLayout). relation_of l c.args.index) c.layout.ensures) in
    let number = c.from.ensures ∙ ap (λ (s : Sizes). s.index_blocks) (c.sizes.ensures ∙ ap (λ (l : DiskLayout). l.sizes) (c.layout-in-Ok-None.ensures ∙ c.next_page.ensures.kept.leaves.layout)) in
    full g.D.Disk.told store c.next_page.new.pages c.next_page.ensures.kept c.args.actor c.next_page.ensures.survives (Tells g.D.Disk.told store → IsNextDamaged store.layout store.pages c.args.index) (hand_at c.args.index stages.Judge was) c.args.moved.now c.args.locks.now
    c.relation_of-relation.result c.from.result at
    (λ tells. subst (λ (n : ℕ). StepFull (shape_of store.layout c.args.index) c.args.actor (growth_at store.layout store.pages c.args.locks.now (hand_at c.args.index stages.Judge was)) n) (sym number)
    (map_full_at store.layout store.pages c.args.index c.args.actor was c.args.moved.now c.args.locks.now c.relation_of-relation.result at (subst (IsNext store.layout store.pages c.args.index) c.in-Ok-None.field-0-is (c.in-Ok-None.ensures.next tells))))
    (c.in-Ok-None.ensures.outcome.0, c.in-Ok-None.ensures.outcome.1, c.in-Ok-None.ensures.outcome.2)
