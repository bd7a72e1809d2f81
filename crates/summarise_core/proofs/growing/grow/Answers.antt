use Rattle.std.proofs.Common.{ℕ, refl, sym, subst}
use Rattle.page_locks.specs.declared.did.Did.{Did}
use Rattle.page_locks.specs.LockHolders.{holder}
use Rattle.page_map.specs.Keeps.{Tells}
use Rattle.index_contents.specs.IndexChanges.{LeavesOthers}
use Rattle.index_contents.specs.KeepsOrder.{KeepsOrder}
use Rattle.index_contents.specs.IndexContents.{contents, relation_of}
use Rattle.index_steps.specs.IndexTuples.{shape_of}
use Rattle.index_steps.specs.StepAnswers.{BlockedWell}
use Rattle.index_steps.specs.SwapAnswers.{FaultNamesPageOf, LeavesLocks, SaysFullIn}
use Rattle.index_steps.specs.GrowthSteps.{StepFull as GrowthFull}
use Rattle.index_steps.specs.StepCauses.{DamageAt as DamageToGrow, IsReady as IsReadyToGrow}
use Rattle.index_steps.proofs.Onward.{full_too}
use Rattle.summarise_core.specs.declared.range_stage.Stage.TheVariants as stages
use Rattle.summarise_core.specs.Growths.{onward}
use Rattle.summarise_core.specs.SummariseSteps.{RestsBlocked, StandsAfter, StepsAt}
use Rattle.summarise_core.proofs.Grown.{blocked_on, ends_give, full_to_grow, growth_in, grown, rests_on, same_index, stands_on}
use Rattle.summarise_core.proofs.growing.grow.Goals as goal

pub returns-in-Ok-clause-stepped : goal.returns-in-Ok-clause-stepped
returns-in-Ok-clause-stepped g c = λ tells heap hand.
    let store = c.args.pages.now in
    let at = c.args.at in
    let was = c.args.growth.now in
    let is = c.step.new.self in
    subst (λ (done : Did). StepsAt store.layout store.pages c.step.new.pages.pages c.args.locks.now c.step.new.locks at heap (record hand { stage = stages.Place; growth = was }) (record hand { stage = stages.Place; growth = is }) done) (sym c.onward.ensures)
    (grown store.layout store.pages c.step.new.pages.pages c.args.locks.now c.step.new.locks at.index at.actor at.range was is c.requires.of heap hand c.in-Ok.did (c.requires.needed tells) c.in-Ok.ensures.stands
    (c.in-Ok.ensures.stepped tells))

pub returns-in-Ok-clause-stands : goal.returns-in-Ok-clause-stands
returns-in-Ok-clause-stands g c =
    subst (λ (done : Did). StandsAfter c.args.growth.now.stage stages.Place stages.Place done) (sym c.onward.ensures) (stands_on c.args.growth.now c.step.new.self c.in-Ok.did c.in-Ok.ensures.stands)

pub returns-in-Ok-clause-rests : goal.returns-in-Ok-clause-rests
returns-in-Ok-clause-rests g c = λ hand.
    subst (λ (done : Did). RestsBlocked (record hand { stage = stages.Place; growth = c.args.growth.now }) (record hand { stage = stages.Place; growth = c.step.new.self }) done) (sym c.onward.ensures)
    (rests_on c.args.growth.now c.step.new.self hand c.in-Ok.did c.in-Ok.ensures.stands)

pub returns-in-Ok-clause-same_index : goal.returns-in-Ok-clause-same_index
returns-in-Ok-clause-same_index g c = same_index c.args.growth.now c.step.new.self c.in-Ok.did c.in-Ok.ensures.stands

pub returns-in-Ok-clause-blocked : goal.returns-in-Ok-clause-blocked
returns-in-Ok-clause-blocked g c =
    let old = c.args.pages.now in
    let new = c.step.new.pages in
    let at = c.args.at in
    subst (λ (done : Did). BlockedWell g.D.Disk.told at.index at.actor old new c.args.locks.now c.step.new.locks done) (sym c.onward.ensures)
    (subst (λ (i : ℕ). BlockedWell g.D.Disk.told i at.actor old new c.args.locks.now c.step.new.locks (onward c.in-Ok.did)) c.requires.of
    (blocked_on g.D.Disk.told c.args.growth.now.index at.actor old new c.args.locks.now c.step.new.locks c.in-Ok.did c.in-Ok.ensures.blocked))

pub returns-in-Ok-clause-given : goal.returns-in-Ok-clause-given
returns-in-Ok-clause-given g c = λ ends. c.in-Ok.ensures.given (ends_give c.args.growth.now.stage c.in-Ok.did ends)

pub returns-in-Ok-clause-others : goal.returns-in-Ok-clause-others
returns-in-Ok-clause-others g c = subst (λ (i : ℕ). LeavesOthers g.D.Disk.told i c.args.pages.now c.step.new.pages) c.requires.of c.step.ensures.others

pub returns-in-Err-clause-others : goal.returns-in-Err-clause-others
returns-in-Err-clause-others g c = subst (λ (i : ℕ). LeavesOthers g.D.Disk.told i c.args.pages.now c.step.new.pages) c.requires.of c.step.ensures.others

pub returns-in-Ok-clause-locks : goal.returns-in-Ok-clause-locks
returns-in-Ok-clause-locks g c = subst (λ (i : ℕ). LeavesLocks (holder c.args.locks.now) (holder c.step.new.locks) (relation_of c.args.pages.now.layout i) c.args.at.actor) c.requires.of c.step.ensures.locks

pub returns-in-Err-clause-locks : goal.returns-in-Err-clause-locks
returns-in-Err-clause-locks g c = subst (λ (i : ℕ). LeavesLocks (holder c.args.locks.now) (holder c.step.new.locks) (relation_of c.args.pages.now.layout i) c.args.at.actor) c.requires.of c.step.ensures.locks

pub returns-in-Ok-clause-undamaged : goal.returns-in-Ok-clause-undamaged
returns-in-Ok-clause-undamaged g c = subst (λ (i : ℕ). Tells g.D.Disk.told c.args.pages.now → DamageToGrow c.args.pages.now.layout c.args.pages.now.pages i c.args.growth.now.stage → ⊥) c.requires.of c.in-Ok.ensures.undamaged

pub returns-in-Err-clause-at : goal.returns-in-Err-clause-at
returns-in-Err-clause-at g c = subst (λ (i : ℕ). FaultNamesPageOf c.args.pages.now.layout i c.in-Err.fault) c.requires.of c.in-Err.ensures.at

pub returns-in-Err-clause-full : goal.returns-in-Err-clause-full
returns-in-Err-clause-full g c =
    let store = c.args.pages.now in
    let at = c.args.at in
    let was = c.args.growth.now in
    full_too store.layout store.layout at.index _ _ c.in-Err.fault refl
    (λ number full tells hand.
    full_to_grow store.layout store.pages store.pages c.args.locks.now c.args.locks.now at.index at.actor at.range was was c.requires.of (c.requires.needed tells) number (full tells) hand)
    (subst (λ (i : ℕ). SaysFullIn store.layout i (λ number. Tells g.D.Disk.told store → GrowthFull (shape_of store.layout i) at.actor (growth_in store.layout store.pages c.args.locks.now i was) number) c.in-Err.fault) c.requires.of c.in-Err.ensures.full)

pub step-requires-clause-ready : goal.step-requires-clause-ready
step-requires-clause-ready g c = subst (λ (i : ℕ). Tells g.D.Disk.told c.args.pages.now → IsReadyToGrow (shape_of c.args.pages.now.layout i) (contents c.args.pages.now.layout c.args.pages.now.pages i) c.args.growth.now.stage) (sym c.requires.of) c.requires.ready

pub returns-in-Ok-clause-order : goal.returns-in-Ok-clause-order
returns-in-Ok-clause-order g c = subst (λ (i : ℕ). KeepsOrder g.D.Disk.told i c.args.pages.now c.step.new.pages) c.requires.of c.step.ensures.order

pub returns-in-Err-clause-order : goal.returns-in-Err-clause-order
returns-in-Err-clause-order g c = subst (λ (i : ℕ). KeepsOrder g.D.Disk.told i c.args.pages.now c.step.new.pages) c.requires.of c.step.ensures.order
