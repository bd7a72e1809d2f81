use Rattle.std.proofs.Common.{◌+◌, ◌≤◌, ◌<◌, refl, sym, subst, ◌∙◌, arith}
use Rattle.std.specs.Prelude.{IfOk}
use Rattle.page_locks.specs.declared.did.Did.{Did}
use Rattle.page_locks.specs.LockCounts.{locks_of}
use Rattle.page_locks.specs.LockHolders.{count_of}
use Rattle.index_contents.specs.IndexContents.{contents}
use Rattle.index_steps.specs.IndexTuples.{shape_of}
use Rattle.index_steps.specs.SwapAnswers.{TakesAtMost}
use Rattle.index_steps.specs.declared.growth_stage.Stage.{Stage as GrowthStage}
use Rattle.index_steps.specs.GrowthSteps.{IsNeeded}
use Rattle.index_steps.proofs.Arms.{err_too, ok_all, ok_too, on_err_of, on_err_too, on_ok_of, on_ok_too}
use Rattle.index_steps.proofs.Onward.{full_too, machine_too}
use Rattle.summarise_core.specs.declared.range_stage.Stage.{Stage}
use Rattle.summarise_core.specs.declared.range_stage.Stage.TheVariants as stages
use Rattle.summarise_core.specs.declared.work.Work.{Work}
use Rattle.summarise_core.specs.ShownHeap.{heap_of}
use Rattle.summarise_core.specs.ExactSummaries.{IsExactAt}
use Rattle.summarise_core.specs.StageLocks.{EndsMove, held_at, taken_at}
use Rattle.summarise_core.specs.SummariseHands.{GrowsToPlace}
use Rattle.summarise_core.specs.SummariseSteps.{StandsAfter}
use Rattle.summarise_core.specs.Works.{hand_of}
use Rattle.summarise_core.proofs.Grown.{own_to_place, rests_there}
use Rattle.summarise_core.proofs.Locking.{few_taken, grows_nowhere}
use Rattle.summarise_core.proofs.work.place_in.Goals as goal

-- the growth's step stays where the placeholder is to be put
pub returns-then-grows-clause-called : goal.returns-then-grows-clause-called
returns-then-grows-clause-called g c =
    let old = c.args.pages.now in
    let at = c.args.at in
    let was = c.args.work.now in
    let is : Work = record was { growth = c.grow.new.growth } in
    let of = c.requires.of in
    let made = c.grow.ensures in
    let result = c.grow.result in
    record {
      stepped = ok_too _ _ result (λ o steps tells blocks has. steps tells (heap_of old.layout at.index blocks) (hand_of stages.Place was)) made.stepped;
      exact = ok_too _ _ result (λ o stays tells blocks has exact. subst (λ (stage : Stage). IsExactAt (shape_of old.layout at.index) (heap_of old.layout at.index blocks) at.range (hand_of stage is) stage) (sym stays) tt) made.stays;
      stands = made.stands;
      rests = ok_too _ _ result (λ o rests. rests (hand_of stages.Place was)) made.rests;
      of = record { running = of.running; united = of.united; room = of.room; extent = of.extent; growth = made.same_index ∙ of.growth };
      grows = ok_too _ _ result (λ o stays. subst (λ (stage : Stage). GrowsToPlace is.growth.stage stage) (sym stays) tt) made.stays;
      stays = on_err_too result (rests_there was.growth is.growth) made.rests_at;
      blocked = made.blocked;
      full = err_too _ _ result (λ fault. full_too old.layout old.layout at.index _ _ fault refl (λ number full tells. full tells (hand_of stages.Place was))) made.full;
      at_full = made.at_full;
      others = made.others;
      order = made.order;
      locks = made.locks;
      counts = made.counts;
      given = made.given;
      own = own_to_place result was.growth.stage is.growth.stage (locks_of c.args.locks.now at.actor) (locks_of c.grow.new.locks at.actor) made.stays made.own;
      survives = made.survives;
      kept = made.kept;
      undamaged = on_ok_too result (λ sound tells damage. sound tells damage.1) made.undamaged;
      names = made.at;
      outcome = machine_too g.D.Disk.told _ _ old c.grow.new.pages result (λ cause tells. (c.grows.ensures.needed c.if-grows.true tells, cause tells)) made.outcome;
    }

-- the put takes fewer locks than a growth may
pub returns-clause-called : goal.returns-clause-called
returns-clause-called g c =
    let old = c.args.pages.now in
    let at = c.args.at in
    let was = c.args.work.now in
    let of = c.requires.of in
    let made = c.place.ensures in
    let result = c.place.result in
    let locks = c.args.locks.now in
    let locked = c.place.new.locks in
    let rests = c.grows.ensures.rests c.if-grows.false in
    record {
      stepped = ok_too _ _ result (λ o steps tells blocks has. steps tells (heap_of old.layout at.index blocks) (hand_of stages.Place was) rests) made.stepped;
      exact = ok_too _ _ result (λ o exact tells blocks has. exact (shape_of old.layout at.index) (heap_of old.layout at.index blocks) (hand_of stages.Place was)) made.exact;
      stands = subst (λ (stage : GrowthStage). IfOk result (λ o. StandsAfter stage stages.Place o.0 o.1)) (sym rests) made.stands;
      rests = ok_too _ _ result (λ o rests. rests (hand_of stages.Place was)) made.rests;
      of = record { running = of.running; united = made.same_index ∙ of.united; room = of.room; extent = of.extent; growth = of.growth };
      grows = ok_all (λ (o : Stage × Did). GrowsToPlace was.growth.stage o.0) result (λ o. grows_nowhere was.growth.stage o.0 rests);
      stays = on_err_of result refl;
      blocked = made.blocked;
      full = err_too _ _ result (λ fault. full_too old.layout old.layout at.index _ _ fault refl (λ number full tells. full tells (hand_of stages.Place was) rests)) made.full;
      at_full = made.at_full;
      others = made.others;
      order = made.order;
      locks = made.locks;
      counts = subst (λ (stage : GrowthStage). TakesAtMost (taken_at stage stages.Place) locks locked at.actor) (sym rests) (few_taken 2 3 locks locked at.actor (omega arith) made.counts);
      given = on_ok_of result (λ ends. absurd (subst (λ (stage : GrowthStage). EndsMove stage) rests ends));
      own = subst (λ (stage : GrowthStage). IfOk result (λ o. locks_of locks at.actor ≤ held_at stage stages.Place → locks_of locked at.actor ≤ held_at stage o.0)) (sym rests) made.own;
      survives = made.survives;
      kept = made.kept;
      undamaged = on_ok_of result (λ tells damage. c.grows.ensures.long c.if-grows.false tells (subst (λ (stage : GrowthStage). IsNeeded (contents old.layout old.pages at.index).pages at.range stage) rests damage.0));
      names = made.at;
      outcome = machine_too g.D.Disk.told _ _ old c.place.new.pages result (λ untold tells. absurd (untold tells)) made.outcome;
    }

pub place-requires-clause-locks : goal.place-requires-clause-locks
place-requires-clause-locks g c =
    let room : count_of c.args.locks.now + 3 ≤ c.args.locks.now.limit = subst (λ (stage : GrowthStage). 0 < taken_at stage stages.Place → count_of c.args.locks.now + taken_at stage stages.Place ≤ c.args.locks.now.limit) (c.grows.ensures.rests c.if-grows.false) c.requires.locks (omega arith) in
    omega (arith, room)
