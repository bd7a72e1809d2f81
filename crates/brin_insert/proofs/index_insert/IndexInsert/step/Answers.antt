use Rattle.std.proofs.Common.{◌≡◌, ◌≤◌, subst, arith}
use Rattle.std.specs.List.{length_refill}
use Rattle.block_model.specs.declared.place.Spot.{Spot}
use Rattle.page_locks.specs.LockCounts.{locks_of}
use Rattle.index_contents.specs.IndexContents.{contents}
use Rattle.index_steps.specs.IndexTuples.{shape_of}
use Rattle.index_steps.specs.SwapAnswers.{TakesAtMost}
use Rattle.brin_insert.specs.declared.stage.Stage.TheVariants as stages
use Rattle.brin_insert.specs.StageLocks.{held_at, taken_at}
use Rattle.brin_insert.specs.StepAnswers.{DamageAt}
use Rattle.brin_insert.specs.InsertHands.{InsertHand}
use Rattle.brin_insert.specs.InsertSteps.{Stepped, insert_at, insert_of}
use Rattle.brin_insert.proofs.index_insert.IndexInsert.step.Goals as goal

pub invariant_of-self : goal.invariant_of-self
invariant_of-self g c =
    let room = c.tuples_of_an_index_need_one_room.ensures c.step_in.new.tuple.columns c.self.inside.widened.columns c.step_in.ensures.same_index in
    let v = c.self.inside.room.items in
    omega (arith, room, length_refill v.len v.items c.step_in.new.room v.ok.0, v.ok.0, c.self.invariant)

pub invariant_of-self-in-Err : goal.invariant_of-self-in-Err
invariant_of-self-in-Err g c =
    let room = c.tuples_of_an_index_need_one_room.ensures c.step_in.new.tuple.columns c.self.inside.widened.columns c.step_in.ensures.same_index in
    let v = c.self.inside.room.items in
    omega (arith, room, length_refill v.len v.items c.step_in.new.room v.ok.0, v.ok.0, c.self.invariant)

pub returns-in-Ok-clause-stepped : goal.returns-in-Ok-clause-stepped
returns-in-Ok-clause-stepped g c = λ tells r values.
    let old = c.args.pages.now in
    subst (λ (h : InsertHand). Stepped (shape_of old.layout h.index) c.args.actor c.args.range r (insert_of old.layout old.pages c.args.locks.now h c.args.copied.now)
    (insert_at old.layout c.step_in.new.pages.pages c.step_in.new.locks c.self.inside.index c.in-Ok.stage c.step_in.new.copied c.step_in.new.tuple) c.in-Ok.did) c.self.view_is (c.in-Ok.ensures.called.stepped tells r values)

pub returns-in-Ok-clause-counts : goal.returns-in-Ok-clause-counts
returns-in-Ok-clause-counts g c = subst (λ (h : InsertHand). TakesAtMost (taken_at h.stage) c.args.locks.now c.step_in.new.locks c.args.actor) c.self.view_is c.step_in.ensures.called.counts

pub returns-in-Err-clause-counts : goal.returns-in-Err-clause-counts
returns-in-Err-clause-counts g c = subst (λ (h : InsertHand). TakesAtMost (taken_at h.stage) c.args.locks.now c.step_in.new.locks c.args.actor) c.self.view_is c.step_in.ensures.called.counts

pub returns-in-Ok-clause-given : goal.returns-in-Ok-clause-given
returns-in-Ok-clause-given g c = subst (λ (h : InsertHand). (x : Spot) → h.stage ≡ stages.Drop x → locks_of c.step_in.new.locks c.args.actor ≡ 0) c.self.view_is c.in-Ok.ensures.called.given

pub returns-in-Ok-clause-own : goal.returns-in-Ok-clause-own
returns-in-Ok-clause-own g c = subst (λ (h : InsertHand). locks_of c.args.locks.now c.args.actor ≤ held_at h.stage → locks_of c.step_in.new.locks c.args.actor ≤ held_at c.in-Ok.stage) c.self.view_is c.in-Ok.ensures.called.own

pub returns-in-Ok-clause-undamaged : goal.returns-in-Ok-clause-undamaged
returns-in-Ok-clause-undamaged g c = λ tells.
    let old = c.args.pages.now in
    subst (λ (h : InsertHand). DamageAt (shape_of old.layout h.index) (contents old.layout old.pages h.index) c.args.range h.stage → ⊥) c.self.view_is (c.in-Ok.ensures.called.undamaged tells)
