use Rattle.page_locks.specs.declared.did.Did.{Did}
use Rattle.summarise_core.specs.declared.range_stage.Stage.{Stage}
use Rattle.summarise_core.specs.declared.range_stage.Stage.TheVariants as stages
use Rattle.summarise_core.specs.ShownHeap.{heap_of}
use Rattle.summarise_core.specs.Works.{hand_of}
use Rattle.index_steps.specs.IndexTuples.{shape_of}
use Rattle.summarise_core.proofs.Exact.{passes_exact}
use Rattle.index_steps.proofs.Onward.{fault_too}
use Rattle.std.proofs.Common.{inl, inr, arith}
use Rattle.summarise_core.proofs.work.go_on.Goals as goal

pub returns-in-Ok-clause-stepped : goal.returns-in-Ok-clause-stepped
returns-in-Ok-clause-stepped g c = λ tells blocks has locks. c.in-Ok.ensures.stepped tells locks (heap_of c.args.pages.now.layout c.args.at.index blocks) (hand_of stages.Pass c.args.work.now) c.if-work.true

pub returns-in-Ok-pass-clause-stepped : goal.returns-in-Ok-pass-clause-stepped
returns-in-Ok-pass-clause-stepped g c = λ tells blocks has locks. c.in-Ok-pass.ensures.stepped tells blocks has locks (hand_of stages.Pass c.args.work.now) c.if-work.false

pub returns-in-Ok-clause-exact : goal.returns-in-Ok-clause-exact
returns-in-Ok-clause-exact g c = λ tells blocks has so_far.
    let old = c.args.pages.now in
    c.in-Ok.ensures.exact (shape_of old.layout c.args.at.index) (heap_of old.layout c.args.at.index blocks) (hand_of stages.Pass c.args.work.now) c.if-work.true so_far

pub returns-in-Ok-pass-clause-exact : goal.returns-in-Ok-pass-clause-exact
returns-in-Ok-pass-clause-exact g c = λ tells blocks has so_far.
    let old = c.args.pages.now in
    let work = c.args.work.now in
    passes_exact (shape_of old.layout c.args.at.index) (heap_of old.layout c.args.at.index blocks) c.args.at.range work.extent work.next work.running c.pass.new.running c.if-work.false (c.in-Ok-pass.ensures.exact tells blocks has) so_far

pub returns-in-Ok-clause-undamaged : goal.returns-in-Ok-clause-undamaged
returns-in-Ok-clause-undamaged g c = λ tells damage. c.in-Ok.ensures.undamaged tells damage.1

pub returns-in-Ok-pass-clause-undamaged : goal.returns-in-Ok-pass-clause-undamaged
returns-in-Ok-pass-clause-undamaged g c = λ tells damage. absurd (omega (arith, damage.0, c.if-work.false))

pub returns-in-Err-clause-reads : goal.returns-in-Err-clause-reads
returns-in-Err-clause-reads g c =
    let made = c.in-Err.ensures.reads in
    record { kept = made.kept; survives = made.survives; never_blocked = tt; of_store = made.of_store; names = inl made.names; outcome = fault_too (Stage × Did) (Stage × Did) g.D.Disk.told _ _ c.args.pages.now c.look_again.new.pages c.in-Err.fault (λ cause tells. (c.if-work.true, cause tells)) made.outcome }

pub returns-in-Err-pass-clause-reads : goal.returns-in-Err-pass-clause-reads
returns-in-Err-pass-clause-reads g c = record {
  kept = c.pass.ensures.kept;
  survives = c.pass.ensures.survives;
  never_blocked = tt;
  of_store = c.in-Err-pass.ensures.of_store;
  names = inr c.in-Err-pass.ensures.at;
  outcome = fault_too Unit (Stage × Did) g.D.Disk.told _ _ c.args.pages.now c.pass.new.pages c.in-Err-pass.fault (λ cause tells. absurd (cause tells)) c.in-Err-pass.ensures.outcome;
}
