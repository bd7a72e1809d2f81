use Rattle.std.proofs.Common.{◌≡◌, refl, ap, ◌∙◌}
use Rattle.bitmap_scan.specs.Explains.{ExplainHand}
use Rattle.session_parts.specs.declared.hand.Hand.TheVariants as hands
use Rattle.session_parts.specs.declared.hand.Stepped.TheVariants as stepped
use Rattle.session_parts.specs.declared.faults.StoreFault.{StoreFault}
use Rattle.session_parts.specs.StepIs.{stepped_in}
use Rattle.session_parts.specs.StoreFaults.{fault_of}
use Rattle.session_parts.proofs.Undone.{fit_of_parts}
use Rattle.session_maintenance.proofs.ExplainSteps.{moved_by, told_by, undone_by}
use Rattle.session_maintenance.proofs.InHand.{fit_there, shown_there, so_there}
use Rattle.session_maintenance.proofs.explain.explain_on.Goals as goal

-- it is an explain

pub unreachable-requires : goal.unreachable-requires
unreachable-requires g c = c.in_default.not-Explains c.requires.which.0 c.requires.which.1

pub unreachable-unreachable : goal.unreachable-unreachable
unreachable-unreachable g c = c.unreachable.result

pub step-requires-clause-scan : goal.step-requires-clause-scan
step-requires-clause-scan g c =
    let was = hands.Explains c.in-Explains.explain in
    (fit_of_parts g.D.Disk.told c.args.parts.now c.args.session was (fit_there g.D.Disk.told c.args.parts.now c.args.session c.args.hand.now was c.in-Explains.is c.requires.fit)).in_hand.0

pub step-requires-clause-work : goal.step-requires-clause-work
step-requires-clause-work g c =
    let was = hands.Explains c.in-Explains.explain in
    (fit_of_parts g.D.Disk.told c.args.parts.now c.args.session was (fit_there g.D.Disk.told c.args.parts.now c.args.session c.args.hand.now was c.in-Explains.is c.requires.fit)).in_hand.1

-- it neither waits nor lacks anything

pub unreachable-requires-in-Ok-Blocked : goal.unreachable-requires-in-Ok-Blocked
unreachable-requires-in-Ok-Blocked g c = rw c.in-Ok-Blocked.field-0-is at c.in-Ok-Blocked.ensures.point

pub unreachable-unreachable-in-Ok-Blocked : goal.unreachable-unreachable-in-Ok-Blocked
unreachable-unreachable-in-Ok-Blocked g c = c.unreachable-in-Ok-Blocked.result

pub unreachable-requires-in-Ok-NoRight : goal.unreachable-requires-in-Ok-NoRight
unreachable-requires-in-Ok-NoRight g c = rw c.in-Ok-NoRight.field-0-is at c.in-Ok-NoRight.ensures.point

pub unreachable-unreachable-in-Ok-NoRight : goal.unreachable-unreachable-in-Ok-NoRight
unreachable-unreachable-in-Ok-NoRight g c = c.unreachable-in-Ok-NoRight.result

pub unreachable-requires-in-Err-Full : goal.unreachable-requires-in-Err-Full
unreachable-requires-in-Err-Full g c = rw c.in-Err-Full.field-0-is at c.in-Err-Full.ensures.outcome

pub unreachable-unreachable-in-Err-Full : goal.unreachable-unreachable-in-Err-Full
unreachable-unreachable-in-Err-Full g c = c.unreachable-in-Err-Full.result

pub unreachable-requires-in-Err-Memory : goal.unreachable-requires-in-Err-Memory
unreachable-requires-in-Err-Memory g c = rw c.in-Err-Memory.field-0-is at c.in-Err-Memory.ensures.outcome

pub unreachable-unreachable-in-Err-Memory : goal.unreachable-unreachable-in-Err-Memory
unreachable-unreachable-in-Err-Memory g c = c.unreachable-in-Err-Memory.result

-- it goes on

pub returns-in-Ok-Moved : goal.returns-in-Ok-Moved
returns-in-Ok-Moved g c =
    let told = g.D.Disk.told in
    let parts = c.args.parts.now in
    let n = c.args.session in
    let before = c.in-Explains.explain in
    let was = hands.Explains before in
    let e = c.step.ensures in
    let it = c.in-Ok-Moved.ensures in
    let fit = fit_there told parts n c.args.hand.now was c.in-Explains.is c.requires.fit in
    let so = so_there told parts n c.args.hand.now was c.in-Explains.is (record parts { pages = c.step.new.pages }) (stepped.Moved c.in-Ok-Moved.point (hands.Explains c.step.new.self))
    (moved_by told parts c.step.new.pages n before c.step.new.self fit e.kept it.outcome c.in-Ok-Moved.field-0 c.in-Ok-Moved.point c.in-Ok-Moved.field-0-is it.stepped it.point it.begun e.scan e.query) in
    record { steps = so.steps; fit = so.fit; others = so.others; stays = so.stays; cause = so.cause; survives = e.survives }

-- it tells its blocks

pub told-requires : goal.told-requires
told-requires g c = (c.step.new.self, refl)

pub returns-in-Ok-Finished : goal.returns-in-Ok-Finished
returns-in-Ok-Finished g c =
    let told = g.D.Disk.told in
    let parts = c.args.parts.now in
    let n = c.args.session in
    let before = c.in-Explains.explain in
    let was = hands.Explains before in
    let e = c.step.ensures in
    let it = c.in-Ok-Finished.ensures in
    let fit = fit_there told parts n c.args.hand.now was c.in-Explains.is c.requires.fit in
    let answer = stepped_in c.told.new.hand c.told.result in
    let so = so_there told parts n c.args.hand.now was c.in-Explains.is (record parts { pages = c.step.new.pages }) answer
    (told_by told parts c.step.new.pages n before c.step.new.self fit e.kept it.outcome c.in-Ok-Finished.field-0 c.in-Ok-Finished.field-0-0 c.in-Ok-Finished.field-0-is it.stepped it.point it.blocks
    c.known-in-Ok-Finished.ensures e.query answer (ap (stepped_in c.told.new.hand) (c.told.ensures c.step.new.self refl))) in
    record { steps = so.steps; fit = so.fit; others = so.others; stays = so.stays; cause = so.cause; survives = e.survives }

-- the pages refuse it

pub returns-in-Err-Store : goal.returns-in-Err-Store
returns-in-Err-Store g c =
    let told = g.D.Disk.told in
    let fault : c.fault_of.result ≡ fault_of c.in-Err-Store.error = rw c.in-Err-Store.field-0-is at c.fault_of.ensures in
    let parts = c.args.parts.now in
    let n = c.args.session in
    let before = c.in-Explains.explain in
    let was = hands.Explains before in
    let e = c.step.ensures in
    let it = c.in-Err-Store.ensures in
    let fit = fit_there told parts n c.args.hand.now was c.in-Explains.is c.requires.fit in
    let answer = stepped.Undone c.fault_of.result (hands.Explains c.step.new.self) in
    let so = so_there told parts n c.args.hand.now was c.in-Explains.is (record parts { pages = c.step.new.pages }) answer
    (undone_by told parts c.step.new.pages n before c.step.new.self fit e.kept
    c.a_kept_table_is_scanned.ensures (shown_there told parts n c.args.hand.now was c.in-Explains.is c.requires.shown) c.known.ensures c.in-Err-Store.field-0 c.in-Err-Store.error c.in-Err-Store.field-0-is it.outcome it.names answer
    (ap (λ (f : StoreFault). stepped.Undone f (hands.Explains c.step.new.self)) fault ∙ ap (λ (x : ExplainHand). stepped.Undone (fault_of c.in-Err-Store.error) (hands.Explains x)) it.same)) in
    record { steps = so.steps; fit = so.fit; others = so.others; stays = so.stays; cause = so.cause; survives = e.survives }
