use Rattle.std.proofs.Common.{sym, subst}
use Rattle.session_parts.specs.declared.hand.Hand.{Hand}
use Rattle.session_parts.specs.StepIs.{answer_of}
use Rattle.session_parts.specs.UndoneLaws.{StepsSo}
use Rattle.session_starts.specs.Stops.{StopsSo}
use Rattle.session_core.proofs.Stops.{sure_behind}
use Rattle.session_core.proofs.steps.step_out.Goals as goal

pub returns-in-Begins-clause-so : goal.returns-in-Begins-clause-so
returns-in-Begins-clause-so g c =
    let is = c.begin.ensures in
    subst (λ (hand : Hand). StepsSo g.D.Disk.told c.args.parts.now c.begin.new.parts c.args.session hand c.begin.result) (sym c.in-Begins.is)
    (record { steps = is.steps; fit = is.fit; others = is.others; stays = is.stays; cause = is.cause })

pub returns-in-Commits-clause-so : goal.returns-in-Commits-clause-so
returns-in-Commits-clause-so g c =
    let is = c.commit.ensures in
    subst (λ (hand : Hand). StepsSo g.D.Disk.told c.args.parts.now c.commit.new.parts c.args.session hand c.commit.result) (sym c.in-Commits.is)
    (record { steps = is.steps; fit = is.fit; others = is.others; stays = is.stays; cause = is.cause })

pub returns-in-RollsBack-clause-so : goal.returns-in-RollsBack-clause-so
returns-in-RollsBack-clause-so g c =
    let is = c.roll_back.ensures in
    subst (λ (hand : Hand). StepsSo g.D.Disk.told c.args.parts.now c.roll_back.new.parts c.args.session hand c.roll_back.result) (sym c.in-RollsBack.is)
    (record { steps = is.steps; fit = is.fit; others = is.others; stays = is.stays; cause = is.cause })

pub returns-in-Selecting-clause-so : goal.returns-in-Selecting-clause-so
returns-in-Selecting-clause-so g c =
    let is = c.begin_select.ensures in
    subst (λ (hand : Hand). StepsSo g.D.Disk.told c.args.parts.now c.begin_select.new.parts c.args.session hand c.begin_select.result) (sym c.in-Selecting.is)
    (record { steps = is.steps; fit = is.fit; others = is.others; stays = is.stays; cause = is.cause })

pub returns-in-Deleting-clause-so : goal.returns-in-Deleting-clause-so
returns-in-Deleting-clause-so g c =
    let is = c.begin_delete.ensures in
    subst (λ (hand : Hand). StepsSo g.D.Disk.told c.args.parts.now c.begin_delete.new.parts c.args.session hand c.begin_delete.result) (sym c.in-Deleting.is)
    (record { steps = is.steps; fit = is.fit; others = is.others; stays = is.stays; cause = is.cause })

pub returns-in-Working-clause-so : goal.returns-in-Working-clause-so
returns-in-Working-clause-so g c =
    let is = c.begin_work.ensures in
    subst (λ (hand : Hand). StepsSo g.D.Disk.told c.args.parts.now c.begin_work.new.parts c.args.session hand c.begin_work.result) (sym c.in-Working.is)
    (record { steps = is.steps; fit = is.fit; others = is.others; stays = is.stays; cause = is.cause })

pub returns-in-Begins-clause-survives : goal.returns-in-Begins-clause-survives
returns-in-Begins-clause-survives g c =
    let old = c.args.parts.now in
    let new = c.begin.new.parts in
    subst (λ (hand : Hand). StopsSo g.D.Disk.told old.transactions c.args.session old.pages new.pages hand (answer_of c.begin.result)) (sym c.in-Begins.is) c.begin.ensures.survives

pub returns-in-Commits-clause-survives : goal.returns-in-Commits-clause-survives
returns-in-Commits-clause-survives g c =
    let old = c.args.parts.now in
    let new = c.commit.new.parts in
    subst (λ (hand : Hand). StopsSo g.D.Disk.told old.transactions c.args.session old.pages new.pages hand (answer_of c.commit.result)) (sym c.in-Commits.is) (c.commit.ensures.survives, sure_behind g.D.Disk.told old.pages c.commit.new.parts.pages c.commit.result c.commit.ensures.sure)

pub returns-in-RollsBack-clause-survives : goal.returns-in-RollsBack-clause-survives
returns-in-RollsBack-clause-survives g c =
    let old = c.args.parts.now in
    let new = c.roll_back.new.parts in
    subst (λ (hand : Hand). StopsSo g.D.Disk.told old.transactions c.args.session old.pages new.pages hand (answer_of c.roll_back.result)) (sym c.in-RollsBack.is) c.roll_back.ensures.survives

pub returns-in-Selecting-clause-survives : goal.returns-in-Selecting-clause-survives
returns-in-Selecting-clause-survives g c =
    let old = c.args.parts.now in
    let new = c.begin_select.new.parts in
    subst (λ (hand : Hand). StopsSo g.D.Disk.told old.transactions c.args.session old.pages new.pages hand (answer_of c.begin_select.result)) (sym c.in-Selecting.is) c.begin_select.ensures.survives

pub returns-in-Deleting-clause-survives : goal.returns-in-Deleting-clause-survives
returns-in-Deleting-clause-survives g c =
    let old = c.args.parts.now in
    let new = c.begin_delete.new.parts in
    subst (λ (hand : Hand). StopsSo g.D.Disk.told old.transactions c.args.session old.pages new.pages hand (answer_of c.begin_delete.result)) (sym c.in-Deleting.is) c.begin_delete.ensures.survives

pub returns-in-Working-clause-survives : goal.returns-in-Working-clause-survives
returns-in-Working-clause-survives g c =
    let old = c.args.parts.now in
    let new = c.begin_work.new.parts in
    subst (λ (hand : Hand). StopsSo g.D.Disk.told old.transactions c.args.session old.pages new.pages hand (answer_of c.begin_work.result)) (sym c.in-Working.is) c.begin_work.ensures.survives
