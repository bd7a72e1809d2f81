use Rattle.session_core.proofs.Settling.{settles_there}
use Rattle.session_core.proofs.steps.step_in.Goals as goal

pub returns-clause-so : goal.returns-clause-so
returns-clause-so g c =
    settles_there g.D.Disk.told c.args.parts.now c.step_on-answer.new.parts c.args.session c.args.hand.now c.in-Some.own c.step_on-answer.new.hand c.clear_when_done.new.hand c.step_on-answer.result c.in-Some.is
    c.step_on-answer.ensures.so c.clear_when_done.ensures
