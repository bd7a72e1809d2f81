use Rattle.index_steps.specs.declared.growth_stage.Stage.TheVariants as stages
use Rattle.index_steps.specs.Called.{hand_at}
use Rattle.index_steps.proofs.Onward.{called_on}
use Rattle.index_steps.proofs.judging.empty.Goals as goal

pub returns-in-Ok-Some : goal.returns-in-Ok-Some
returns-in-Ok-Some g c = λ was.
    called_on g.D.Disk.told c.args.pages.now c.read_first.new.pages c.evacuate.new.pages c.read_first.ensures.kept c.in-Ok-Some.ensures.outcome.0 c.in-Ok-Some.ensures.outcome.1 c.in-Ok-Some.ensures.outcome.2 c.args.actor (hand_at c.args.index stages.Judge was) c.read_first.new.self c.args.locks.now c.evacuate.new.locks c.evacuate.result c.read_first.ensures.survives
    (c.evacuate.ensures was)

pub returns-in-Ok-None : goal.returns-in-Ok-None
returns-in-Ok-None g c = λ was.
    called_on g.D.Disk.told c.args.pages.now c.read_first.new.pages c.turn.new.pages c.read_first.ensures.kept c.in-Ok-None.ensures.outcome.0 c.in-Ok-None.ensures.outcome.1 c.in-Ok-None.ensures.outcome.2 c.args.actor (hand_at c.args.index stages.Judge was) c.read_first.new.self c.args.locks.now c.turn.new.locks c.turn.result c.read_first.ensures.survives
    (c.turn.ensures was c.read_first.new.self)
