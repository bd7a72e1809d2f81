use Rattle.std.proofs.Common.{refl}
use Rattle.brin_app.proofs.Asked.{demo_alone}
use Rattle.brin_app.proofs.top.demo_task.Goals as goal

pub returns-in-Ok-clause-asked : goal.returns-in-Ok-clause-asked
returns-in-Ok-clause-asked c = (c.in-Ok.ensures.made, refl, refl)

pub returns-in-Ok-clause-alone : goal.returns-in-Ok-clause-alone
returns-in-Ok-clause-alone c = demo_alone c.args.seed c.args.rows c.in-Ok.layout c.in-Ok.ensures.made c.in-Ok.ensures.alone
