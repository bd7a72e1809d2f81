use Rattle.brin_app.proofs.Asked.{run_alone}
use Rattle.brin_app.proofs.top.run_task.Goals as goal

pub returns-in-Ok-clause-alone : goal.returns-in-Ok-clause-alone
returns-in-Ok-clause-alone c = run_alone c.args.sizes c.args.declarations.now c.in-Ok.layout c.in-Ok.ensures.made c.in-Ok.ensures.alone
