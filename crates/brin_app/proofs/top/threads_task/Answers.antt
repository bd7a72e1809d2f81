use Rattle.brin_app.proofs.Asked.{threads_alone}
use Rattle.brin_app.proofs.top.threads_task.Goals as goal

pub returns-in-Ok-clause-alone : goal.returns-in-Ok-clause-alone
returns-in-Ok-clause-alone c = threads_alone c.args.sizes c.args.declarations.now c.in-Ok.layout c.in-Ok.ensures.made c.in-Ok.ensures.alone
