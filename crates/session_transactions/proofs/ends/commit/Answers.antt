use Rattle.session_parts.specs.declared.hand.Hand.TheVariants as hands
use Rattle.session_transactions.proofs.Stopping.{passes_no_commit, sure_refused}
use Rattle.session_transactions.proofs.ends.commit.Goals as goal

pub returns-in-Err-clause-survives : goal.returns-in-Err-clause-survives
returns-in-Err-clause-survives g c = passes_no_commit g.D.Disk.told c.args.parts.now.pages c.ready.ensures.stays c.args.parts.now.transactions c.args.session

pub returns-in-Err-clause-sure : goal.returns-in-Err-clause-sure
returns-in-Err-clause-sure g c = sure_refused g.D.Disk.told c.args.parts.now.pages c.args.parts.now.pages c.in-Err.error hands.Commits c.fault_of.result c.fault_of.ensures
