use Rattle.session_transactions.proofs.Stopping.{passes_nothing}
use Rattle.session_transactions.proofs.begins.begin.Goals as goal

pub returns-in-Err-clause-survives : goal.returns-in-Err-clause-survives
returns-in-Err-clause-survives g c = passes_nothing g.D.Disk.told c.args.parts.now.pages c.ready.ensures.stays
