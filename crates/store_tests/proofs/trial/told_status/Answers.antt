use Rattle.store_tests.proofs.Kept.{told_begun, trial_kept}
use Rattle.store_tests.proofs.trial.told_status.Goals as goal

pub returns-clause-over : goal.returns-clause-over
returns-clause-over g c = (trial_kept g.D.Disk.told c.args.table.now c.args.store.now c.status.new.pages c.status.ensures.kept (c.requires.over, c.requires.started)).0

pub returns-clause-started : goal.returns-clause-started
returns-clause-started g c = (trial_kept g.D.Disk.told c.args.table.now c.args.store.now c.status.new.pages c.status.ensures.kept (c.requires.over, c.requires.started)).1

pub returns-clause-begun : goal.returns-clause-begun
returns-clause-begun g c = told_begun g.D.Disk.told c.args.table.now.first c.args.t c.args.store.now c.status.new.pages c.status.result c.status.ensures.kept c.status.ensures.shown
