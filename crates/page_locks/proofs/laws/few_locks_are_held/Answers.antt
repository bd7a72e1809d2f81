use Rattle.page_locks.proofs.Counts.{few_held}
use Rattle.page_locks.proofs.laws.few_locks_are_held.Goals as goal

pub returns : goal.returns
returns c = few_held c.args.locks.now.holders c.args.actors c.args.each c.requires.none c.requires.few
