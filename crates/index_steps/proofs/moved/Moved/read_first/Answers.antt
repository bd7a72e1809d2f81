use Rattle.index_steps.specs.DamagedPages.{names_within}
use Rattle.index_steps.proofs.moved.Moved.read_first.Goals as goal

pub returns-in-Err-clause-at : goal.returns-in-Err-clause-at
returns-in-Err-clause-at g c = names_within c.args.pages.now.layout c.args.index c.args.block c.in-Err.error c.requires.index c.requires.block c.in-Err.ensures.at
