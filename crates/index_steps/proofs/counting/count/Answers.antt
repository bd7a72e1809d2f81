use Rattle.std.proofs.Common.{arith}
use Rattle.index_steps.specs.DamagedPages.{names_within}
use Rattle.index_steps.proofs.counting.count.Goals as goal

pub returns-in-Err-clause-at : goal.returns-in-Err-clause-at
returns-in-Err-clause-at g c = let below = c.requires.block in names_within c.args.pages.now.layout c.args.index 0 c.in-Err.error c.requires.index (omega (arith, below)) c.in-Err.ensures.at
