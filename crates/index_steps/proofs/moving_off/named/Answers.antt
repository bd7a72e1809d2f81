use Rattle.std.proofs.Common.{refl}
use Rattle.coverage.specs.IndexView.{map_page_of}
use Rattle.index_steps.specs.DamagedPages.{names_page}
use Rattle.index_steps.proofs.moving_off.named.Goals as goal

pub returns-in-Err-clause-at : goal.returns-in-Err-clause-at
returns-in-Err-clause-at g c = names_page c.args.pages.now.layout c.args.pages.now.layout c.args.index (map_page_of c.in-Some.range) c.in-Err.error refl c.requires.index c.in-Err.ensures.reopen c.in-Err.ensures.at
