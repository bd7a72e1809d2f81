use Rattle.std.proofs.Common.{sym, subst}
use Rattle.index_layout.specs.IndexPages.{IsIndexPage}
use Rattle.page_layout.specs.IndexLaws.{page_index}
use Rattle.page_layout.proofs.index_writers.evacuate.Goals as goal

pub evacuate-requires-clause-page : goal.evacuate-requires-clause-page
evacuate-requires-clause-page c = subst IsIndexPage (sym c.page.view_is) (page_index c.args.page.now c.requires.page)
