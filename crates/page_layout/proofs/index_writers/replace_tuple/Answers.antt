use Rattle.std.proofs.Common.{sym, subst}
use Rattle.index_layout.specs.IndexPages.{IsIndexPage}
use Rattle.page_layout.specs.IndexLaws.{page_index}
use Rattle.page_layout.proofs.index_writers.replace_tuple.Goals as goal

pub replace_tuple-requires-clause-page : goal.replace_tuple-requires-clause-page
replace_tuple-requires-clause-page c = subst IsIndexPage (sym c.page.view_is) (page_index c.args.page.now c.requires.page)
