use Rattle.std.proofs.Common.{sym, subst}
use Rattle.index_layout.specs.IndexPages.{IsIndexPage}
use Rattle.page_layout.specs.IndexLaws.{page_index}
use Rattle.page_layout.proofs.index_readers.index_bytes.Goals as goal

pub returns-clause-index : goal.returns-clause-index
returns-clause-index c = subst IsIndexPage (sym c.as_bytes.ensures.bytes) (page_index c.args.page.now c.requires)
