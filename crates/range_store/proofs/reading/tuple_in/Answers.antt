use Rattle.std.proofs.Common.{arith, subst, sym}
use Rattle.index_contents.specs.IndexPages.{IsIndexPage}
use Rattle.range_store.proofs.Found.{tuple_fits}
use Rattle.range_store.proofs.reading.tuple_in.Goals as goal

pub tuple_at-requires : goal.tuple_at-requires
tuple_at-requires c = subst IsIndexPage (sym c.as_bytes.ensures.bytes) c.requires.page

pub returns-clause-tuple : goal.returns-clause-tuple
returns-clause-tuple c = λ bytes used.
    let fits = tuple_fits c.args.page.now c.args.slot bytes (c.an_index_page_has_one_list.ensures.regular c.args.page.now c.requires.page) used in
    omega (arith, fits.0)
