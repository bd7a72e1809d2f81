use Rattle.std.proofs.Common.{arith, sym}
use Rattle.range_store.proofs.Found.{tuple_fits}
use Rattle.range_store.proofs.replacing.size_at.Goals as goal

pub overflow_cast-result : goal.overflow_cast-result
overflow_cast-result c =
    let fits = tuple_fits c.args.page.now c.args.slot c.in-Some.tuple.now (c.an_index_page_has_one_list.ensures.regular c.args.page.now c.requires.page) (sym c.in-Some.ensures) in
    omega (arith, fits.0)
