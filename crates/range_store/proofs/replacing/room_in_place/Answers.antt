use Rattle.std.proofs.Common.{arith}
use Rattle.range_store.proofs.Found.{tuple_fits}
use Rattle.range_store.proofs.replacing.room_in_place.Goals as goal

pub overflow_cast-result : goal.overflow_cast-result
overflow_cast-result c =
    let fits = tuple_fits c.args.page.now c.args.slot c.args.tuple.now (c.an_index_page_has_one_list.ensures.regular c.args.page.now c.requires.page) c.requires.tuple in
    omega (arith, fits.1, c.free_bytes.ensures, c.from-free.ensures)
