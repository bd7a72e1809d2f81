use Rattle.page_map.specs.PageMap.{page_at}
use Rattle.range_store.proofs.Fitting.{replace_fits}
use Rattle.range_store.proofs.changes.replace_tuple.Goals as goal

pub change-requires-clause-fits : goal.change-requires-clause-fits
change-requires-clause-fits g c = λ tells.
    let store = c.args.pages.now in
    replace_fits store.layout c.args.place (page_at store.pages c.args.place) c.args.slot c.args.bytes.now c.requires.form (c.known.ensures.checked tells c.args.place) (c.requires.room tells)
