use Rattle.std.proofs.Common.{arith, ◌<◌}
use Rattle.page_map.specs.Forms.{form_of}
use Rattle.page_map.specs.PageMap.{page_at}
use Rattle.range_store.proofs.Fitting.{drop_fits, on_done, one_dropped}
use Rattle.range_store.proofs.changes.drop_tuple.Goals as goal

pub change-requires-clause-fits : goal.change-requires-clause-fits
change-requires-clause-fits g c = λ tells.
    let store = c.args.pages.now in
    let small : c.args.slot < 65536 = omega arith in
    drop_fits store.layout c.args.place (page_at store.pages c.args.place) c.args.slot c.to_be_bytes-slots.result c.to_be_bytes-slots.ensures c.requires.form (c.known.ensures.checked tells c.args.place) (c.requires.regular tells) small (c.requires.slot tells)

pub returns-clause-dropped : goal.returns-clause-dropped
returns-clause-dropped g c =
    let store = c.args.pages.now in
    let small : c.args.slot < 65536 = omega arith in
    on_done c.change.result (λ did tells. one_dropped (form_of store.layout c.args.place.relation) c.args.place (page_at store.pages c.args.place) (page_at c.change.new.self.pages c.args.place) c.args.slot c.to_be_bytes-slots.result c.to_be_bytes-slots.ensures small (did tells).redone) c.change.ensures.changed
