use Rattle.page_map.specs.Forms.{form_of}
use Rattle.page_map.specs.PageMap.{page_at}
use Rattle.range_store.proofs.Fitting.{on_done, start_fits, started_with}
use Rattle.range_store.proofs.changes.start_with.Goals as goal

pub start_with-requires-clause-fits : goal.start_with-requires-clause-fits
start_with-requires-clause-fits g c = λ tells.
    let store = c.args.pages.now in
    start_fits (form_of store.layout c.args.place.relation) c.args.place (page_at store.pages c.args.place) c.args.bytes.now c.requires.form c.an_index_page_has_one_list.ensures.slots c.requires.size

pub returns-clause-put : goal.returns-clause-put
returns-clause-put g c =
    let store = c.args.pages.now in
    on_done c.start_with.result (λ did tells. started_with (form_of store.layout c.args.place.relation) c.args.place (page_at store.pages c.args.place) (page_at c.start_with.new.self.pages c.args.place) c.args.bytes.now c.an_index_page_has_one_list.ensures.slots (did tells).redone) c.start_with.ensures.changed
