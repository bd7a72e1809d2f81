use Rattle.page_map.specs.Forms.{form_of}
use Rattle.page_map.specs.PageMap.{block_at, block_limit}
use Rattle.range_store.proofs.Targets.{first_of_index}
use Rattle.range_store.proofs.room.first_target.Goals as goal

pub returns-clause-first : goal.returns-clause-first
returns-clause-first g c = λ tells.
    let store = c.args.pages.now in
    let relation = c.args.relation in
    first_of_index (form_of store.layout relation) (block_limit store.layout relation) c.args.need c.map_pages-past.result (block_at store.pages relation) c.first_room.result c.requires.form (λ block. c.known.ensures.checked tells (record { relation = relation; block = block })) (c.map_pages-past.ensures.counted tells) (c.first_room.ensures.room tells)
