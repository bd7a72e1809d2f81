use Rattle.range_store.proofs.putting.opening_at.Goals as goal

pub opening_of-requires : goal.opening_of-requires
opening_of-requires g c = record { page = c.index_pages_are_known.ensures c.args.pages.now.layout c.args.place.relation c.in-Ok.page.now c.requires.form c.in-Ok.ensures.form }
