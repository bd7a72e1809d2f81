use Rattle.range_store.proofs.replacing.misfit_at.Goals as goal

pub misfit_on-requires-clause-page : goal.misfit_on-requires-clause-page
misfit_on-requires-clause-page g c = c.index_pages_are_known.ensures c.args.pages.now.layout c.args.place.relation c.in-Ok.page.now c.requires.form c.in-Ok.ensures.form
