use Rattle.index_steps.proofs.next.state_at.Goals as goal

pub state_of-requires : goal.state_of-requires
state_of-requires g c = record { page = c.index_pages_are_known.ensures c.args.pages.now.layout c.args.place.relation c.in-Ok.page.now c.requires.form c.in-Ok.ensures.form }
