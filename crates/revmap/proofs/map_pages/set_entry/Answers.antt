use Rattle.page_map.specs.PageMap.{page_at}
use Rattle.revmap.proofs.RangeEntries.{takes_entry}
use Rattle.revmap.proofs.map_pages.set_entry.Goals as goal

pub change-requires-clause-fits : goal.change-requires-clause-fits
change-requires-clause-fits g c = λ tells.
    let store = c.args.pages.now in
    takes_entry store.layout c.args.place (page_at store.pages c.args.place) c.args.entry c.logged_spot-spot.result c.requires.form (c.known.ensures.checked tells c.args.place) (c.requires.map tells) c.requires.entry
