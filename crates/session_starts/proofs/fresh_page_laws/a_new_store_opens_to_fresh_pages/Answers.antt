use Rattle.page_map.specs.PageMap.{unstarted_page}
use Rattle.session_starts.proofs.FreshOrder.{fresh_order}
use Rattle.session_starts.proofs.FreshOpens.{opens}
use Rattle.session_starts.proofs.FreshForms.{fresh_passes}
use Rattle.session_starts.proofs.FreshPlaces.{fresh_at, fresh_whole}
use Rattle.session_starts.proofs.fresh_page_laws.a_new_store_opens_to_fresh_pages.Goals as goal

pub returns-clause-opens : goal.returns-clause-opens
returns-clause-opens c = λ image made.
    opens c.args.layout.now c.known.ensures.sizes c.pages_fill_the_disk.ensures image made (c.a_new_store_has_its_control_page.ensures image made)

pub returns-clause-order : goal.returns-clause-order
returns-clause-order c = fresh_order c.args.layout.now c.known.ensures.sizes

pub returns-clause-pages : goal.returns-clause-pages
returns-clause-pages c = λ place is. fresh_at c.args.layout.now unstarted_page place is

pub returns-clause-whole : goal.returns-clause-whole
returns-clause-whole c = fresh_whole c.args.layout.now

pub returns-clause-checked : goal.returns-clause-checked
returns-clause-checked c = λ place is. fresh_passes c.args.layout.now place is
