use Rattle.std.proofs.Common.{◌≡◌, ◌∙◌, List, sym, subst}
use Rattle.session_starts.specs.FreshPages.{fresh_pages}
use Rattle.page_map.specs.Keeps.{Tells}
use Rattle.session_parts.specs.StoreStates.{store_of}
use Rattle.session_starts.specs.OpenedParts.{ShowsStart}
use Rattle.session_starts.specs.Started.{OpensTable}
use Rattle.session_core.specs.declared.sessions.Session.{Session}
use Rattle.session_core.specs.SessionLists.{hands_of, names_of, slots_of}
use Rattle.session_core.specs.StoreKept.{IsStoreKept}
use Rattle.session_core.proofs.New.{kept_new}
use Rattle.session_core.proofs.store.Store.start.Goals as goal

pub invariant_of-result : goal.invariant_of-result
invariant_of-result g c =
    let parts = c.in_ok-parts.parts in
    let new = c.in_ok-parts.ensures in
    subst (λ (sessions : List Session). IsStoreKept g.D.Disk.told (store_of parts (names_of sessions) (hands_of sessions)) (slots_of sessions)) (sym c.new-sessions.ensures.items)
    (kept_new g.D.Disk.told parts new.opened new.fits (λ tells.
    let before = sym new.tells ∙ tells in
    let image = c.requires.image before parts.pages.layout parts.pages.pages (new.pages before) in
    let shown = new.opens tells image.0 image.1 in
    (shown.0, shown.2)))

pub returns-clause-opens : goal.returns-clause-opens
returns-clause-opens g c =
    subst (λ (sessions : List Session). OpensTable g.D.Disk.told (store_of c.in_ok-parts.parts (names_of sessions) (hands_of sessions))) (sym c.new-sessions.ensures.items) c.in_ok-parts.ensures.opens

pub returns-clause-starts : goal.returns-clause-starts
returns-clause-starts g c =
    let parts = c.in_ok-parts.parts in
    subst (λ (sessions : List Session). Tells g.D.Disk.told parts.pages → parts.pages.pages ≡ fresh_pages parts.pages.layout → ShowsStart parts.pages.layout (store_of parts (names_of sessions) (hands_of sessions)))
    (sym c.new-sessions.ensures.items) c.in_ok-parts.ensures.starts
