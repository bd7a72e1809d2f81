use Rattle.std.proofs.Common.{◌<◌, ◌+◌, List, length, IfSome, subst, ap, arith}
use Rattle.store_layout.specs.declared.limits.TheConstants.{MAX_SESSIONS}
use Rattle.store_layout.specs.DiskLayout.{DiskLayout, HasBoundedSizes}
use Rattle.store_layout.specs.FirstBrokenRule.{KeepsLimits}
use Rattle.session_parts.specs.StoreStates.{StoreState, hand_in, store_of}
use Rattle.session_core.specs.declared.sessions.Session.{Session}
use Rattle.session_core.specs.Ending.{EndsSoon, GoesWithin}
use Rattle.session_core.specs.SessionLists.{hands_of, names_of}
use Rattle.session_core.proofs.Ending.{ends_at}
use Rattle.session_core.proofs.store.Store.known_to_end.Goals as goal

pub returns : goal.returns
returns g c =
    let items = c.self.inside.sessions.items in
    let parts = c.self.inside.parts in
    let low : c.args.session < MAX_SESSIONS = omega (arith, c.requires, c.self.invariant.few_sessions, ap (λ (s : StoreState _). length s.names) c.self.view_is) in
    subst (λ (t : StoreState _). EndsSoon g.D.Disk.told t c.args.session) c.self.view_is
    (λ tells p at shown has.
    ends_at (store_of parts (names_of items) (hands_of items)) c.args.session (subst (λ (d : DiskLayout). KeepsLimits d.schema d.sizes) c.layout.ensures c.known-2.ensures.limits)
    (subst HasBoundedSizes c.layout.ensures c.known-2.ensures.sizes)
    (λ index block _. c.known.ensures.checked tells (record { relation = length parts.pages.layout.schema.tables + index + 1; block = block }))
    c.shown_tables_are_bounded.ensures p shown (c.self.invariant.fits c.args.session low).hand
    (subst (λ (l : List Session). IfSome (hand_in (hands_of l) c.args.session) GoesWithin) c.as_slice.ensures.value c.known_hand.ensures) at has)
