use Rattle.std.proofs.Common.{◌≡◌, ◌<◌, ◌≤◌, length, refl, ap, ◌∙◌, arith}
use Rattle.std.proofs.lemmas.List.{length-map}
use Rattle.session_parts.specs.StoreStates.{StoreState, store_of}
use Rattle.session_core.specs.declared.sessions.Session.{Session}
use Rattle.session_core.specs.SessionLists.{hands_of, names_of, slots_of}
use Rattle.session_core.specs.Sessions.{with_name}
use Rattle.session_core.proofs.Kept.{kept_as}
use Rattle.session_core.proofs.Naming.{has_session, kept_named, leads_named, made_new, number_named, past_sessions, there_already}
use Rattle.session_core.proofs.store.Store.session.Goals as goal
use Rattle.session_core.proofs.store.Store.session.Goals.{then-number-len+in-Ok, else-number-len}

pub returns-then-number-ge-MAX_SESSIONS-clause-named : goal.returns-then-number-ge-MAX_SESSIONS-clause-named
returns-then-number-ge-MAX_SESSIONS-clause-named g c =
    let items = c.self.inside.sessions.items in
    let view : names_of items ≡ c.args.self.now.names = ap (λ (s : StoreState _). s.names) c.self.view_is in
    let is = number_named c.as_slice.result.now items c.args.self.now.names c.args.name c.number_of-number.result c.number_of-number.ensures.is c.as_slice.ensures.value view in
    (past_sessions c.args.self.now.names c.args.name c.number_of-number.result is c.if-number-ge-MAX_SESSIONS.true, refl, refl)

pub invariant_of-self : goal.invariant_of-self
invariant_of-self g c =
    let items = c.self.inside.sessions.items in
    let few : length (names_of items) < 64 = omega (arith, c.if-number-len.true, c.len.ensures, c.if-number-ge-MAX_SESSIONS.false, c.self.inside.sessions.ok, length-map items (λ (s : Session). s.name)) in
    kept_as g.D.Disk.told c.self.inside.parts _ (names_of c.add_session.new.sessions.items) _ (hands_of c.add_session.new.sessions.items) _ (slots_of c.add_session.new.sessions.items)
    c.in-Ok.ensures.names c.in-Ok.ensures.hands c.in-Ok.ensures.slots
    (kept_named g.D.Disk.told c.laws_of_sessions.ensures c.self.inside.parts (names_of items) (hands_of items) (slots_of items) c.args.name few c.self.invariant)

pub returns : goal.returns
returns g c =
    let items = c.self.inside.sessions.items in
    let old = c.args.self.now in
    let number = c.number_of-number.result in
    let view : names_of items ≡ old.names = ap (λ (s : StoreState _). s.names) c.self.view_is in
    let is = number_named c.as_slice.result.now items old.names c.args.name number c.number_of-number.ensures.is c.as_slice.ensures.value view in
    let most : number ≤ length old.names = omega (arith, c.number_of-number.ensures.within, ap length c.as_slice.ensures.value, length-map items (λ (s : Session). s.name), ap length view) in
    let made : c.if-number-len.self ≡ with_name old c.args.name = elim c.if-number-len.branch [
      | then-number-len+in-Ok w ↦
          w.self-is
          ∙ (λ i. store_of c.self.inside.parts (w.in-Ok.ensures.names i) (w.in-Ok.ensures.hands i))
          ∙ made_new (store_of c.self.inside.parts (names_of items) (hands_of items)) c.args.name number
          (number_named c.as_slice.result.now items (names_of items) c.args.name number c.number_of-number.ensures.is c.as_slice.ensures.value refl)
          (omega (arith, w.if-number-len.true, c.len.ensures, c.self.inside.sessions.ok, length-map items (λ (s : Session). s.name)))
          ∙ ap (λ (s : StoreState _). with_name s c.args.name) c.self.view_is
      | else-number-len w ↦
          w.self-is
          ∙ there_already old c.args.name number is
          (omega (arith, most, w.if-number-len.false, c.len.ensures, c.self.inside.sessions.ok, length-map items (λ (s : Session). s.name), ap length view))
    ] in
    record {
      named = has_session old c.if-number-len.self c.args.name number is most c.if-number-ge-MAX_SESSIONS.false made;
      places = leads_named g.D.Disk.told c.laws_of_sessions.ensures old c.if-number-len.self c.args.name made;
    }
