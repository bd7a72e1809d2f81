use Rattle.std.proofs.Common.{IfSome, IsSome, Err, sym, refl, subst, arith}
use Rattle.page_map.specs.Keeps.{Leaves}
use Rattle.session_parts.specs.HandFits.{FitsStore}
use Rattle.session_parts.specs.StoreStates.{StoreState, hand_at, hand_in, store_of}
use Rattle.session_starts.specs.Stops.{StopsSo}
use Rattle.session_core.specs.SessionLists.{hands_of, names_of, slots_of}
use Rattle.session_core.proofs.Reopening.{fits_here, journal_reopened, stops_reopened, stops_whole}
use Rattle.session_core.proofs.store.Store.step.Goals as goal

pub returns-in-Err-clause-survives : goal.returns-in-Err-clause-survives
returns-in-Err-clause-survives g c =
    let items = c.self.inside.sessions.items in
    subst (λ (s : StoreState _). IfSome (hand_at s c.args.session) (λ hand. StopsSo g.D.Disk.told s.transactions c.args.session s.pages s.pages hand (Err c.fault_of.result))) c.self.view_is
    (stops_reopened g.D.Disk.told (store_of c.self.inside.parts (names_of items) (hands_of items)) c.args.session c.in-Err.error c.fault_of.result c.ready.ensures.stays c.in-Err.ensures.reopen c.fault_of.ensures)

pub returns-in-Err-clause-journal_told : goal.returns-in-Err-clause-journal_told
returns-in-Err-clause-journal_told g c = journal_reopened c.args.self.now (hand_at c.args.self.now c.args.session) c.in-Err.error c.fault_of.result c.in-Err.ensures.reopen c.fault_of.ensures

pub returns-in-Err-clause-stops : goal.returns-in-Err-clause-stops
returns-in-Err-clause-stops g c =
    let told = g.D.Disk.told in
    let items = c.self.inside.sessions.items in
    let n = c.args.session in
    let here : StoreState _ = store_of c.self.inside.parts (names_of items) (hands_of items) in
    let some : IsSome (hand_in (hands_of items) n) = subst (λ (s : StoreState _). IsSome (hand_at s n)) (sym c.self.view_is) c.requires in
    let fits : FitsStore told c.args.self.now n = subst (λ (s : StoreState _). FitsStore told s n) c.self.view_is (fits_here told c.self.inside.parts (names_of items) (hands_of items) (slots_of items) n c.self.invariant some) in
    let leaves : Leaves told c.args.self.now.pages c.args.self.now.pages = record { layout = refl; tells = refl; faults = omega arith } in
    stops_whole told c.args.self.now c.args.self.now n (Err c.fault_of.result) c.a_step_stops_whole.ensures c.requires fits leaves (returns-in-Err-clause-survives g c)

pub returns-in-Ok-clause-stops : goal.returns-in-Ok-clause-stops
returns-in-Ok-clause-stops g c =
    let told = g.D.Disk.told in
    let items = c.self.inside.sessions.items in
    let n = c.args.session in
    let some : IsSome (hand_in (hands_of items) n) = subst (λ (s : StoreState _). IsSome (hand_at s n)) (sym c.self.view_is) c.requires in
    let fits : FitsStore told c.args.self.now n = subst (λ (s : StoreState _). FitsStore told s n) c.self.view_is (fits_here told c.self.inside.parts (names_of items) (hands_of items) (slots_of items) n c.self.invariant some) in
    stops_whole told c.args.self.now c.step_ready.new.self n c.step_ready.result c.a_step_stops_whole.ensures c.requires fits c.step_ready.ensures.leaves c.step_ready.ensures.survives
