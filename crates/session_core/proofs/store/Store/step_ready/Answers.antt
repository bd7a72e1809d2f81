use Rattle.std.proofs.Common.{◌≡◌, ◌<◌, length, set, Option, Some, IsSome, Result, refl, sym, ap, subst, ◌∙◌, arith}
use Rattle.session_parts.specs.declared.faults.Step.{Step}
use Rattle.session_parts.specs.declared.faults.StoreFault.{StoreFault}
use Rattle.session_parts.specs.declared.hand.Hand.{Hand}
use Rattle.session_parts.specs.StepIs.{answer_of, hand_after}
use Rattle.session_parts.specs.Stepping.{IsFit, IsShown}
use Rattle.session_parts.specs.StoreStates.{StoreState, hand_at, hand_in, store_of, with_hand}
use Rattle.session_core.specs.declared.sessions.Session.{Session}
use Rattle.session_core.specs.SessionLists.{hands_of, names_of, slots_of}
use Rattle.session_core.specs.Slots.{IsKeptSlot, hand_of}
use Rattle.session_inserts.specs.Settling.{SettlesSo}
use Rattle.session_starts.specs.Stops.{StopsSo}
use Rattle.session_core.proofs.Kept.{few_each, kept_as, none_beyond, session_below}
use Rattle.session_core.proofs.InHand.{at_some, for_some, in_some}
use Rattle.session_core.proofs.Lists.{hand_here, hands_changed, in_list, names_kept, slot_here, slots_changed}
use Rattle.session_core.proofs.Stepping.{is_step, kept_behind, step_as}
use Rattle.session_core.proofs.store.Store.step_ready.Goals as goal

pub few_locks_are_held-requires-clause-none : goal.few_locks_are_held-requires-clause-none
few_locks_are_held-requires-clause-none g c =
    let items = c.self.inside.sessions.items in
    none_beyond g.D.Disk.told c.laws_of_sessions.ensures c.self.inside.parts (names_of items) (hands_of items) (slots_of items) c.self.invariant

pub few_locks_are_held-requires-clause-few : goal.few_locks_are_held-requires-clause-few
few_locks_are_held-requires-clause-few g c =
    let items = c.self.inside.sessions.items in
    few_each g.D.Disk.told c.laws_of_sessions.ensures c.self.inside.parts (names_of items) (hands_of items) (slots_of items) c.self.invariant

pub step_of-requires-clause-hand : goal.step_of-requires-clause-hand
step_of-requires-clause-hand g c =
    let items = c.self.inside.sessions.items in
    let some : IsSome (hand_in (hands_of items) c.args.session) = subst (λ (s : StoreState _). IsSome (hand_at s c.args.session)) (sym c.self.view_is) c.requires.hand in
    subst (λ (h : Option Hand). IsSome h) (hand_here items c.args.session c.index_mut-own.result.now c.index_mut-own.ensures.value (in_list items c.args.session some)) some

pub step_of-requires-clause-fit : goal.step_of-requires-clause-fit
step_of-requires-clause-fit g c =
    let items = c.self.inside.sessions.items in
    let n = c.args.session in
    let some : IsSome (hand_in (hands_of items) n) = subst (λ (s : StoreState _). IsSome (hand_at s n)) (sym c.self.view_is) c.requires.hand in
    let here = hand_here items n c.index_mut-own.result.now c.index_mut-own.ensures.value (in_list items n some) in
    let there : (was : Hand) → (hand_of c.index_mut-own.result.now.slot) ≡ Some was → n < length (names_of items) =
    λ was is. session_below g.D.Disk.told c.laws_of_sessions.ensures c.self.inside.parts (names_of items) (hands_of items) (slots_of items) c.self.invariant n was (here ∙ is) in
    for_some (λ was. IsFit g.D.Disk.told c.self.inside.parts n was) (hand_of c.index_mut-own.result.now.slot)
    (λ was is. (names_of items, hands_of items, here ∙ is, c.self.invariant.fits n (omega (arith, there was is, c.self.invariant.few_sessions))))

pub step_of-requires-clause-shown : goal.step_of-requires-clause-shown
step_of-requires-clause-shown g c =
    let items = c.self.inside.sessions.items in
    let n = c.args.session in
    let some : IsSome (hand_in (hands_of items) n) = subst (λ (s : StoreState _). IsSome (hand_at s n)) (sym c.self.view_is) c.requires.hand in
    let here = hand_here items n c.index_mut-own.result.now c.index_mut-own.ensures.value (in_list items n some) in
    for_some (λ was. IsShown g.D.Disk.told c.self.inside.parts n was) (hand_of c.index_mut-own.result.now.slot)
    (λ was is tells ready. (names_of items, hands_of items, here ∙ is, c.self.invariant.shown tells ready))

pub step_of-requires-clause-slot : goal.step_of-requires-clause-slot
step_of-requires-clause-slot g c =
    let items = c.self.inside.sessions.items in
    let n = c.args.session in
    let some : IsSome (hand_in (hands_of items) n) = subst (λ (s : StoreState _). IsSome (hand_at s n)) (sym c.self.view_is) c.requires.hand in
    subst (IsKeptSlot c.self.inside.parts.pages.layout) (slot_here items n c.index_mut-own.result.now c.index_mut-own.ensures.value (in_list items n some)) (c.self.invariant.slot n)

pub invariant_of-self : goal.invariant_of-self
invariant_of-self g c =
    let items = c.self.inside.sessions.items in
    let n = c.args.session in
    let own = c.index_mut-own.result.now in
    let now : Session = record own { slot = c.step_of.new.slot } in
    let some : IsSome (hand_in (hands_of items) n) = subst (λ (s : StoreState _). IsSome (hand_at s n)) (sym c.self.view_is) c.requires.hand in
    let here = hand_here items n own c.index_mut-own.ensures.value (in_list items n some) in
    let hand = in_some (hand_of own.slot) (subst (λ (h : Option Hand). IsSome h) here some) in
    let was = here ∙ hand.1 in
    let made = at_some (λ was. SettlesSo g.D.Disk.told c.self.inside.parts c.step_of.new.parts n was (hand_of c.step_of.new.slot) c.step_of.result) (hand_of own.slot) hand.0 hand.1 c.step_of.ensures.so in
    let names = names_kept items n own now c.index_mut-own.ensures.value refl in
    let hands = hands_changed items n now ∙ ap (λ (h : Option Hand). set (hands_of items) n h) made.left_is in
    kept_as g.D.Disk.told c.step_of.new.parts (names_of items) (names_of (set items n now)) (with_hand (hands_of items) n (hand_after made.stepped)) (hands_of (set items n now))
    (set (slots_of items) n now.slot) (slots_of (set items n now)) names hands (slots_changed items n now)
    (kept_behind g.D.Disk.told c.laws_of_sessions.ensures c.self.inside.parts (names_of items) (hands_of items) (slots_of items) c.self.invariant c.step_of.new.parts n hand.0
    was made.stepped made.so now.slot c.step_of.ensures.slot)

pub returns : goal.returns
returns g c =
    let items = c.self.inside.sessions.items in
    let n = c.args.session in
    let own = c.index_mut-own.result.now in
    let now : Session = record own { slot = c.step_of.new.slot } in
    let some : IsSome (hand_in (hands_of items) n) = subst (λ (s : StoreState _). IsSome (hand_at s n)) (sym c.self.view_is) c.requires.hand in
    let here = hand_here items n own c.index_mut-own.ensures.value (in_list items n some) in
    let hand = in_some (hand_of own.slot) (subst (λ (h : Option Hand). IsSome h) here some) in
    let was = here ∙ hand.1 in
    let made = at_some (λ was. SettlesSo g.D.Disk.told c.self.inside.parts c.step_of.new.parts n was (hand_of c.step_of.new.slot) c.step_of.result) (hand_of own.slot) hand.0 hand.1 c.step_of.ensures.so in
    let names = names_kept items n own now c.index_mut-own.ensures.value refl in
    let hands = hands_changed items n now ∙ ap (λ (h : Option Hand). set (hands_of items) n h) made.left_is in
    let stops = subst (λ (answer : Result Step StoreFault). StopsSo g.D.Disk.told c.self.inside.parts.transactions n c.self.inside.parts.pages c.step_of.new.parts.pages hand.0 answer) made.answer_is
    (at_some (λ was. StopsSo g.D.Disk.told c.self.inside.parts.transactions n c.self.inside.parts.pages c.step_of.new.parts.pages was c.step_of.result) (hand_of own.slot) hand.0 hand.1 c.step_of.ensures.survives) in
    let step = step_as g.D.Disk.told c.args.self.now (store_of c.self.inside.parts (names_of items) (hands_of items)) c.step_of.new.parts (names_of items) (names_of (set items n now))
    (with_hand (hands_of items) n (hand_after made.stepped)) (hands_of (set items n now)) n (answer_of made.stepped) c.step_of.result c.self.view_is names hands made.answer_is
    (is_step g.D.Disk.told c.laws_of_sessions.ensures c.self.inside.parts (names_of items) (hands_of items) (slots_of items) c.self.invariant c.step_of.new.parts n hand.0
    was made.stepped made.so stops) in
    record {
      steps = step.steps;
      hand = step.hand;
      holder = step.holder;
      waits = step.waits;
      names = step.names;
      others = step.others;
      statement = step.statement;
      still = step.still;
      survives = step.survives;
      leaves = step.leaves;
      journal = step.journal;
      ready = step.ready;
      cause = step.cause;
      journal_told = step.journal_told;
    }
