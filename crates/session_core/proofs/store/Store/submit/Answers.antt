use Rattle.std.proofs.Common.{◌≡◌, ◌<◌, List, length, set, Option, None, Some, IsSome, refl, sym, ap, subst, ◌∙◌, arith}
use Rattle.block_model.specs.declared.reply.Refusal.TheVariants as refusals
use Rattle.script_semantics.specs.LineTexts.{Submits}
use Rattle.session_parts.specs.declared.hand.Hand.{Hand}
use Rattle.session_parts.specs.declared.parts.Parts.{Parts}
use Rattle.session_parts.specs.StepIs.{LeadsOn}
use Rattle.session_parts.specs.StoreStates.{StoreState, store_of, with_hand}
use Rattle.session_core.specs.declared.sessions.Session.{Session}
use Rattle.session_core.specs.declared.slots.Slot.{Slot}
use Rattle.session_core.specs.Slots.{IsKeptSlot, hand_of}
use Rattle.session_core.specs.StoreKept.{IsStoreKept}
use Rattle.session_core.specs.SessionLists.{hands_of, names_of, slots_of}
use Rattle.session_core.specs.Submitting.{IsTakenUp, TakesHand, refusal_here}
use Rattle.session_core.proofs.InHand.{some_and}
use Rattle.session_core.proofs.Kept.{kept_as}
use Rattle.session_core.proofs.Lists.{hands_changed, names_kept, none_changed, slot_here, slots_changed, stands}
use Rattle.session_core.proofs.Taking.{forgetting, is_taken, judged_refused, judged_short, leads_refused, leads_short, taken_as}
use Rattle.session_core.proofs.store.Store.submit.Goals as goal

pub returns-in-Some-clause-submits : goal.returns-in-Some-clause-submits
returns-in-Some-clause-submits g c =
    leads_refused g.D.Disk.told c.laws_of_sessions.ensures c.args.self.now c.args.session c.args.statement c.in-Some.refusal (sym c.refusal.ensures ∙ c.in-Some.is)

pub returns-in-Some-clause-judged : goal.returns-in-Some-clause-judged
returns-in-Some-clause-judged g c = judged_refused c.args.self.now c.args.session c.args.statement c.in-Some.refusal (sym c.refusal.ensures ∙ c.in-Some.is)

-- memory is short

pub take_up-requires-clause-slot : goal.take_up-requires-clause-slot
take_up-requires-clause-slot g c =
    let items = c.self.inside.sessions.items in
    let n = c.args.session in
    let there = stands items c.args.self.now.names n (ap (λ (s : StoreState _). s.names) c.self.view_is) c.requires.session in
    subst (IsKeptSlot c.self.inside.parts.pages.layout) (slot_here items n c.index_mut-own.result.now c.index_mut-own.ensures.value there) (c.self.invariant.slot n)

pub invariant_of-self : goal.invariant_of-self
invariant_of-self g c =
    let items = c.self.inside.sessions.items in
    let own = c.index_mut-own.result.now in
    let now : Session = record own { slot = c.take_up.new.slot } in
    let none = none_changed items c.args.session own now c.index_mut-own.ensures.value (ap (λ (slot : Slot). record own { slot = slot }) c.in_default-take_up.ensures.same_slot) in
    subst (λ (q : Parts _). IsStoreKept g.D.Disk.told (store_of q (names_of (set items c.args.session now)) (hands_of (set items c.args.session now))) (slots_of (set items c.args.session now))) (sym c.in_default-take_up.ensures.same)
    (subst (λ (l : List Session). IsStoreKept g.D.Disk.told (store_of c.self.inside.parts (names_of l) (hands_of l)) (slots_of l)) (sym none) c.self.invariant)

pub returns-in_default-take_up : goal.returns-in_default-take_up
returns-in_default-take_up g c =
    let items = c.self.inside.sessions.items in
    let n = c.args.session in
    let old = c.args.self.now in
    let own = c.index_mut-own.result.now in
    let now : Session = record own { slot = c.take_up.new.slot } in
    let none = none_changed items n own now c.index_mut-own.ensures.value (ap (λ (slot : Slot). record own { slot = slot }) c.in_default-take_up.ensures.same_slot) in
    let new : StoreState _ = store_of c.take_up.new.parts (names_of (set items n now)) (hands_of (set items n now)) in
    let same : new ≡ old = ap (λ (q : Parts _). store_of q (names_of (set items n now)) (hands_of (set items n now))) c.in_default-take_up.ensures.same
    ∙ ap (λ (l : List Session). store_of c.self.inside.parts (names_of l) (hands_of l)) none ∙ c.self.view_is in
    let unspoken : refusal_here old n c.args.statement ≡ None = sym c.refusal.ensures ∙ c.in_default.is in
    record {
      submits = subst (λ (s : StoreState _). LeadsOn g.D.Disk.told old s (λ p q. Submits p n c.args.statement (Some refusals.Memory) q)) (sym same)
          (leads_short g.D.Disk.told c.laws_of_sessions.ensures old n c.args.statement unspoken c.in_default-take_up.ensures.wants);
      pages = ap (λ (s : StoreState _). s.pages) same;
      names = ap (λ (s : StoreState _). s.names) same;
      same = same;
      in_hand = tt;
      judged = judged_short old n c.args.statement unspoken c.in_default-take_up.ensures.wants;
      taken = tt;
    }

-- it is taken

pub invariant_of-self-2 : goal.invariant_of-self-2
invariant_of-self-2 g c =
    let items = c.self.inside.sessions.items in
    let n = c.args.session in
    let own = c.index_mut-own.result.now in
    let now : Session = record own { slot = c.take_up.new.slot } in
    let hand = some_and (TakesHand c.self.inside.parts c.take_up.new.parts c.args.statement) (hand_of c.take_up.new.slot) c.in-Ok.ensures.taken in
    let there : n < length (names_of items) = omega (arith, c.requires.session, ap (λ (s : StoreState _). length s.names) c.self.view_is) in
    let none : refusal_here (store_of c.self.inside.parts (names_of items) (hands_of items)) n c.args.statement ≡ None =
    ap (λ (s : StoreState _). refusal_here s n c.args.statement) c.self.view_is ∙ sym c.refusal.ensures ∙ c.in_default.is in
    let taken = is_taken g.D.Disk.told c.laws_of_sessions.ensures c.self.inside.parts (names_of items) (hands_of items) (slots_of items) c.self.invariant n c.args.statement there none hand.0
    c.take_up.new.slot c.take_up.ensures.slot c.take_up.new.parts c.clear.new.self (record { own = c.clear.ensures.own; others = c.clear.ensures.others }) hand.2 in
    kept_as g.D.Disk.told (forgetting c.take_up.new.parts c.clear.new.self) (names_of items) (names_of (set items n now)) (with_hand (hands_of items) n (Some hand.0)) (hands_of (set items n now))
    (set (slots_of items) n now.slot) (slots_of (set items n now)) (names_kept items n own now c.index_mut-own.ensures.value refl) (hands_changed items n now ∙ ap (set (hands_of items) n) hand.1) (slots_changed items n now) taken.kept_now

pub returns : goal.returns
returns g c =
    let items = c.self.inside.sessions.items in
    let n = c.args.session in
    let old = c.args.self.now in
    let own = c.index_mut-own.result.now in
    let sessions : List Session = set items n (record own { slot = c.take_up.new.slot }) in
    let hand = some_and (TakesHand c.self.inside.parts c.take_up.new.parts c.args.statement) (hand_of c.take_up.new.slot) c.in-Ok.ensures.taken in
    let before = store_of c.self.inside.parts (names_of items) (hands_of items) in
    let new = forgetting c.take_up.new.parts c.clear.new.self in
    let now = with_hand (hands_of items) n (Some hand.0) in
    let there : n < length (names_of items) = omega (arith, c.requires.session, ap (λ (s : StoreState _). length s.names) c.self.view_is) in
    let none : refusal_here old n c.args.statement ≡ None = sym c.refusal.ensures ∙ c.in_default.is in
    let taken = is_taken g.D.Disk.told c.laws_of_sessions.ensures c.self.inside.parts (names_of items) (hands_of items) (slots_of items) c.self.invariant n c.args.statement there
    (ap (λ (s : StoreState _). refusal_here s n c.args.statement) c.self.view_is ∙ none) hand.0 c.take_up.new.slot c.take_up.ensures.slot c.take_up.new.parts c.clear.new.self
    (record { own = c.clear.ensures.own; others = c.clear.ensures.others }) hand.2 in
    let names = names_kept items n own (record own { slot = c.take_up.new.slot }) c.index_mut-own.ensures.value refl in
    let hands = hands_changed items n (record own { slot = c.take_up.new.slot }) ∙ ap (set (hands_of items) n) hand.1 in
    let up = taken_as (λ s t. IsTakenUp s t n c.args.statement) old before new (names_of items) (names_of sessions) now (hands_of sessions) c.self.view_is names hands taken.up in
    record {
      submits = taken_as (λ s t. LeadsOn g.D.Disk.told s t (λ p q. Submits p n c.args.statement None q)) old before new (names_of items) (names_of sessions) now (hands_of sessions) c.self.view_is names hands taken.leads;
      pages = ap (λ (s : StoreState _). s.pages) up.rest;
      names = ap (λ (s : StoreState _). s.names) up.rest;
      same = tt;
      in_hand = subst (λ (h : Option Hand). IsSome h) (sym up.in_hand) refl;
      judged = none;
      taken = up;
    }
