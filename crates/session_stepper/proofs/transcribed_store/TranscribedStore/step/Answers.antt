use Rattle.std.proofs.Common.{arith, ◌≡◌, ℕ, ◌<◌, List, ◌++◌, Option, Ok, refl, sym, ap, ◌∙◌, length, subst}
use Rattle.std.specs.Option.{is_some}
use Rattle.io_traits.specs.declared.stepper.Turn.TheVariants as turns
use Rattle.demo_script.specs.declared.answer.Answer.{Answer}
use Rattle.reply_texts.specs.DroppedTexts.{dropped_text}
use Rattle.reply_texts.specs.Texts.{reply_text}
use Rattle.session_parts.specs.StoreStates.{hand_at}
use Rattle.session_orders.specs.Leading.{PlacesLead}
use Rattle.session_orders.specs.OneStep.{IsOfStep, stays_in_hand}
use Rattle.session_orders.specs.Orders.{StepsSo}
use Rattle.session_stepper.specs.declared.ending.Ending.TheVariants as endings
use Rattle.session_stepper.specs.Calls.{IsAdvanced}
use Rattle.session_stepper.specs.TranscribedState.{TranscribedState, line_at}
use Rattle.session_stepper.proofs.Calling.{busy_of, none_of}
use Rattle.session_stepper.proofs.Ways.{answers_so, ends_so, goes_so, in_hand_within, step_answers, step_goes, step_idle, step_loses, step_over, step_stops, step_waits}
use Rattle.session_stepper.proofs.transcribed_store.TranscribedStore.step.Goals as goal
use Rattle.session_stepper.proofs.transcribed_store.TranscribedStore.step.Goals.{in-Begun-2, in-Found-2, in-Kept-2}

pub same-self : goal.same-self
same-self g c = refl

pub returns-then-is_some : goal.returns-then-is_some
returns-then-is_some g c =
    let i = c.self.inside in
    step_over g.D.Disk.told (record { store = i.store; script = i.script; said = i.said.items; in_hand = i.in_hand.items; ended = i.ended }) c.args.self.now c.self.view_is i.counts.items c.self.invariant c.args.session (sym c.is_some.ensures ∙ c.if-is_some.true)

pub invariant_of-self : goal.invariant_of-self
invariant_of-self g c =
    let i = c.self.inside in
    ends_so (record { store = i.store; script = i.script; said = i.said.items; in_hand = i.in_hand.items; ended = i.ended }) i.counts.items c.self.invariant 0 i.store i.script refl refl refl i.said.items refl i.counts.items refl endings.OutOfPlace

pub returns-in_default : goal.returns-in_default
returns-in_default g c =
    let i = c.self.inside in
    step_idle g.D.Disk.told (record { store = i.store; script = i.script; said = i.said.items; in_hand = i.in_hand.items; ended = i.ended }) c.args.self.now c.self.view_is i.counts.items c.self.invariant c.args.session (none_of i.ended (sym c.is_some.ensures ∙ c.if-is_some.false)) (sym (c.in_default.ensures ∙ ap (λ (l : List (Option ℕ)). line_at l c.args.session) c.as_slice.ensures.value))

pub step-requires : goal.step-requires
step-requires g c =
    let i = c.self.inside in
    record { hand = busy_of (record { store = i.store; script = i.script; said = i.said.items; in_hand = i.in_hand.items; ended = i.ended }) i.counts.items c.self.invariant c.args.session c.in-Some.number (none_of i.ended (sym c.is_some.ensures ∙ c.if-is_some.false)) (sym (c.in-Some.ensures ∙ ap (λ (l : List (Option ℕ)). line_at l c.args.session) c.as_slice.ensures.value)) }

pub invariant_of-self-in-Ok-Moved : goal.invariant_of-self-in-Ok-Moved
invariant_of-self-in-Ok-Moved g c =
    let i = c.self.inside in
    goes_so (record { store = i.store; script = i.script; said = i.said.items; in_hand = i.in_hand.items; ended = i.ended }) i.counts.items c.self.invariant c.args.session c.in-Some.number (none_of i.ended (sym c.is_some.ensures ∙ c.if-is_some.false)) (sym (c.in-Some.ensures ∙ ap (λ (l : List (Option ℕ)). line_at l c.args.session) c.as_slice.ensures.value)) c.step.new.store c.step.ensures.names c.in-Ok-Moved.ensures.ok.leaves.layout c.step.ensures.hands.others (subst (λ (a : Answer). is_some (hand_at c.step.new.store c.args.session) ≡ stays_in_hand (Ok a)) c.in-Ok-Moved.field-0-is c.in-Ok-Moved.ensures.hands.own)

pub invariant_of-self-in-Ok-Refused : goal.invariant_of-self-in-Ok-Refused
invariant_of-self-in-Ok-Refused g c =
    let i = c.self.inside in
    goes_so (record { store = i.store; script = i.script; said = i.said.items; in_hand = i.in_hand.items; ended = i.ended }) i.counts.items c.self.invariant c.args.session c.in-Some.number (none_of i.ended (sym c.is_some.ensures ∙ c.if-is_some.false)) (sym (c.in-Some.ensures ∙ ap (λ (l : List (Option ℕ)). line_at l c.args.session) c.as_slice.ensures.value)) c.step.new.store c.step.ensures.names c.in-Ok-Refused.ensures.ok.leaves.layout c.step.ensures.hands.others (subst (λ (a : Answer). is_some (hand_at c.step.new.store c.args.session) ≡ stays_in_hand (Ok a)) c.in-Ok-Refused.field-0-is c.in-Ok-Refused.ensures.hands.own)

pub name_of-name-requires : goal.name_of-name-requires
name_of-name-requires g c =
    let i = c.self.inside in
    let few = in_hand_within i.in_hand.items c.args.session c.in-Some.number (sym (c.in-Some.ensures ∙ ap (λ (l : List (Option ℕ)). line_at l c.args.session) c.as_slice.ensures.value)) in
    let names = ap (length {A = List ℕ}) c.step.ensures.names in
    omega (arith, few, names, c.self.invariant.wide_in_hand)

pub dropped-requires : goal.dropped-requires
dropped-requires g c =
    let i = c.self.inside in
    let few = in_hand_within i.in_hand.items c.args.session c.in-Some.number (sym (c.in-Some.ensures ∙ ap (λ (l : List (Option ℕ)). line_at l c.args.session) c.as_slice.ensures.value)) in
    let names = ap (length {A = List ℕ}) c.step.ensures.names in
    omega (arith, few, names, c.self.invariant.wide_in_hand)

pub keep_reply-requires : goal.keep_reply-requires
keep_reply-requires g c =
    let i = c.self.inside in
    let few = in_hand_within i.in_hand.items c.args.session c.in-Some.number (sym (c.in-Some.ensures ∙ ap (λ (l : List (Option ℕ)). line_at l c.args.session) c.as_slice.ensures.value)) in
    omega (arith, few, c.self.invariant.wide, c.self.invariant.wide_in_hand)

pub invariant_of-self-in_default-keep_reply : goal.invariant_of-self-in_default-keep_reply
invariant_of-self-in_default-keep_reply g c =
    let i = c.self.inside in
    ends_so (record { store = i.store; script = i.script; said = i.said.items; in_hand = i.in_hand.items; ended = i.ended }) i.counts.items c.self.invariant 0 c.step.new.store i.script c.step.ensures.names c.in-Ok-Ended.ensures.ok.leaves.layout refl c.keep_reply.new.said.items c.in_default-keep_reply.ensures.err.0
    c.keep_reply.new.counts.items c.in_default-keep_reply.ensures.err.1 endings.Memory

pub returns-in_default-keep_reply : goal.returns-in_default-keep_reply
returns-in_default-keep_reply g c =
    let i = c.self.inside in
    step_loses g.D.Disk.told (record { store = i.store; script = i.script; said = i.said.items; in_hand = i.in_hand.items; ended = i.ended }) c.args.self.now c.self.view_is i.counts.items c.self.invariant c.args.session c.in-Some.number (none_of i.ended (sym c.is_some.ensures ∙ c.if-is_some.false)) (sym (c.in-Some.ensures ∙ ap (λ (l : List (Option ℕ)). line_at l c.args.session) c.as_slice.ensures.value)) c.step.new.store c.in-Ok-Ended.reply (subst (λ (a : Answer). PlacesLead g.D.Disk.told i.store c.step.new.store (StepsSo c.args.session a)) c.in-Ok-Ended.field-0-is c.in-Ok-Ended.ensures.ok) c.step.ensures.tables c.keep_reply.new.said.items c.in_default-keep_reply.ensures.err.0

pub index_mut-requires : goal.index_mut-requires
index_mut-requires g c =
    let i = c.self.inside in
    let few = in_hand_within i.in_hand.items c.args.session c.in-Some.number (sym (c.in-Some.ensures ∙ ap (λ (l : List (Option ℕ)). line_at l c.args.session) c.as_slice.ensures.value)) in
    subst (λ (k : ℕ). c.args.session < k) (sym (ap (length {A = Option ℕ}) c.as_slice.ensures.value) ∙ c.as_slice.ensures.len) few

pub invariant_of-self-in-Ok : goal.invariant_of-self-in-Ok
invariant_of-self-in-Ok g c =
    let i = c.self.inside in
    answers_so (record { store = i.store; script = i.script; said = i.said.items; in_hand = i.in_hand.items; ended = i.ended }) i.counts.items c.self.invariant c.args.session c.in-Some.number (none_of i.ended (sym c.is_some.ensures ∙ c.if-is_some.false)) (sym (c.in-Some.ensures ∙ ap (λ (l : List (Option ℕ)). line_at l c.args.session) c.as_slice.ensures.value)) c.step.new.store c.step.ensures.names c.in-Ok-Ended.ensures.ok.leaves.layout c.step.ensures.hands.others
    (subst (λ (a : Answer). is_some (hand_at c.step.new.store c.args.session) ≡ stays_in_hand (Ok a)) c.in-Ok-Ended.field-0-is c.in-Ok-Ended.ensures.hands.own) (dropped_text c.dropped.result.now ++ reply_text c.name_of-name.result c.in-Ok-Ended.reply)
    c.keep_reply.new.said.items c.in-Ok.ensures.kept c.keep_reply.new.counts.items c.in-Ok.ensures.counted

pub invariant_of-self-in-Ok-2 : goal.invariant_of-self-in-Ok-2
invariant_of-self-in-Ok-2 g c =
    let i = c.self.inside in
    answers_so (record { store = i.store; script = i.script; said = i.said.items; in_hand = i.in_hand.items; ended = i.ended }) i.counts.items c.self.invariant c.args.session c.in-Some.number (none_of i.ended (sym c.is_some.ensures ∙ c.if-is_some.false)) (sym (c.in-Some.ensures ∙ ap (λ (l : List (Option ℕ)). line_at l c.args.session) c.as_slice.ensures.value)) c.step.new.store c.step.ensures.names c.in-Ok-Ended.ensures.ok.leaves.layout c.step.ensures.hands.others
    (subst (λ (a : Answer). is_some (hand_at c.step.new.store c.args.session) ≡ stays_in_hand (Ok a)) c.in-Ok-Ended.field-0-is c.in-Ok-Ended.ensures.hands.own) (dropped_text c.dropped.result.now ++ reply_text c.name_of-name.result c.in-Ok-Ended.reply)
    c.keep_reply.new.said.items c.in-Ok.ensures.kept c.keep_reply.new.counts.items c.in-Ok.ensures.counted

pub invariant_of-self-in-Ok-3 : goal.invariant_of-self-in-Ok-3
invariant_of-self-in-Ok-3 g c =
    let i = c.self.inside in
    answers_so (record { store = i.store; script = i.script; said = i.said.items; in_hand = i.in_hand.items; ended = i.ended }) i.counts.items c.self.invariant c.args.session c.in-Some.number (none_of i.ended (sym c.is_some.ensures ∙ c.if-is_some.false)) (sym (c.in-Some.ensures ∙ ap (λ (l : List (Option ℕ)). line_at l c.args.session) c.as_slice.ensures.value)) c.step.new.store c.step.ensures.names c.in-Ok-Ended.ensures.ok.leaves.layout c.step.ensures.hands.others
    (subst (λ (a : Answer). is_some (hand_at c.step.new.store c.args.session) ≡ stays_in_hand (Ok a)) c.in-Ok-Ended.field-0-is c.in-Ok-Ended.ensures.hands.own) (dropped_text c.dropped.result.now ++ reply_text c.name_of-name.result c.in-Ok-Ended.reply)
    c.keep_reply.new.said.items c.in-Ok.ensures.kept c.keep_reply.new.counts.items c.in-Ok.ensures.counted

pub unreachable-requires : goal.unreachable-requires
unreachable-requires g c = subst (λ (a : Answer). IsOfStep a) c.in-Ok-Started.field-0-is c.in-Ok-Started.ensures.made

pub unreachable-unreachable : goal.unreachable-unreachable
unreachable-unreachable g c = subst (λ (a : Answer). IsOfStep a) c.in-Ok-Started.field-0-is c.in-Ok-Started.ensures.made

pub invariant_of-self-in-Err : goal.invariant_of-self-in-Err
invariant_of-self-in-Err g c =
    let i = c.self.inside in
    ends_so (record { store = i.store; script = i.script; said = i.said.items; in_hand = i.in_hand.items; ended = i.ended }) i.counts.items c.self.invariant 0 c.step.new.store i.script c.step.ensures.names c.in-Err.ensures.stops.leaves.layout refl i.said.items refl i.counts.items refl c.of.result

pub returns-in-Ok-Moved : goal.returns-in-Ok-Moved
returns-in-Ok-Moved g c =
    let i = c.self.inside in
    step_goes g.D.Disk.told (record { store = i.store; script = i.script; said = i.said.items; in_hand = i.in_hand.items; ended = i.ended }) c.args.self.now c.self.view_is i.counts.items c.self.invariant c.args.session c.in-Some.number (none_of i.ended (sym c.is_some.ensures ∙ c.if-is_some.false)) (sym (c.in-Some.ensures ∙ ap (λ (l : List (Option ℕ)). line_at l c.args.session) c.as_slice.ensures.value)) c.step.new.store c.in-Ok-Moved.field-0-0 (subst (λ (a : Answer). PlacesLead g.D.Disk.told i.store c.step.new.store (StepsSo c.args.session a)) c.in-Ok-Moved.field-0-is c.in-Ok-Moved.ensures.ok)

pub returns-in-Ok-Refused : goal.returns-in-Ok-Refused
returns-in-Ok-Refused g c =
    let i = c.self.inside in
    step_waits g.D.Disk.told (record { store = i.store; script = i.script; said = i.said.items; in_hand = i.in_hand.items; ended = i.ended }) c.args.self.now c.self.view_is i.counts.items c.self.invariant c.args.session c.in-Some.number (none_of i.ended (sym c.is_some.ensures ∙ c.if-is_some.false)) (sym (c.in-Some.ensures ∙ ap (λ (l : List (Option ℕ)). line_at l c.args.session) c.as_slice.ensures.value)) c.step.new.store c.in-Ok-Refused.field-0-0 (subst (λ (a : Answer). PlacesLead g.D.Disk.told i.store c.step.new.store (StepsSo c.args.session a)) c.in-Ok-Refused.field-0-is c.in-Ok-Refused.ensures.ok)

pub returns-in-Ok : goal.returns-in-Ok
returns-in-Ok g c =
    let i = c.self.inside in
    let done =
    step_answers g.D.Disk.told (record { store = i.store; script = i.script; said = i.said.items; in_hand = i.in_hand.items; ended = i.ended }) c.args.self.now c.self.view_is i.counts.items c.self.invariant c.args.session c.in-Some.number (none_of i.ended (sym c.is_some.ensures ∙ c.if-is_some.false)) (sym (c.in-Some.ensures ∙ ap (λ (l : List (Option ℕ)). line_at l c.args.session) c.as_slice.ensures.value)) c.step.new.store c.in-Ok-Ended.reply c.dropped.result.now (subst (λ (a : Answer). PlacesLead g.D.Disk.told i.store c.step.new.store (StepsSo c.args.session a)) c.in-Ok-Ended.field-0-is c.in-Ok-Ended.ensures.ok) c.dropped.ensures c.step.ensures.names c.name_of-name.result c.name_of-name.ensures
    c.keep_reply.new.said.items c.in-Ok.ensures.kept in
    elim c.match-reply-2.branch [
      | in-Found-2 w ↦ subst (λ (x : TranscribedState g.row.D.Denot). IsAdvanced g.D.Disk.told c.args.self.now x c.args.session turns.Done) (sym w.self-is) done
      | in-Kept-2 w ↦ subst (λ (x : TranscribedState g.row.D.Denot). IsAdvanced g.D.Disk.told c.args.self.now x c.args.session turns.Done) (sym w.self-is) done
      | in-Begun-2 w ↦ subst (λ (x : TranscribedState g.row.D.Denot). IsAdvanced g.D.Disk.told c.args.self.now x c.args.session turns.Done) (sym w.self-is) done
    ]

pub returns-in-Err : goal.returns-in-Err
returns-in-Err g c =
    let i = c.self.inside in
    step_stops g.D.Disk.told (record { store = i.store; script = i.script; said = i.said.items; in_hand = i.in_hand.items; ended = i.ended }) c.args.self.now c.self.view_is i.counts.items c.self.invariant c.args.session c.in-Some.number (none_of i.ended (sym c.is_some.ensures ∙ c.if-is_some.false)) (sym (c.in-Some.ensures ∙ ap (λ (l : List (Option ℕ)). line_at l c.args.session) c.as_slice.ensures.value)) c.step.new.store c.in-Err.fault c.in-Err.ensures.stops c.in-Err.ensures.room c.of.result c.of.ensures
