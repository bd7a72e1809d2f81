use Rattle.std.proofs.Common.{arith, ℕ, ◌<◌, List, Option, refl, sym, ap, ◌∙◌, length, subst}
use Rattle.std.specs.Prelude.{IsSome, slice_index_or}
use Rattle.page_map.specs.PageMap.{View}
use Rattle.session_stepper.specs.TranscribedState.{line_at}
use Rattle.block_model.specs.declared.reply.Reply.TheVariants as replies
use Rattle.reply_texts.specs.Texts.{reply_text}
use Rattle.session_stepper.specs.declared.ending.Ending.TheVariants as endings
use Rattle.session_stepper.proofs.Calling.{fits_of, none_of}
use Rattle.session_stepper.proofs.Ways.{ends_so, refuses_so, submit_busy, submit_gone, submit_loses, submit_over, submit_refuses, submit_takes, takes_so}
use Rattle.session_stepper.proofs.transcribed_store.TranscribedStore.submit.Goals as goal

pub same-self : goal.same-self
same-self g c = refl

pub returns-then-is_some : goal.returns-then-is_some
returns-then-is_some g c =
    let i = c.self.inside in
    submit_over g.D.Disk.told (record { store = i.store; script = i.script; said = i.said.items; in_hand = i.in_hand.items; ended = i.ended }) c.args.self.now c.self.view_is i.counts.items c.self.invariant c.args.session c.args.number
    (sym c.is_some.ensures ∙ c.if-is_some.true)

pub told_by_idle-requires : goal.told_by_idle-requires
told_by_idle-requires g c = ap (length {A = Option ℕ}) c.as_slice-2.ensures.value ∙ c.self.invariant.wide_in_hand ∙ sym c.self.invariant.wide ∙ sym (ap (length {A = ℕ}) c.as_slice.ensures.value)

pub invariant_of-self : goal.invariant_of-self
invariant_of-self g c =
    let i = c.self.inside in
    ends_so (record { store = i.store; script = i.script; said = i.said.items; in_hand = i.in_hand.items; ended = i.ended }) i.counts.items c.self.invariant 0 i.store i.script refl refl refl i.said.items refl i.counts.items refl
    endings.OutOfPlace

pub returns-in_default : goal.returns-in_default
returns-in_default g c =
    let i = c.self.inside in
    submit_busy g.D.Disk.told (record { store = i.store; script = i.script; said = i.said.items; in_hand = i.in_hand.items; ended = i.ended }) c.args.self.now c.self.view_is i.counts.items c.self.invariant c.args.session c.args.number
    (none_of i.ended (sym c.is_some.ensures ∙ c.if-is_some.false)) (λ within. subst (λ (l : List (Option ℕ)). IsSome (line_at l c.args.session)) c.as_slice-2.ensures.value (c.in_default.ensures.none (subst (λ (l : List ℕ). c.args.session < length l) (sym c.as_slice.ensures.value) within)))

pub invariant_of-self-in_default-take : goal.invariant_of-self-in_default-take
invariant_of-self-in_default-take g c =
    let i = c.self.inside in
    ends_so (record { store = i.store; script = i.script; said = i.said.items; in_hand = i.in_hand.items; ended = i.ended }) i.counts.items c.self.invariant 0 i.store c.take.new.self refl refl c.take.ensures.script i.said.items refl
    i.counts.items refl endings.OutOfPlace

pub returns-in_default-take : goal.returns-in_default-take
returns-in_default-take g c =
    let i = c.self.inside in
    submit_gone g.D.Disk.told (record { store = i.store; script = i.script; said = i.said.items; in_hand = i.in_hand.items; ended = i.ended }) c.args.self.now c.self.view_is i.counts.items c.self.invariant c.args.session c.args.number
    (none_of i.ended (sym c.is_some.ensures ∙ c.if-is_some.false)) c.in-Some.count (subst (λ (l : List ℕ). c.args.session < length l) c.as_slice.ensures.value c.in-Some.ensures.some.0) (c.in-Some.ensures.some.1 ∙ ap (λ (l : List ℕ). slice_index_or l c.args.session 0) c.as_slice.ensures.value) c.take.new.self c.take.ensures.script c.in_default-take.ensures.held
    c.in_default-take.ensures.none

pub submit-requires-clause-session : goal.submit-requires-clause-session
submit-requires-clause-session g c = omega (arith, c.in-Some.ensures.some.0, c.as_slice.ensures.len, c.self.invariant.wide)

pub submit-requires-clause-statement : goal.submit-requires-clause-statement
submit-requires-clause-statement g c =
    let i = c.self.inside in
    fits_of (record { store = i.store; script = i.script; said = i.said.items; in_hand = i.in_hand.items; ended = i.ended }) i.counts.items c.self.invariant c.args.session c.args.number c.in-Some.count c.in-Some-take.statement
    c.in-Some-take.ensures.taken

pub index_mut-requires : goal.index_mut-requires
index_mut-requires g c = omega (arith, c.in-Some.ensures.some.0, c.as_slice.ensures.len, c.self.invariant.wide, c.self.invariant.wide_in_hand)

pub invariant_of-self-in-Ok : goal.invariant_of-self-in-Ok
invariant_of-self-in-Ok g c =
    let i = c.self.inside in
    takes_so (record { store = i.store; script = i.script; said = i.said.items; in_hand = i.in_hand.items; ended = i.ended }) i.counts.items c.self.invariant c.args.session c.args.number c.in-Some.count c.in-Some-take.statement
    c.submit.new.self c.take.new.self c.submit.ensures.names c.submit.ensures.pages c.take.ensures.script (none_of i.ended (sym c.is_some.ensures ∙ c.if-is_some.false)) (subst (λ (l : List ℕ). c.args.session < length l) c.as_slice.ensures.value c.in-Some.ensures.some.0)
    (c.in-Some.ensures.some.1 ∙ ap (λ (l : List ℕ). slice_index_or l c.args.session 0) c.as_slice.ensures.value) (sym (ap (λ (l : List (Option ℕ)). line_at l c.args.session) c.as_slice-2.ensures.value) ∙ c.in-Some.ensures.some.2) c.in-Some-take.ensures.taken c.in-Some-take.ensures.held c.in-Ok.ensures.taken.others c.in-Ok.ensures.in_hand

pub name_of-name-requires : goal.name_of-name-requires
name_of-name-requires g c = let names = ap (length {A = List ℕ}) c.submit.ensures.names in omega (arith, c.in-Some.ensures.some.0, c.as_slice.ensures.len, c.self.invariant.wide, names)

pub slice_bounds-keep_reply-end : goal.slice_bounds-keep_reply-end
slice_bounds-keep_reply-end g c = refl

pub keep_reply-requires : goal.keep_reply-requires
keep_reply-requires g c = omega (arith, c.in-Some.ensures.some.0, c.as_slice.ensures.len)

pub invariant_of-self-in-Ok-keep_reply : goal.invariant_of-self-in-Ok-keep_reply
invariant_of-self-in-Ok-keep_reply g c =
    let i = c.self.inside in
    refuses_so (record { store = i.store; script = i.script; said = i.said.items; in_hand = i.in_hand.items; ended = i.ended }) i.counts.items c.self.invariant c.args.session c.args.number c.in-Some.count c.in-Some-take.statement
    c.submit.new.self c.take.new.self c.in-Err.ensures.same c.take.ensures.script (none_of i.ended (sym c.is_some.ensures ∙ c.if-is_some.false)) (subst (λ (l : List ℕ). c.args.session < length l) c.as_slice.ensures.value c.in-Some.ensures.some.0)
    (c.in-Some.ensures.some.1 ∙ ap (λ (l : List ℕ). slice_index_or l c.args.session 0) c.as_slice.ensures.value) (sym (ap (λ (l : List (Option ℕ)). line_at l c.args.session) c.as_slice-2.ensures.value) ∙ c.in-Some.ensures.some.2) c.in-Some-take.ensures.taken c.in-Some-take.ensures.held (reply_text c.name_of-name.result (replies.Refused c.in-Err.refusal)) c.keep_reply.new.said.items
    c.in-Ok-keep_reply.ensures.kept c.keep_reply.new.counts.items c.in-Ok-keep_reply.ensures.counted

pub invariant_of-self-in_default-keep_reply : goal.invariant_of-self-in_default-keep_reply
invariant_of-self-in_default-keep_reply g c =
    let i = c.self.inside in
    ends_so (record { store = i.store; script = i.script; said = i.said.items; in_hand = i.in_hand.items; ended = i.ended }) i.counts.items c.self.invariant 0 c.submit.new.self c.take.new.self c.submit.ensures.names
    (ap (λ (v : View g.row.D.Denot). v.layout) c.submit.ensures.pages) c.take.ensures.script c.keep_reply.new.said.items c.in_default-keep_reply.ensures.err.0 c.keep_reply.new.counts.items c.in_default-keep_reply.ensures.err.1 endings.Memory

pub returns-in_default-keep_reply : goal.returns-in_default-keep_reply
returns-in_default-keep_reply g c =
    let i = c.self.inside in
    submit_loses g.D.Disk.told (record { store = i.store; script = i.script; said = i.said.items; in_hand = i.in_hand.items; ended = i.ended }) c.args.self.now c.self.view_is i.counts.items c.self.invariant c.args.session c.args.number
    (none_of i.ended (sym c.is_some.ensures ∙ c.if-is_some.false)) c.in-Some.count (subst (λ (l : List ℕ). c.args.session < length l) c.as_slice.ensures.value c.in-Some.ensures.some.0) (c.in-Some.ensures.some.1 ∙ ap (λ (l : List ℕ). slice_index_or l c.args.session 0) c.as_slice.ensures.value) c.take.new.self c.take.ensures.script (sym (ap (λ (l : List (Option ℕ)). line_at l c.args.session) c.as_slice-2.ensures.value) ∙ c.in-Some.ensures.some.2) c.in-Some-take.statement
    c.in-Some-take.ensures.taken (g.met.D.Disk.since_now_is_now i.store.pages.disk) c.submit.new.self c.in-Err.refusal c.in-Err.ensures.same c.in-Err.ensures.submits c.keep_reply.new.said.items c.in_default-keep_reply.ensures.err.0

pub returns-in-Ok : goal.returns-in-Ok
returns-in-Ok g c =
    let i = c.self.inside in
    submit_takes g.D.Disk.told (record { store = i.store; script = i.script; said = i.said.items; in_hand = i.in_hand.items; ended = i.ended }) c.args.self.now c.self.view_is i.counts.items c.self.invariant c.args.session c.args.number
    (none_of i.ended (sym c.is_some.ensures ∙ c.if-is_some.false)) c.in-Some.count (subst (λ (l : List ℕ). c.args.session < length l) c.as_slice.ensures.value c.in-Some.ensures.some.0) (c.in-Some.ensures.some.1 ∙ ap (λ (l : List ℕ). slice_index_or l c.args.session 0) c.as_slice.ensures.value) c.take.new.self c.take.ensures.script (sym (ap (λ (l : List (Option ℕ)). line_at l c.args.session) c.as_slice-2.ensures.value) ∙ c.in-Some.ensures.some.2) c.in-Some-take.statement
    c.in-Some-take.ensures.taken (g.met.D.Disk.since_now_is_now i.store.pages.disk) c.submit.new.self c.submit.ensures.pages c.in-Ok.ensures.submits

pub returns-in-Ok-keep_reply : goal.returns-in-Ok-keep_reply
returns-in-Ok-keep_reply g c =
    let i = c.self.inside in
    submit_refuses g.D.Disk.told (record { store = i.store; script = i.script; said = i.said.items; in_hand = i.in_hand.items; ended = i.ended }) c.args.self.now c.self.view_is i.counts.items c.self.invariant c.args.session c.args.number
    (none_of i.ended (sym c.is_some.ensures ∙ c.if-is_some.false)) c.in-Some.count (subst (λ (l : List ℕ). c.args.session < length l) c.as_slice.ensures.value c.in-Some.ensures.some.0) (c.in-Some.ensures.some.1 ∙ ap (λ (l : List ℕ). slice_index_or l c.args.session 0) c.as_slice.ensures.value) c.take.new.self c.take.ensures.script (sym (ap (λ (l : List (Option ℕ)). line_at l c.args.session) c.as_slice-2.ensures.value) ∙ c.in-Some.ensures.some.2) c.in-Some-take.statement
    c.in-Some-take.ensures.taken (g.met.D.Disk.since_now_is_now i.store.pages.disk) c.submit.new.self c.in-Err.refusal c.in-Err.ensures.same c.in-Err.ensures.submits c.name_of-name.result c.name_of-name.ensures
    c.keep_reply.new.said.items c.in-Ok-keep_reply.ensures.kept
