use Rattle.std.proofs.Common.{◌≡◌, ℕ, ◌<◌, List, length, Option, Some, None, sym, ap, ◌∙◌, subst, arith}
use Rattle.page_locks.specs.declared.held.Held.{Held}
use Rattle.block_model.specs.declared.place.Place.{Place}
use Rattle.block_model.specs.NumberMaps.{same_Some}
use Rattle.page_locks.specs.LockHolders.{LockState, count_of, holder, with_lock}
use Rattle.page_locks.specs.HeldLocks.{AreApart, found, shown}
use Rattle.page_locks.proofs.Entries.{apart_push, held_in_map, len_listed}
use Rattle.page_locks.proofs.Takings.{adds_taken, counts_same, free_of_none, held_already, holds_taken, pushed}
use Rattle.page_locks.proofs.locks.Locks.take.Goals as goal

-- what the search found is what the locks have
at_found : (held slice : List Held) (s : LockState) (page : Place) (limit : ℕ) (result o : Option ℕ) → slice ≡ held → shown held limit ≡ s → result ≡ found slice page → result ≡ o → holder s page ≡ o
at_found held slice s page limit result o same view is it =
    subst (λ (t : LockState). holder t page ≡ o) view (held_in_map held page ∙ subst (λ (xs : List Held). found xs page ≡ o) same (sym is ∙ it))

fewer : (held : List Held) (s : LockState) (limit : ℕ) → AreApart held → shown held limit ≡ s → count_of s < s.limit → length held < limit
fewer held s limit apart view room =
    let shown_room : count_of (shown held limit) < limit = subst (λ (t : LockState). count_of t < t.limit) (sym view) room in
    omega (arith, len_listed held apart, shown_room)

pub push_reserved-requires : goal.push_reserved-requires
push_reserved-requires c = omega (arith, fewer c.self.inside.held.items c.args.self.now c.self.inside.limit c.self.invariant.apart c.self.view_is c.requires, c.self.inside.held.ok, c.self.invariant.reserved)

pub invariant_of-self : goal.invariant_of-self
invariant_of-self c =
    let held = c.self.inside.held.items in
    let x : Held = record { page = c.args.page; by = c.args.actor } in
    let none : found held c.args.page ≡ None = subst (λ (xs : List Held). found xs c.args.page ≡ None) c.as_slice.ensures.value (sym c.holder_in.ensures ∙ c.in-None.is) in
    let short : length held < c.self.inside.limit = fewer held c.args.self.now c.self.inside.limit c.self.invariant.apart c.self.view_is c.requires in
    record {
      apart = subst AreApart (sym c.push_reserved.ensures.items) (apart_push held x c.self.invariant.apart none);
      within = omega (arith, short, c.push_reserved.ensures.len, c.push_reserved.new.self.ok, c.self.inside.held.ok);
      reserved = omega (arith, c.push_reserved.ensures.capacity, c.self.invariant.reserved);
    }

pub returns-in-None-clause-taken : goal.returns-in-None-clause-taken
returns-in-None-clause-taken c =
    let held = c.self.inside.held.items in
    let x : Held = record { page = c.args.page; by = c.args.actor } in
    let none : found held c.args.page ≡ None = subst (λ (xs : List Held). found xs c.args.page ≡ None) c.as_slice.ensures.value (sym c.holder_in.ensures ∙ c.in-None.is) in
    subst (λ (s : LockState). shown c.push_reserved.new.self.items c.self.inside.limit ≡ with_lock s c.args.page c.args.actor) c.self.view_is
    (pushed held c.push_reserved.new.self.items x c.self.inside.limit c.push_reserved.ensures.items none)

pub returns-in-None-clause-held : goal.returns-in-None-clause-held
returns-in-None-clause-held c = holds_taken c.args.self.now _ c.args.page c.args.actor (returns-in-None-clause-taken c)

pub returns-in-None-clause-free : goal.returns-in-None-clause-free
returns-in-None-clause-free c =
    free_of_none c.args.self.now c.args.page c.args.actor (at_found c.self.inside.held.items c.as_slice.result.now c.args.self.now c.args.page c.self.inside.limit c.holder_in.result None c.as_slice.ensures.value c.self.view_is c.holder_in.ensures c.in-None.is)

pub returns-in-None-clause-counts : goal.returns-in-None-clause-counts
returns-in-None-clause-counts c = adds_taken c.args.self.now _ c.args.page c.args.actor (returns-in-None-clause-taken c) (returns-in-None-clause-free c)

pub returns-in-Some-clause-held : goal.returns-in-Some-clause-held
returns-in-Some-clause-held c =
    at_found c.self.inside.held.items c.as_slice.result.now c.args.self.now c.args.page c.self.inside.limit c.holder_in.result (Some c.args.actor) c.as_slice.ensures.value c.self.view_is c.holder_in.ensures (c.in-Some.is ∙ ap Some c.if-by-actor.true)

pub returns-in-Some-clause-taken : goal.returns-in-Some-clause-taken
returns-in-Some-clause-taken c = held_already c.args.self.now c.args.page c.args.actor (returns-in-Some-clause-held c)

pub returns-in-Some-clause-free : goal.returns-in-Some-clause-free
returns-in-Some-clause-free c = λ n is. same_Some n c.args.actor (sym is ∙ returns-in-Some-clause-held c)

pub returns-in-Some-clause-counts : goal.returns-in-Some-clause-counts
returns-in-Some-clause-counts c = counts_same c.args.self.now c.args.actor 1

pub returns-in-Some-2-clause-refused : goal.returns-in-Some-2-clause-refused
returns-in-Some-2-clause-refused c =
    (at_found c.self.inside.held.items c.as_slice.result.now c.args.self.now c.args.page c.self.inside.limit c.holder_in.result (Some c.in-Some.by) c.as_slice.ensures.value c.self.view_is c.holder_in.ensures c.in-Some.is, c.if-by-actor.false)

pub returns-in-Some-2-clause-counts : goal.returns-in-Some-2-clause-counts
returns-in-Some-2-clause-counts c = counts_same c.args.self.now c.args.actor 1
