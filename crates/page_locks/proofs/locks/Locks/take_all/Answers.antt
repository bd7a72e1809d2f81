use Rattle.std.proofs.Common.{◌≡◌, ℕ, ◌+◌, ◌≤◌, List, length, Option, sym, ap, ◌∙◌, subst, arith}
use Rattle.block_model.specs.declared.place.Place.{Place}
use Rattle.page_locks.specs.declared.held.Held.{Held}
use Rattle.page_locks.specs.LockHolders.{LockState, count_of, holder}
use Rattle.page_locks.specs.LockChanges.{IsAnothers, IsFirstHeld, TakesAll}
use Rattle.page_locks.specs.LockCounts.{AddsAtMost}
use Rattle.page_locks.specs.HeldLocks.{AreApart, found, shown}
use Rattle.page_locks.proofs.Entries.{len_listed}
use Rattle.page_locks.proofs.Takings.{AllFree, list_adds, list_takes, same_holders}
use Rattle.page_locks.proofs.locks.Locks.take_all.Goals as goal

-- who holds a page, by the locks and by the slice of them
by_slice : (held slice : List Held) (s : LockState) (limit : ℕ) → slice ≡ held → shown held limit ≡ s → found slice ≡ holder s
by_slice held slice s limit same view = ap (λ (xs : List Held). found xs) same ∙ sym (same_holders held) ∙ ap (λ (t : LockState). holder t) view

rooms : (held : List Held) (s : LockState) (limit more : ℕ) → AreApart held → shown held limit ≡ s → count_of s + more ≤ s.limit → length held + more ≤ limit
rooms held s limit more apart view room =
    let shown_room : count_of (shown held limit) + more ≤ limit = subst (λ (t : LockState). count_of t + more ≤ t.limit) (sym view) room in
    omega (arith, len_listed held apart, shown_room)

pub hold_all-requires-clause-room : goal.hold_all-requires-clause-room
hold_all-requires-clause-room c =
    omega (arith, rooms c.self.inside.held.items c.args.self.now c.self.inside.limit (length c.args.blocks.now) c.self.invariant.apart c.self.view_is c.requires, c.self.invariant.reserved)

pub invariant_of-self : goal.invariant_of-self
invariant_of-self c = record {
  apart = c.hold_all.ensures.apart;
  within = omega (arith, rooms c.self.inside.held.items c.args.self.now c.self.inside.limit (length c.args.blocks.now) c.self.invariant.apart c.self.view_is c.requires, c.hold_all.ensures.few);
  reserved = omega (arith, c.hold_all.ensures.capacity, c.self.invariant.reserved);
}

pub returns-in-Some-clause-refused : goal.returns-in-Some-clause-refused
returns-in-Some-clause-refused c =
    subst (λ (h : Place → Option ℕ). IsFirstHeld h c.args.relation c.args.actor c.args.blocks.now c.in-Some.held.page.block)
    (by_slice c.self.inside.held.items c.as_slice.result.now c.args.self.now c.self.inside.limit c.as_slice.ensures.value c.self.view_is) c.in-Some.ensures.first

pub returns-in-Some-clause-by : goal.returns-in-Some-clause-by
returns-in-Some-clause-by c =
    subst (λ (h : Place → Option ℕ). IsAnothers h c.args.actor c.in-Some.held.page c.in-Some.held.by)
    (by_slice c.self.inside.held.items c.as_slice.result.now c.args.self.now c.self.inside.limit c.as_slice.ensures.value c.self.view_is) c.in-Some.ensures.by

pub returns-in-None-clause-taken : goal.returns-in-None-clause-taken
returns-in-None-clause-taken c =
    let held = c.self.inside.held.items in
    let free : AllFree (found held) c.args.relation c.args.actor c.args.blocks.now = subst (λ (xs : List Held). AllFree (found xs) c.args.relation c.args.actor c.args.blocks.now) c.as_slice.ensures.value c.in-None.ensures.none in
    subst (λ (s : LockState). TakesAll (holder s) (holder (shown c.hold_all.new.held.items c.self.inside.limit)) c.args.relation c.args.blocks.now c.args.actor) c.self.view_is
    (list_takes held c.hold_all.new.held.items c.self.inside.limit c.args.relation c.args.actor c.args.blocks.now c.hold_all.ensures.holders free)

pub returns-in-None-clause-counts : goal.returns-in-None-clause-counts
returns-in-None-clause-counts c =
    let held = c.self.inside.held.items in
    let free : AllFree (found held) c.args.relation c.args.actor c.args.blocks.now = subst (λ (xs : List Held). AllFree (found xs) c.args.relation c.args.actor c.args.blocks.now) c.as_slice.ensures.value c.in-None.ensures.none in
    subst (λ (s : LockState). AddsAtMost s (shown c.hold_all.new.held.items c.self.inside.limit) c.args.actor (length c.args.blocks.now)) c.self.view_is
    (list_adds held c.hold_all.new.held.items c.self.inside.limit c.args.relation c.args.actor c.args.blocks.now c.hold_all.ensures.holders free)
