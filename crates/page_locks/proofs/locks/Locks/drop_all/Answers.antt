use Rattle.std.proofs.Common.{◌≡◌, List, length, filter, sym, ap, subst, arith}
use Rattle.page_locks.specs.declared.held.Held.{Held}
use Rattle.page_locks.specs.LockHolders.{LockState, holder}
use Rattle.page_locks.specs.LockChanges.{GivesAll}
use Rattle.page_locks.specs.LockCounts.{AddsAtMost}
use Rattle.page_locks.specs.HeldLocks.{AreApart, holders_of, is_others, shown}
use Rattle.page_locks.proofs.Entries.{apart_filter}
use Rattle.page_locks.proofs.Counts.{held_by}
use Rattle.page_locks.proofs.Takings.{adds}
use Rattle.page_locks.proofs.Givings.{filter_short, given_all, left_counted, none_left, others_pass}
use Rattle.page_locks.proofs.locks.Locks.drop_all.Goals as goal

pub invariant_of-self : goal.invariant_of-self
invariant_of-self c =
    let held = c.self.inside.held.items in
    record {
      apart = subst AreApart (sym c.keep_others.ensures.left) (apart_filter (is_others c.args.actor) held c.self.invariant.apart);
      within = omega (arith, ap (λ (xs : List Held). length xs) c.keep_others.ensures.left, filter_short (is_others c.args.actor) held, c.self.invariant.within);
      reserved = omega (arith, c.keep_others.ensures.capacity, c.self.invariant.reserved);
    }

pub returns-clause-counts : goal.returns-clause-counts
returns-clause-counts c =
    let held = c.self.inside.held.items in
    let limit = c.self.inside.limit in
    subst (λ (s : LockState). AddsAtMost s (shown c.keep_others.new.held.items limit) c.args.actor 0) c.self.view_is
    (subst (λ (xs : List Held). AddsAtMost (shown held limit) (shown xs limit) c.args.actor 0) (sym c.keep_others.ensures.left)
    (adds (shown held limit) (shown (filter (is_others c.args.actor) held) limit) c.args.actor 0
    (left_counted held c.self.invariant.apart (is_others c.args.actor) c.args.actor (λ x other. others_pass held c.self.invariant.apart c.args.actor x other))))

pub returns-clause-given : goal.returns-clause-given
returns-clause-given c =
    let held = c.self.inside.held.items in
    let limit = c.self.inside.limit in
    subst (λ (s : LockState). GivesAll (holder s) (holder (shown c.keep_others.new.held.items limit)) c.args.actor) c.self.view_is
    (subst (λ (xs : List Held). GivesAll (holder (shown held limit)) (holder (shown xs limit)) c.args.actor) (sym c.keep_others.ensures.left)
    (given_all held c.self.invariant.apart c.args.actor))

pub returns-clause-none : goal.returns-clause-none
returns-clause-none c =
    subst (λ (xs : List Held). held_by (holders_of xs) c.args.actor ≡ 0) (sym c.keep_others.ensures.left) (none_left c.self.inside.held.items c.self.invariant.apart c.args.actor)
