use Rattle.std.proofs.Common.{◌≡◌, ◌≢◌, List, length, filter, Some, sym, ap, ◌∙◌, subst, arith}
use Rattle.page_locks.specs.declared.held.Held.{Held}
use Rattle.page_locks.specs.LockHolders.{Holders, LockState, holder, without_lock}
use Rattle.page_locks.specs.LockCounts.{AddsAtMost}
use Rattle.page_locks.specs.HeldLocks.{AreApart, holders_of, is_left, shown}
use Rattle.page_locks.proofs.Entries.{apart_filter, held_in_map}
use Rattle.page_locks.proofs.Takings.{adds}
use Rattle.page_locks.proofs.Givings.{filter_short, given, left_counted, not_given, others_pass_left}
use Rattle.page_locks.proofs.locks.Locks.give.Goals as goal

pub invariant_of-self : goal.invariant_of-self
invariant_of-self c =
    let held = c.self.inside.held.items in
    record {
      apart = subst AreApart (sym c.keep_left.ensures.left) (apart_filter (is_left c.args.page c.args.actor) held c.self.invariant.apart);
      within = omega (arith, ap (λ (xs : List Held). length xs) c.keep_left.ensures.left, filter_short (is_left c.args.page c.args.actor) held, c.self.invariant.within);
      reserved = omega (arith, c.keep_left.ensures.capacity, c.self.invariant.reserved);
    }

pub returns-clause-counts : goal.returns-clause-counts
returns-clause-counts c =
    let held = c.self.inside.held.items in
    let limit = c.self.inside.limit in
    subst (λ (s : LockState). AddsAtMost s (shown c.keep_left.new.held.items limit) c.args.actor 0) c.self.view_is
    (subst (λ (xs : List Held). AddsAtMost (shown held limit) (shown xs limit) c.args.actor 0) (sym c.keep_left.ensures.left)
    (adds (shown held limit) (shown (filter (is_left c.args.page c.args.actor) held) limit) c.args.actor 0
    (left_counted held c.self.invariant.apart (is_left c.args.page c.args.actor) c.args.actor (λ x other. others_pass_left held c.self.invariant.apart c.args.page c.args.actor x other))))

pub returns-clause-given : goal.returns-clause-given
returns-clause-given c =
    let held = c.self.inside.held.items in
    let limit = c.self.inside.limit in
    subst (λ (s : LockState). holder s c.args.page ≡ Some c.args.actor → shown c.keep_left.new.held.items limit ≡ without_lock s c.args.page) c.self.view_is
    (λ is. ap (λ (m : Holders). record (shown held limit) { holders = m })
    (ap holders_of c.keep_left.ensures.left ∙ given held c.self.invariant.apart c.args.page c.args.actor (sym (held_in_map held c.args.page) ∙ is)))

pub returns-clause-same : goal.returns-clause-same
returns-clause-same c =
    let held = c.self.inside.held.items in
    let limit = c.self.inside.limit in
    subst (λ (s : LockState). holder s c.args.page ≢ Some c.args.actor → shown c.keep_left.new.held.items limit ≡ s) c.self.view_is
    (λ other. ap (λ (m : Holders). record (shown held limit) { holders = m })
    (ap holders_of c.keep_left.ensures.left ∙ not_given held c.self.invariant.apart c.args.page c.args.actor (λ is. other (held_in_map held c.args.page ∙ is))))
