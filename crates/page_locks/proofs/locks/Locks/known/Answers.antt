use Rattle.std.proofs.Common.{◌≡◌, ◌≢◌, ℕ, ◌≤◌, Some, subst, sym, ◌∙◌, arith}
use Rattle.block_model.specs.declared.place.Place.{Place}
use Rattle.page_locks.specs.LockHolders.{LockState, count_of, holder}
use Rattle.page_locks.specs.LockCounts.{locks_of}
use Rattle.page_locks.proofs.Entries.{held_in_map, len_listed}
use Rattle.page_locks.proofs.Counts.{counted_listed, counted_none, none_counted}
use Rattle.page_locks.proofs.locks.Locks.known.Goals as goal

pub returns : goal.returns
returns c =
    let held = c.self.inside.held.items in
    let apart = c.self.invariant.apart in
    record {
      within = subst (λ (s : LockState). count_of s ≤ s.limit) c.self.view_is (omega (arith, len_listed held apart, c.self.invariant.within));
      counted = subst (λ (s : LockState). (a : ℕ) → ((page : Place) → holder s page ≢ Some a) → locks_of s a ≡ 0) c.self.view_is
          (λ a none. counted_listed held a apart ∙ none_counted held a apart (λ q is. none q (held_in_map held q ∙ is)));
      none = subst (λ (s : LockState). (a : ℕ) → locks_of s a ≡ 0 → (page : Place) → holder s page ≢ Some a) c.self.view_is
          (λ a none page is. counted_none held a page (sym (counted_listed held a apart) ∙ none) (sym (held_in_map held page) ∙ is));
    }
