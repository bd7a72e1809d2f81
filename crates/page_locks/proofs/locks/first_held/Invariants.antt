use Rattle.std.proofs.Common.{ℕ, drop}
use Rattle.page_locks.specs.HeldLocks.{found}
use Rattle.page_locks.specs.LockChanges.{IsFirstHeld}
use Rattle.page_locks.proofs.Takings.{AllFree}
use Rattle.page_locks.proofs.locks.first_held.Given as goal

-- the first held one of what is left is the first of all, and where all that is left is free all is
abbrev pub invariant-pages : goal.invariant-pages
invariant-pages l = record {
  first : (q : ℕ) → IsFirstHeld (found l.held) l.relation l.actor (drop l.block-index l.blocks) q → IsFirstHeld (found l.held) l.relation l.actor l.blocks q;
  free : AllFree (found l.held) l.relation l.actor (drop l.block-index l.blocks) → AllFree (found l.held) l.relation l.actor l.blocks;
}
