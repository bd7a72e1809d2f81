use Rattle.std.proofs.Common.{◌≡◌, ◌+◌, ◌≤◌, drop, length, vec_capacity}
use Rattle.page_locks.specs.HeldLocks.{AreApart, found, holders_of, with_locks}
use Rattle.page_locks.proofs.Takings.{AllFree}
use Rattle.page_locks.proofs.locks.hold_all.Given as goal

-- with the blocks that are left the locks are those with all blocks
abbrev pub invariant-pages : goal.invariant-pages
invariant-pages l = record {
  rest : with_locks (holders_of l.held.items) l.relation (drop l.block-index l.blocks) l.actor ≡ with_locks (holders_of l.initial.held.items) l.relation l.blocks l.actor;
  apart : AreApart l.held.items;
  free : AllFree (found l.held.items) l.relation l.actor l.blocks;
  few : length l.held.items ≤ length l.initial.held.items + l.block-index;
  capacity : vec_capacity l.held ≡ vec_capacity l.initial.held;
}
