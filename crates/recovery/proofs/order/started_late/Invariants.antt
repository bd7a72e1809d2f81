use Rattle.std.proofs.Common.{◌≡◌, ◌≢◌, ℕ, ◌<◌, true, false}
use Rattle.recovery.specs.Orders.{AreFirstStarted, kind_in}
use Rattle.recovery.proofs.order.started_late.Given as goal

-- of the blocks below that one the first ones are started: all of them, until one isn't
abbrev pub invariant-places : goal.invariant-places
invariant-places l = record {
  first : AreFirstStarted l.block l.kinds;
  all : l.ended ≡ false → (block : ℕ) → block < l.block → kind_in l.kinds block ≢ 0;
  gap : l.ended ≡ true → (block : ℕ) × (block < l.block) × (kind_in l.kinds block ≡ 0);
}
