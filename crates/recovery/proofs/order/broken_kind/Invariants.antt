use Rattle.std.proofs.Common.{ℕ, ◌<◌}
use Rattle.recovery.specs.Orders.{MayStand, kind_in}
use Rattle.recovery.proofs.order.broken_kind.Given as goal

-- each page below the block may stand where it does
abbrev pub invariant-places : goal.invariant-places
invariant-places l = (block : ℕ) → block < l.block → MayStand l.maps block (kind_in l.kinds block)
