use Rattle.std.proofs.Common.{◌≡◌, ℕ, ◌<◌}
use Rattle.page_layout.specs.declared.format.TheConstants.{STATUS}
use Rattle.recovery.specs.Orders.{kind_in}
use Rattle.recovery.proofs.order.unstarted_status.Given as goal

-- each page below the block is started
abbrev pub invariant-places : goal.invariant-places
invariant-places l = (block : ℕ) → block < l.block → kind_in l.kinds block ≡ STATUS
