use Rattle.std.proofs.Common.{subst}
use Rattle.store_layout.specs.DiskLayout.{DiskLayout}
use Rattle.store_layout.specs.FirstBrokenRule.{KeepsLimits}
use Rattle.store_layout.proofs.FirstBroken.{keeps_limits, has_bounded_sizes}
use Rattle.store_layout.proofs.DiskPlaces.{small_places}
use Rattle.store_layout.proofs.layout.Layout.known.Goals as goal

pub returns-clause-limits : goal.returns-clause-limits
returns-clause-limits c =
    subst (λ (d : DiskLayout). KeepsLimits d.schema d.sizes) c.self.view_is (keeps_limits _ _ c.self.invariant)

pub returns-clause-sizes : goal.returns-clause-sizes
returns-clause-sizes c = has_bounded_sizes c.args.self.now (returns-clause-limits c)

pub returns-clause-places : goal.returns-clause-places
returns-clause-places c = small_places c.args.self.now (returns-clause-sizes c)
