use Rattle.std.proofs.Common.{◌≡◌, ◌≤◌, ◌-◌, ℤ, ◌≤ℤ◌, length, drop}
use Rattle.opclass_multi.specs.Elements.{AreApart, holds}
use Rattle.opclass_multi.proofs.widen.reach.Given as goal

abbrev pub invariant-places : goal.invariant-places
invariant-places l = record {
  place : l.at ≤ length l.elements;
  apart : AreApart (drop l.at l.elements);
  passed : (p q : ℤ) → l.v ≤ℤ p → p ≤ℤ q → holds (drop l.at l.elements) p q ≡ holds (drop l.from l.elements) p q;
}

abbrev pub decreases-places : goal.decreases-places
decreases-places l = length l.elements - l.at
