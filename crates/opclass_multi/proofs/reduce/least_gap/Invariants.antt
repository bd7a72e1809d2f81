use Rattle.std.proofs.Common.{◌≡◌, ℕ, ◌<◌, ◌≤ℤ◌, ◌<ℤ◌}
use Rattle.opclass_multi.specs.Reduced.{gap_at}
use Rattle.opclass_multi.proofs.reduce.least_gap.Given as goal

abbrev pub invariant-places : goal.invariant-places
invariant-places l = record {
  within : l.least < l.at;
  narrowest : l.narrowest ≡ gap_at l.elements l.least;
  least : (i : ℕ) → i < l.at → gap_at l.elements l.least ≤ℤ gap_at l.elements i;
  lowest : (i : ℕ) → i < l.least → gap_at l.elements l.least <ℤ gap_at l.elements i;
}
