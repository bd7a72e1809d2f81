use Rattle.std.proofs.Common.{◌≡◌, ◌≤◌, length, drop}
use Rattle.std.specs.List.{list_all}
use Rattle.opclass_multi.specs.Elements.{AreApart, holds}
use Rattle.opclass_multi.proofs.widen.hold_all.Given as goal

abbrev pub invariant-others : goal.invariant-others
invariant-others l = record {
  place : l.from ≤ length l.elements;
  apart : AreApart (drop l.from l.elements);
  so_far : list_all (λ other. holds (drop l.from l.elements) other.least other.greatest) (drop l.other-index l.others) ≡ list_all (λ other. holds l.elements other.least other.greatest) l.others;
}
