use Rattle.std.proofs.Common.{◌≡◌, ◌+◌, ◌≤◌, ◌++◌, length, take, drop, vec_len, vec_capacity}
use Rattle.opclass_multi.specs.Elements.{AreApart}
use Rattle.opclass_multi.specs.Joined.{joined}
use Rattle.opclass_multi.proofs.join.join.Given as goal

abbrev pub invariant-others : goal.invariant-others
invariant-others l = record {
  places : (length l.others + l.seam.front ≤ l.seam.back + l.other-index) × (l.seam.back ≤ vec_len l.elements);
  size : vec_len l.elements ≡ vec_len l.fn.elements + length l.others;
  room : vec_capacity l.elements ≡ vec_capacity l.fn.elements;
  apart : AreApart (drop l.seam.back l.elements.items);
  so_far : take l.seam.front l.elements.items ++ joined (drop l.seam.back l.elements.items) (drop l.other-index l.others) ≡ joined l.fn.elements.items l.others;
}
