use Rattle.std.proofs.Common.{◌≡◌, ◌≤◌, vec_len, vec_capacity}
use Rattle.opclass_multi.specs.Elements.{AreApart, count_of}
use Rattle.opclass_multi.specs.Reduced.{reduced}
use Rattle.opclass_multi.proofs.reduce.reduce.Given as goal

abbrev pub invariant-rounds : goal.invariant-rounds
invariant-rounds l = record {
  apart : AreApart l.elements.items;
  counted : l.counted ≡ count_of l.elements.items;
  size : vec_len l.elements ≤ vec_len l.fn.elements;
  room : vec_capacity l.elements ≡ vec_capacity l.fn.elements;
  so_far : reduced l.limit l.elements.items ≡ reduced l.limit l.fn.elements.items;
}

abbrev pub decreases-rounds : goal.decreases-rounds
decreases-rounds l = vec_len l.elements
