use Rattle.std.proofs.Common.{◌≡◌, ◌+◌, ◌-◌, ◌≤◌, ◌<◌, ◌≤ℤ◌, ◌++◌, List, take, drop, vec_len, vec_capacity}
use Rattle.opclass_multi.specs.declared.element.Element.{Element}
use Rattle.opclass_multi.specs.Elements.{IsOrdered, StartsAfter, AreApart}
use Rattle.opclass_multi.specs.Joined.{with_element, joined}
use Rattle.opclass_multi.proofs.join.put.Given as goal

abbrev pub invariant-places : goal.invariant-places
invariant-places l = record {
  places : (l.front < l.back) × (l.back ≤ vec_len l.elements) × (l.fn.seam.back + l.front ≤ l.fn.seam.front + l.back);
  size : vec_len l.elements ≡ vec_len l.fn.elements;
  room : vec_capacity l.elements ≡ vec_capacity l.fn.elements;
  ordered : IsOrdered l.new;
  low : l.new.least ≤ℤ l.fn.element.least;
  apart : AreApart (drop l.back l.elements.items);
  so_far : (others : List Element) → AreApart others → StartsAfter l.fn.element.greatest others →
      take l.front l.elements.items ++ joined (with_element l.new (drop l.back l.elements.items)) others ≡ take l.fn.seam.front l.fn.elements.items ++ joined (with_element l.fn.element (drop l.fn.seam.back l.fn.elements.items)) others;
}

abbrev pub decreases-places : goal.decreases-places
decreases-places l = vec_len l.elements - l.back
