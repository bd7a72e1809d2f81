use Rattle.std.proofs.Common.{◌≡◌, ◌+◌, ◌<◌, ◌++◌, ◌∷◌, take, drop, vec_len, vec_capacity}
use Rattle.opclass_multi.specs.Elements.{AreApart, count_of}
use Rattle.opclass_multi.specs.Closing.{swept_from, swept}
use Rattle.opclass_multi.proofs.reduce.sweep.Given as goal

abbrev pub invariant-places : goal.invariant-places
invariant-places l = record {
  behind : l.kept < l.at;
  size : vec_len l.elements ≡ vec_len l.fn.elements;
  room : vec_capacity l.elements ≡ vec_capacity l.fn.elements;
  apart : AreApart (l.last ∷ drop l.at l.elements.items);
  counted : l.left ≡ count_of (take l.kept l.elements.items) + count_of (l.last ∷ drop l.at l.elements.items);
  so_far : take l.kept l.elements.items ++ swept_from l.limit l.width l.left l.last (drop l.at l.elements.items) ≡ swept l.limit l.width l.fn.counted l.fn.elements.items;
}
