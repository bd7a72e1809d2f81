use Rattle.std.proofs.Common.{◌≡◌, ◌+◌, ◌*◌, ◌≤◌, pos, drop}
use Rattle.opclass_multi.specs.Elements.{count_of}
use Rattle.opclass_multi.specs.Closing.{closed_from, closed}
use Rattle.opclass_multi.proofs.reduce.count_closed.Given as goal

abbrev pub invariant-places : goal.invariant-places
invariant-places l = record {
  few : l.before ≤ 2 * l.at;
  so_far : l.before + count_of (closed_from (pos l.width) l.last (drop l.at l.elements)) ≡ count_of (closed (pos l.width) l.elements);
}
