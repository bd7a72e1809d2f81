use Rattle.std.proofs.Common.{◌<◌, ◌-◌, pos}
use Rattle.opclass_multi.specs.Elements.{count_of}
use Rattle.opclass_multi.specs.Closing.{closed}
use Rattle.opclass_multi.proofs.reduce.needed_width.Given as goal

abbrev pub invariant-halves : goal.invariant-halves
invariant-halves l = record {
  order : l.below < l.above;
  needed : l.limit < count_of (closed (pos l.below) l.elements);
}

abbrev pub decreases-halves : goal.decreases-halves
decreases-halves l = l.above - l.below
