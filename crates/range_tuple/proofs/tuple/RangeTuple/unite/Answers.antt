use Rattle.std.proofs.Common.{sym, ◌∙◌, arith}
use Rattle.range_tuple.proofs.ByPlace.{same_room}
use Rattle.range_tuple.proofs.tuple.RangeTuple.unite.Goals as goal

pub invariant_of-self : goal.invariant_of-self
invariant_of-self c = record {
  same_index = c.self.invariant.same_index ∙ sym c.unite.ensures.same_index;
  room = omega (arith, c.self.invariant.room, same_room c.unite.new.self.columns c.self.inside.tuple.columns c.unite.ensures.same_index);
}
