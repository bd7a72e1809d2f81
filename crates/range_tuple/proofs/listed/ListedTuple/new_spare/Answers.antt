use Rattle.std.proofs.Common.{ap, ◌∙◌}
use Rattle.range_tuple.specs.SameIndex.{parts-emptied}
use Rattle.range_tuple.specs.Tuples.{Tuple, parts_of}
use Rattle.range_tuple.proofs.listed.ListedTuple.new_spare.Goals as goal

pub returns : goal.returns
returns c = ap parts_of c.in_ok-spare.ensures ∙ parts-emptied c.deref.result.now ∙ ap parts_of c.deref.ensures.value ∙ ap (λ (t : Tuple). parts_of t.columns) c.self.view_is
