use Rattle.range_tuple.proofs.Exactness.{exact_union}
use Rattle.range_tuple.proofs.laws.a_union_adds_what_the_other_had.Goals as goal

pub returns : goal.returns
returns c = λ rows t other same exact. exact_union rows t.columns other.columns same exact
