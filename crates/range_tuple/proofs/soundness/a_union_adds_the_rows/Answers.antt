use Rattle.range_tuple.proofs.SoundUniting.{rows_unite}
use Rattle.range_tuple.proofs.soundness.a_union_adds_the_rows.Goals as goal

pub returns : goal.returns
returns c = λ rows t other same exact. rows_unite rows t.columns other.columns same exact
