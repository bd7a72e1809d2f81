use Rattle.std.specs.Prelude.{refl, [], ◌∷◌}
use Rattle.coverage.proofs.ExampleTuples.{final_tuple}
use Rattle.coverage.proofs.SmallIndex.{place}
use Rattle.coverage.proofs.RangeSummarised.{new_state, range_done, first_kept, range_run}
use Rattle.coverage.proofs.index_laws.a_range_is_summarised.Goals as goal

pub returns : goal.returns
returns c = (new_state, range_done, 0 ∷ 0 ∷ 0 ∷ 0 ∷ 0 ∷ 0 ∷ 0 ∷ 0 ∷ 0 ∷ 0 ∷ 0 ∷ [], first_kept, range_run, refl, (place, final_tuple, refl, refl, refl))
