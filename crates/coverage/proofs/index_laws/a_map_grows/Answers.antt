use Rattle.std.specs.Prelude.{refl, [], ◌∷◌}
use Rattle.coverage.proofs.ExampleTuples.{final_tuple}
use Rattle.coverage.proofs.SmallIndex.{place}
use Rattle.coverage.proofs.RangeSummarised.{range_done, summarised_kept}
use Rattle.coverage.proofs.TupleMoved.{blocks_differ}
use Rattle.coverage.proofs.MapGrown.{moved_place, map_grown, growth_run, was_short, names_new}
use Rattle.coverage.proofs.index_laws.a_map_grows.Goals as goal

pub returns : goal.returns
returns c = (
  range_done,
  map_grown,
  0 ∷ 0 ∷ 0 ∷ 0 ∷ 0 ∷ 0 ∷ 0 ∷ 0 ∷ 0 ∷ 0 ∷ 0 ∷ [],
  summarised_kept,
  growth_run,
  refl,
  (place, moved_place, final_tuple, refl, refl, blocks_differ, refl, refl, refl, refl, refl),
  (1020, was_short, names_new, refl),
)
