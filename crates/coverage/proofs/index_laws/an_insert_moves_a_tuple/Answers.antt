use Rattle.std.specs.Prelude.{refl, [], ◌∷◌}
use Rattle.coverage.proofs.SmallIndex.{place}
use Rattle.coverage.proofs.ExampleTuples.{final_tuple, wide_tuple}
use Rattle.coverage.proofs.MapGrown.{moved_place}
use Rattle.coverage.proofs.TupleMoved.{row_put, tuple_moved, put_kept, moved_run, places_differ}
use Rattle.coverage.proofs.index_laws.an_insert_moves_a_tuple.Goals as goal

pub returns : goal.returns
returns c = λ r. (
  row_put r,
  tuple_moved r,
  0 ∷ 0 ∷ 0 ∷ 0 ∷ 0 ∷ [],
  put_kept r,
  refl,
  moved_run r,
  (place, moved_place, final_tuple, wide_tuple, places_differ, refl, refl, refl, refl, refl, refl, refl),
)
