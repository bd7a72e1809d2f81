use Rattle.std.specs.Prelude.{refl, [], ◌∷◌}
use Rattle.coverage.proofs.SmallIndex.{place}
use Rattle.coverage.proofs.VacuumRun.{at_rest, vacuum_ended, vacuum_kept, vacuum_run, tuples_went}
use Rattle.coverage.proofs.table_laws.a_vacuum_ends.Goals as goal

pub returns : goal.returns
returns c = λ r. (at_rest r, vacuum_ended, 0 ∷ 0 ∷ 0 ∷ 0 ∷ 0 ∷ 0 ∷ [], vacuum_kept r, vacuum_run r, refl, refl, refl, (place, tuples_went r), refl, refl)
