use Rattle.std.proofs.Common.{refl}
use Rattle.brin_app.proofs.Holding.{run_only}
use Rattle.rerun.proofs.turns.run_over.Goals as goal

pub returns-in-Ok-true-clause-ran : goal.returns-in-Ok-true-clause-ran
returns-in-Ok-true-clause-ran g c = λ _ has. absurd ((run_only 2 has).4 refl)

pub returns-in-Err-clause-ran : goal.returns-in-Err-clause-ran
returns-in-Err-clause-ran g c = λ _ has. absurd ((run_only 7 has).1 refl)
