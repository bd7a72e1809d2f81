use Rattle.brin_app.proofs.Moments.{runs_hold}
use Rattle.brin_app.proofs.laws.the_lines_of_a_run_hold_throughout.Goals as goal

pub returns : goal.returns
returns c = runs_hold
