use Rattle.script_semantics.proofs.Numbers.{run_gone}
use Rattle.script_semantics.proofs.journal_fronts.gone_rows_stay_gone.Goals as goal

pub returns : goal.returns
returns c = run_gone
