use Rattle.coverage.proofs.TableBlocked.{blocked_waits, blocked_no_point, blocked_by, blocked_once}
use Rattle.coverage.proofs.table_laws.blocked_statements_wait.Goals as goal

pub returns : goal.returns
returns c = record {
  waits = λ s w v blocked busy does. blocked_waits s w v blocked busy does;
  no_point = λ s w v blocked busy does. blocked_no_point s w v blocked busy does;
  held = λ s w task blocked. blocked_by s w task blocked;
  one = λ s w task one two. blocked_once s w task one two;
}
