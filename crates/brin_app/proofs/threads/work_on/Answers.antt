use Rattle.std.proofs.Common.{sym, ◌∙◌, inr}
use Rattle.brin_app.proofs.Known.{exit_known, same_status}
use Rattle.brin_app.proofs.Threading.{damaged_end, disk_end, no_other_end, read_end, write_end}
use Rattle.brin_app.proofs.threads.work_on.Goals as goal

pub returns-clause-known : goal.returns-clause-known
returns-clause-known g c = same_status c.status.result _ c.status.ensures (exit_known c.run_threads-end.result.0)

pub returns-clause-read : goal.returns-clause-read
returns-clause-read g c = inr (c.run_threads-end.result.0, c.status.ensures, c.run_threads-end.ensures.takes)

pub returns-clause-works : goal.returns-clause-works
returns-clause-works g c = λ honest. record { end = c.run_threads-end.result.0; status_is = c.status.ensures; output = c.run_threads-end.ensures.output honest }

pub returns-clause-read_fault : goal.returns-clause-read_fault
returns-clause-read_fault g c = λ four. c.run_threads-end.ensures.read_fault (read_end c.run_threads-end.result.0 (sym c.status.ensures ∙ four))

pub returns-clause-write_fault : goal.returns-clause-write_fault
returns-clause-write_fault g c = λ five. c.run_threads-end.ensures.write_fault (write_end c.run_threads-end.result.0 (sym c.status.ensures ∙ five))

pub returns-clause-disk_fault : goal.returns-clause-disk_fault
returns-clause-disk_fault g c = λ six. c.run_threads-end.ensures.disk_fault (disk_end c.run_threads-end.result.0 (sym c.status.ensures ∙ six))

pub returns-clause-damaged : goal.returns-clause-damaged
returns-clause-damaged g c = λ eleven. c.run_threads-end.ensures.damaged (damaged_end c.run_threads-end.result.0 (sym c.status.ensures ∙ eleven))

pub returns-clause-others : goal.returns-clause-others
returns-clause-others g c = no_other_end c.run_threads-end.result.0 c.status.result c.status.ensures
