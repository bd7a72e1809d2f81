-- why a run ends, from why there is no next line
use Rattle.script_run.specs.declared.end.LinesEnd.{LinesEnd}
use Rattle.script_run.specs.declared.end.LinesEnd.TheVariants as ends
use Rattle.script_run.specs.declared.fault.RunFault.{RunFault}
use Rattle.script_run.specs.declared.fault.RunFault.TheVariants as faults

abbrev pub fault_of : LinesEnd → RunFault
fault_of ends.Read = faults.Read
fault_of (ends.Spent taken) = faults.Spent
