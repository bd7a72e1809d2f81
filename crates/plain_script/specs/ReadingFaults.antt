-- which faults of a run stop the reading of a script
use Rattle.script_run.specs.declared.engine.AnswerFault.TheVariants as unanswered
use Rattle.script_run.specs.declared.fault.RunFault.{RunFault}
use Rattle.script_run.specs.declared.fault.RunFault.TheVariants as runs
use Rattle.plain_script.specs.declared.fault.ScriptFault.{ScriptFault}
use Rattle.plain_script.specs.declared.fault.ScriptFault.TheVariants as faults

-- the fault of the run
abbrev pub run_fault_of : ScriptFault → RunFault
run_fault_of faults.Read = runs.Read
run_fault_of faults.Spent = runs.Spent
run_fault_of faults.Memory = runs.Unanswered unanswered.Memory

-- nothing is written, and a line is kept but for want of memory
abbrev pub IsReadingFault : RunFault → Type 0
IsReadingFault runs.Read = Unit {0}
IsReadingFault runs.Spent = Unit {0}
IsReadingFault runs.Write = ⊥
IsReadingFault (runs.Unanswered unanswered.Memory) = Unit {0}
IsReadingFault (runs.Unanswered fault) = ⊥
