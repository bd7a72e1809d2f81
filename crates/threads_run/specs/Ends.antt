-- how a run ends, by the end of the locked store
use Rattle.std.specs.Prelude.{◌≡◌, ◌⊎◌, ℕ, List, Option, None, Some, Ok, Err}
use Rattle.std.specs.Io.KnownBytes.{Appends}
use Rattle.io_traits.specs.Written.{AppendsPart}
use Rattle.script_run.specs.declared.engine.AnswerFault.TheVariants as unanswered
use Rattle.script_run.specs.declared.fault.RunFault.TheVariants as faults
use Rattle.script_run.specs.Runs.{RunEnd}
use Rattle.session_stepper.specs.declared.ending.Ending.{Ending}
use Rattle.session_stepper.specs.declared.ending.Ending.TheVariants.{Disk, Memory, OutOfPlace, Spent, Damaged}

-- a call out of place, which no worker makes, is told as want of memory
abbrev pub end_of : Option Ending → RunEnd
end_of None = Ok tt
end_of (Some Disk) = Err (faults.Unanswered unanswered.Disk)
end_of (Some Memory) = Err (faults.Unanswered unanswered.Memory)
end_of (Some OutOfPlace) = Err (faults.Unanswered unanswered.Memory)
end_of (Some Spent) = Err (faults.Unanswered unanswered.Full)
end_of (Some Damaged) = Err (faults.Unanswered unanswered.Damaged)

-- These bytes are written behind that end; or a front of them, and a write fails.
abbrev pub IsWrittenBehind : List ℕ → (taken taken' : Option (List ℕ)) → (ended end : RunEnd) → Type 0
IsWrittenBehind bytes taken taken' ended end = ((end ≡ ended) × Appends taken taken' bytes) ⊎ ((end ≡ Err faults.Write) × AppendsPart taken taken' bytes)
