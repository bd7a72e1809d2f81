-- what is done for one line
use Rattle.std.specs.Prelude.{ℕ, List, Option, Result, Ok, Err}
use Rattle.std.specs.Io.KnownBytes.{Appends, Keeps}
use Rattle.io_traits.specs.Written.{AppendsPart}
use Rattle.script_run.specs.declared.engine.AnswerFault.{AnswerFault}
use Rattle.script_run.specs.declared.fault.RunFault.{RunFault}
use Rattle.script_run.specs.declared.fault.RunFault.TheVariants as faults

-- The line was answered, and its text or a front of it written. Where it wasn't answered, the engine is as the relation U says, and
-- nothing was written. No other fault comes.
abbrev pub Serves : {S T : Type 0} → (S → List ℕ → List ℕ → S → Type 0) → (S → List ℕ → AnswerFault → S → Type 0) → S → S → Option (List ℕ) → Option (List ℕ) → List ℕ → Result T RunFault → Type 0
Serves R U s s' taken taken' line (Ok _) = (text : List ℕ) × R s line text s' × Appends taken taken' text
Serves R U s s' taken taken' line (Err faults.Read) = ⊥
Serves R U s s' taken taken' line (Err faults.Spent) = ⊥
Serves R U s s' taken taken' line (Err faults.Write) = (text : List ℕ) × R s line text s' × AppendsPart taken taken' text
Serves R U s s' taken taken' line (Err (faults.Unanswered fault)) = U s line fault s' × Keeps taken taken'
