-- from the states of one engine to those of another
use Rattle.std.specs.Prelude.{ℕ, List, Err}
use Rattle.script_run.specs.declared.engine.AnswerFault.{AnswerFault}
use Rattle.script_run.specs.declared.engine.AnswerFault.TheVariants.{Memory}
use Rattle.script_run.specs.declared.fault.RunFault.TheVariants as faults
use Rattle.script_run.specs.Runs.{RunEnd}

-- Each answer to a line from a state of the first leads, from every state of the second that it shows, to one that it shows then, by an
-- answer of the second with the same text; and so do the lines that aren't answered, behind which it stands to that state as their fault says.
pub record Simulates {S P : Type 0} (Shows : S → P → Type 0) (Ends : AnswerFault → S → P → Type 0) (R : S → List ℕ → List ℕ → S → Type 0)
    (U : S → List ℕ → AnswerFault → S → Type 0) (R' : P → List ℕ → List ℕ → P → Type 0) (U' : P → List ℕ → AnswerFault → P → Type 0) : Type 0 where
  pub answers : (s t : S) (p : P) (line text : List ℕ) → Shows s p → R s line text t → (q : P) × Shows t q × R' p line text q
  pub stops : (s t : S) (p : P) (line : List ℕ) (fault : AnswerFault) → Shows s p → U s line fault t → (q : P) × Ends fault t q × U' p line fault q
  pub unbegun : (s : S) (p : P) → Shows s p → Ends Memory s p

-- how the first stands to a state of the second at the end of a run
abbrev pub EndsAs : {S P : Type 0} → (S → P → Type 0) → (AnswerFault → S → P → Type 0) → RunEnd → S → P → Type 0
EndsAs Shows Ends (Err (faults.Unanswered fault)) s p = Ends fault s p
EndsAs Shows Ends end s p = Shows s p
