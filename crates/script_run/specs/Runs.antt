-- what a run has answered and written
use Rattle.std.specs.Prelude.{◌≡◌, ◌≢◌, ℕ, ◌+◌, ◌-◌, ◌≤◌, List, [], ◌∷◌, ◌++◌, ◌⊎◌, length, take, Option, Result, Ok, Err}
use Rattle.std.specs.List.{concat}
use Rattle.std.specs.Io.KnownBytes.{Appends, Consumes, IsAtEnd}
use Rattle.script_run.specs.Script.{ended_lines, script_lines}
use Rattle.script_run.specs.declared.engine.AnswerFault.{AnswerFault}
use Rattle.script_run.specs.declared.engine.AnswerFault.TheVariants.{Memory}
use Rattle.script_run.specs.declared.fault.RunFault.{RunFault}
use Rattle.script_run.specs.declared.fault.RunFault.TheVariants as faults
use Rattle.script_run.specs.Answers.{AreAnswers}

-- the first list is a front, a prefix, of the second
abbrev pub IsFront : {A : Type 0} → List A → List A → Type 0
IsFront {A} front all = (rest : List A) × (front ++ rest ≡ all)

-- done are the first of the lines that ended in what was taken; the end of the source ends the last one
abbrev pub AreFirst : List (List ℕ) → List ℕ → Option (List ℕ) → Type 0
AreFirst done script left = IsFront done (ended_lines script) ⊎ (IsAtEnd left × IsFront done (script_lines script))

-- how a run ends: Ok where all lines were answered
abbrev pub RunEnd : Type 0
RunEnd = Result (Unit {0}) RunFault

-- all but the last one
abbrev pub before_last : List (List ℕ) → List (List ℕ)
before_last texts = take (length texts - 1) texts

-- the line behind those that were done wasn't answered, and the engine is as the relation U says
pub record IsUnanswered {S : Type 0} (U : S → List ℕ → AnswerFault → S → Type 0) (final after : S) (script : List ℕ) (left : Option (List ℕ)) (done : List (List ℕ)) (fault : AnswerFault) : Type 0 where
  pub line : List ℕ
  pub first : AreFirst (done ++ line ∷ []) script left
  pub stops : U final line fault after

-- a line wasn't answered; or memory was short before the first one was asked for, and the engine is as it was
abbrev pub Stopped : {S : Type 0} → (S → List ℕ → AnswerFault → S → Type 0) → S → S → List ℕ → Option (List ℕ) → List (List ℕ) → AnswerFault → Type 0
Stopped U final after script left done fault = IsUnanswered U final after script left done fault ⊎ ((fault ≡ Memory) × (done ≡ []) × (after ≡ final))

-- What a run that took this script from the source wrote for the lines that it has done. They lead from the start to the
-- final state; the engine is in the state after.
pub record Wrote {S : Type 0} (R : S → List ℕ → List ℕ → S → Type 0) (U : S → List ℕ → AnswerFault → S → Type 0) (start after final : S) (limit : ℕ) (end : RunEnd) (left : Option (List ℕ))
    (script out : List ℕ) (done texts : List (List ℕ)) : Type 0 where
  pub lines : AreFirst done script left
  pub answers : AreAnswers R start done texts final
  pub front : IsFront out (concat texts)
  -- only where a line wasn't answered is the engine anywhere else
  pub state : ((fault : AnswerFault) → end ≢ Err (faults.Unanswered fault)) → after ≡ final
  pub within : end ≢ Err faults.Spent → length script ≤ limit
  -- all lines are done, and the source is at its end
  pub whole : end ≡ Ok tt → (done ≡ script_lines script) × (out ≡ concat texts) × IsAtEnd left
  -- the lines that had ended are done
  pub faulty : end ≡ Err faults.Read → (done ≡ ended_lines script) × (out ≡ concat texts)
  -- the lines that ended within the limit are done, and one byte past it was taken
  pub spent : end ≡ Err faults.Spent → (length script ≡ limit + 1) × (done ≡ ended_lines (take limit script)) × (out ≡ concat texts)
  -- no text of a line that wasn't answered is written
  pub stopped : (fault : AnswerFault) → end ≡ Err (faults.Unanswered fault) → Stopped U final after script left done fault × (out ≡ concat texts)
  -- the last text is the one that couldn't be written
  pub cut : end ≡ Err faults.Write → IsFront (concat (before_last texts)) out

-- a run took a script from the source, and wrote to the sink
abbrev pub Ran : {S : Type 0} → (S → List ℕ → List ℕ → S → Type 0) → (S → List ℕ → AnswerFault → S → Type 0) → S → S → ℕ → RunEnd → Option (List ℕ) → Option (List ℕ) → Option (List ℕ) → Option (List ℕ) → Type 0
Ran {S} R U start after limit end left left' taken taken' = (script : List ℕ) × (out : List ℕ) × (done : List (List ℕ)) × (texts : List (List ℕ)) × (final : S)
    × Consumes left left' script × Appends taken taken' out × Wrote R U start after final limit end left' script out done texts
