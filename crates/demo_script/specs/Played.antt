-- what becomes of a demo
use Rattle.std.specs.Prelude.{◌≡◌, ◌⊎◌, ℕ, List, [], ◌∷◌, ◌++◌}
use Rattle.script_run.specs.declared.engine.AnswerFault.{AnswerFault}
use Rattle.script_run.specs.declared.engine.AnswerFault.TheVariants.{Memory}
use Rattle.demo_script.specs.declared.answer.Answer.{Answer}
use Rattle.demo_script.specs.declared.counts.Counts.{Counts}
use Rattle.demo_script.specs.Conversation.{IsDemo, IsDemoFront, Said}
use Rattle.demo_script.specs.Summary.{AreCounts}

-- the lines are answered so one after the other, from one state to another
abbrev pub AreSaid : {S : Type 0} → (S → List ℕ → Answer → S → Type 0) → S → List Said → S → Type 0
AreSaid R s [] s' = s' ≡ s
AreSaid {S} R s (one ∷ said) s' = (t : S) × R s one.line one.answer t × AreSaid R t said s'

-- the whole demo was said, with these counts
pub record HasPlayed {S : Type 0} (R : S → List ℕ → Answer → S → Type 0) (seed rows : ℕ) (s s' : S) (counts : Counts) : Type 0 where
  pub rounds : List Said
  pub last : List Said
  pub demo : IsDemo seed rows rounds last
  pub said : AreSaid R s (rounds ++ last) s'
  pub counted : AreCounts rounds last counts

-- First lines of it were said; then a line of it wasn't answered, or memory was short before it was said.
pub record HasStopped {S : Type 0} (R : S → List ℕ → Answer → S → Type 0) (U : S → List ℕ → AnswerFault → S → Type 0) (seed rows : ℕ) (s s' : S) (fault : AnswerFault) : Type 0 where
  pub front : List Said
  pub is_front : IsDemoFront seed rows front
  pub state : S
  pub said : AreSaid R s front state
  pub stops : ((line : List ℕ) × (answer : Answer) × IsDemoFront seed rows (front ++ record { line = line; answer = answer } ∷ []) × U state line fault s') ⊎ ((fault ≡ Memory) × (s' ≡ state))
