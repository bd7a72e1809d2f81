-- a store of sessions beside the script of their lines and the transcript of their answers
use Rattle.std.specs.Prelude.{◌≡◌, ℕ, List, [], slice_index_or, Option, None, Some}
use Rattle.store_layout.specs.declared.statement.Statement.{Statement}
use Rattle.transcripts.specs.Transcript.{IsNext, Line, Said}
use Rattle.plain_script.specs.HeldScripts.{HeldScript}
use Rattle.session_parts.specs.StoreStates.{StoreState}
use Rattle.session_stepper.specs.declared.ending.Ending.{Ending}

-- By session: the number of the line that it has in hand. Where no more lines are answered, why.
pub record TranscribedState (D : Type 0) : Type 0 where
  pub store : StoreState D
  pub script : HeldScript
  pub said : List Said
  pub in_hand : List (Option ℕ)
  pub ended : Option Ending

-- all lines of the script
abbrev pub lines_in : {D : Type 0} → TranscribedState D → List Line
lines_in s = s.script.script.lines

-- the name of session n
abbrev pub name_in : {D : Type 0} → TranscribedState D → ℕ → List ℕ
name_in s n = slice_index_or s.script.script.names n []

-- the line that session n has in hand
abbrev pub line_at : List (Option ℕ) → ℕ → Option ℕ
line_at in_hand n = slice_index_or in_hand n None

-- the line of that number is session n's next one, and the session has none in hand
pub record IsOpenNext {D : Type 0} (s : TranscribedState D) (n number : ℕ) (statement : Statement) : Type 0 where
  pub none : line_at s.in_hand n ≡ None
  pub next : IsNext (lines_in s) s.said n number statement

-- session n has its next line in hand, of that number
pub record IsAtWork {D : Type 0} (s : TranscribedState D) (n number : ℕ) : Type 0 where
  pub in_hand : line_at s.in_hand n ≡ Some number
  pub statement : Statement
  pub next : IsNext (lines_in s) s.said n number statement
