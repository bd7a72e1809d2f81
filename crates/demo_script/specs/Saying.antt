-- a part of the conversation: that it is said, or that it stops
use Rattle.std.specs.Prelude.{◌≡◌, ◌⊎◌, ℕ, Bool, List, [], ◌∷◌, ◌++◌}
use Rattle.script_run.specs.declared.engine.AnswerFault.{AnswerFault}
use Rattle.script_run.specs.declared.engine.AnswerFault.TheVariants.{Memory}
use Rattle.demo_script.specs.declared.answer.Answer.{Answer}
use Rattle.demo_script.specs.declared.heard.Heard.{Heard}
use Rattle.demo_script.specs.Conversation.{Said, Says, has_hand, is_blocked, last_lines, selects}
use Rattle.demo_script.specs.Played.{AreSaid}
use Rattle.demo_script.specs.Summary.{answer_of, found_rows, inserted, inserted_rows, named_blocks}

-- what matters of the answer
pub record TellsOf (answer : Answer) (heard : Heard) : Type 0 where
  pub busy : heard.busy ≡ has_hand answer
  pub blocked : heard.blocked ≡ is_blocked answer
  pub rows : heard.rows ≡ inserted answer
  pub found : heard.found ≡ found_rows answer
  pub read : heard.read ≡ named_blocks answer

-- the line was answered, and this is what matters of its answer
pub record Hears {S : Type 0} (R : S → List ℕ → Answer → S → Type 0) (s : S) (line : List ℕ) (heard : Heard) (s' : S) : Type 0 where
  pub answer : Answer
  pub answers : R s line answer s'
  pub tells : TellsOf answer heard

-- a part of this kind was said, and so many rows were inserted
pub record IsSaid {S : Type 0} (R : S → List ℕ → Answer → S → Type 0) (P : List Said → Type 0) (s s' : S) (rows : ℕ) : Type 0 where
  pub said : List Said
  pub part : P said
  pub answers : AreSaid R s said s'
  pub counted : rows ≡ inserted_rows said

-- these lines begin a part of this kind
abbrev pub IsFrontOf : (List Said → Type 0) → List Said → Type 0
IsFrontOf P front = (rest : List Said) × P (front ++ rest)

-- First lines of a part of this kind were said; then a line of it wasn't answered, or memory was short before it was said.
pub record IsCut {S : Type 0} (R : S → List ℕ → Answer → S → Type 0) (U : S → List ℕ → AnswerFault → S → Type 0) (P : List Said → Type 0) (s s' : S) (fault : AnswerFault) : Type 0 where
  pub front : List Said
  pub is_front : IsFrontOf P front
  pub state : S
  pub answers : AreSaid R s front state
  pub stops : ((line : List ℕ) × (answer : Answer) × IsFrontOf P (front ++ record { line = line; answer = answer } ∷ []) × U state line fault s') ⊎ ((fault ≡ Memory) × (s' ≡ state))

-- a part that leaves the keeper with a statement in hand, or without one
abbrev pub LeavesKeeper : (List Said → Bool → Type 0) → List Said → Type 0
LeavesKeeper P said = (busy : Bool) × P said busy

-- the selects were said, and found so many rows
pub record HasFound {S : Type 0} (R : S → List ℕ → Answer → S → Type 0) (rows : ℕ) (s s' : S) (found : List ℕ) : Type 0 where
  pub said : List Said
  pub are_selects : Says (selects rows) said
  pub answers : AreSaid R s said s'
  pub counted : found ≡ found_rows (answer_of said 0) ∷ found_rows (answer_of said 1) ∷ found_rows (answer_of said 2) ∷ found_rows (answer_of said 3) ∷ []

-- the last lines were said; the selects found so many rows, and the explain named so many blocks
pub record HasLooked {S : Type 0} (R : S → List ℕ → Answer → S → Type 0) (rows : ℕ) (s s' : S) (found : List ℕ) (read : ℕ) : Type 0 where
  pub last : List Said
  pub are_last : Says (last_lines rows) last
  pub answers : AreSaid R s last s'
  pub first : found ≡ found_rows (answer_of last 3) ∷ found_rows (answer_of last 4) ∷ found_rows (answer_of last 5) ∷ found_rows (answer_of last 6) ∷ []
  pub read_blocks : read ≡ named_blocks (answer_of last 7)
