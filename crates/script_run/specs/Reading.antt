-- what a reader of lines has, and what a call of it does
use Rattle.std.specs.Prelude.{◌≡◌, ◌≢◌, ◌⊎◌, ℕ, ◌+◌, ◌-◌, ◌≤◌, List, [], ◌∷◌, ◌++◌, length, Option, Some, None, Result, Ok, Err}
use Rattle.std.specs.Io.KnownBytes.{Consumes, IsAtEnd}
use Rattle.std.specs.Borrow.{Bor}
use Rattle.script_run.specs.declared.end.Stage.{Stage}
use Rattle.script_run.specs.declared.end.Stage.TheVariants as stages
use Rattle.script_run.specs.declared.end.LinesEnd.{LinesEnd}
use Rattle.script_run.specs.declared.end.LinesEnd.TheVariants as ends
use Rattle.script_run.specs.Script.{ended_lines, rest_line, script_lines}

-- A reader of lines: how many bytes it may take and has taken, the whole lines that it hasn't handed out, the front of
-- the line under way, and how far its source is known.
pub record LineReading : Type 0 where
  pub limit : ℕ
  pub taken : ℕ
  pub ready : List (List ℕ)
  pub line : List ℕ
  pub stage : Stage

-- the whole lines of what was taken: at the end the last one is one too
abbrev pub lines_at : Stage → List ℕ → List (List ℕ)
lines_at stages.Open script = ended_lines script
lines_at stages.Ended script = script_lines script
lines_at stages.Spent script = ended_lines script

-- the front of the line under way
abbrev pub line_at : Stage → List ℕ → List ℕ
line_at stages.Open script = rest_line script
line_at stages.Ended script = []
line_at stages.Spent script = rest_line script

-- a reader that has taken nothing
abbrev pub fresh : ℕ → LineReading
fresh limit = record { limit = limit; taken = 0; ready = []; line = []; stage = stages.Open }

-- the reader has taken this script, and has handed out these lines of it
pub record HasRead (a : LineReading) (script : List ℕ) (out : List (List ℕ)) : Type 0 where
  pub taken : a.taken ≡ length script
  pub lines : lines_at a.stage script ≡ out ++ a.ready
  pub line : a.line ≡ line_at a.stage script

-- how many last lines there may still be
abbrev pub may_end : Stage → ℕ
may_end stages.Open = 1
may_end stages.Ended = 0
may_end stages.Spent = 0

-- how many lines a reader hands out at most: the ready ones, one for each byte that it may take, and a last one
abbrev pub still : LineReading → ℕ
still a = length a.ready + (a.limit - a.taken) + may_end a.stage

-- whatever the reader has taken and handed out before, it took these bytes and handed out these lines
pub record ReadsOn (a b : LineReading) (came : List ℕ) (lines : List (List ℕ)) : Type 0 where
  pub limit : b.limit ≡ a.limit
  pub reads : (script : List ℕ) (out : List (List ℕ)) → HasRead a script out → HasRead b (script ++ came) (out ++ lines)
  pub fewer : still b + length lines ≤ still a

-- how many bytes past the limit a call takes that finds one: one, and none after it
abbrev pub beyond : Stage → ℕ
beyond stages.Open = 1
beyond stages.Ended = 0
beyond stages.Spent = 0

-- At a read fault, and where there is a byte past the limit, each whole line that came was handed out.
abbrev pub Stops : LineReading → LineReading → Option (List ℕ) → Option (List ℕ) → LinesEnd → Type 0
Stops a b left left' ends.Read = (came : List ℕ) × Consumes left left' came × ReadsOn a b came [] × (b.ready ≡ []) × (a.stage ≡ stages.Open) × (b.stage ≡ stages.Open)
Stops a b left left' (ends.Spent taken) = (came : List ℕ) × (past : List ℕ) × Consumes left left' (came ++ past) × (length past ≡ beyond a.stage) × ReadsOn a b came []
    × (b.ready ≡ []) × (b.stage ≡ stages.Spent) × (b.taken ≡ b.limit) × (taken ≡ b.limit)

-- What a call does by its answer: a line is the next one; where it answers none the end was seen and all were handed out.
abbrev pub Answers : {T : Type 0} → (T → List ℕ) → LineReading → LineReading → Option (List ℕ) → Option (List ℕ) → Result (Option T) LinesEnd → Type 0
Answers bytes a b left left' (Ok (Some line)) = (came : List ℕ) × Consumes left left' came × ReadsOn a b came (bytes line ∷ []) × ((b.stage ≡ a.stage) ⊎ (b.stage ≡ stages.Ended))
Answers bytes a b left left' (Ok None) = (came : List ℕ) × Consumes left left' came × ReadsOn a b came [] × (b.ready ≡ []) × (b.stage ≡ stages.Ended)
Answers bytes a b left left' (Err end) = Stops a b left left' end

-- an end that the reader has seen is the source's
abbrev pub SeesEnd : LineReading → Option (List ℕ) → Type 0
SeesEnd a left = a.stage ≡ stages.Ended → IsAtEnd left

-- what a call of `next` makes of the reader, where the source had and has these bytes left
pub record Next (a b : LineReading) (left left' : Option (List ℕ)) (result : Result (Option (Bor (List ℕ))) LinesEnd) : Type 0 where
  pub within : b.taken ≤ b.limit
  pub answers : Answers (λ line. line.now) a b left left' result
  pub end : SeesEnd a left → SeesEnd b left'
  pub stays : a.stage ≢ stages.Open → b.stage ≡ a.stage
