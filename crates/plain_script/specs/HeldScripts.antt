-- A script that is held: what it says, and of which of its lines the statement is still there.
use Rattle.std.specs.Prelude.{◌≡◌, ℕ, Bool, true, List, length, map, take, slice_get, Some}
use Rattle.store_layout.specs.declared.statement.Statement.{Statement}
use Rattle.transcripts.specs.Transcript.{Line, lines_of}
use Rattle.plain_script.specs.PlainScripts.{PlainScript}

pub record HeldScript : Type 0 where
  pub script : PlainScript
  pub held : List Bool

-- nothing was taken yet
abbrev pub held_whole : PlainScript → HeldScript
held_whole script = record { script = script; held = map (λ (line : Line). true) script.lines }

-- the line of that number is the session's and says that, and as many of the session's lines stand before it
pub record IsLineOf (script : List Line) (session number rank : ℕ) (statement : Statement) : Type 0 where
  pub is : slice_get script number ≡ Some (record { session = session; statement = statement })
  pub behind : length (lines_of session (take number script)) ≡ rank
