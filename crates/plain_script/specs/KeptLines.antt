-- What the sessions and lines that are kept of a script show.
use Rattle.std.specs.Prelude.{◌≡◌, ◌⊎◌, ℕ, Bool, List, [], ◌∷◌, ◌++◌, length, map, slice_get, slice_set, slice_index_or, Option, None, Some, unwrap_or}
use Rattle.std.specs.Option.{is_some}
use Rattle.store_layout.specs.declared.statement.Statement.{Statement}
use Rattle.store_layout.specs.declared.statement.Statement.TheVariants as statements
use Rattle.transcripts.specs.Transcript.{Line, lines_of}
use Rattle.plain_script.specs.declared.kept.ScriptLine.{ScriptLine}
use Rattle.plain_script.specs.declared.kept.ScriptSession.{ScriptSession}

-- the names of the sessions
abbrev pub names_kept : List ScriptSession → List (List ℕ)
names_kept sessions = map (λ (s : ScriptSession). s.name) sessions

-- how many lines the session of that number has; none where there is no such session
abbrev pub count_kept : List ScriptSession → ℕ → ℕ
count_kept sessions n = slice_index_or (map (λ (s : ScriptSession). s.lines) sessions) n 0

-- a line that is kept whole; where the statement is taken out, any stands for it
abbrev pub line_kept : ScriptLine → Line
line_kept kept = record { session = kept.session; statement = unwrap_or kept.statement statements.Begin }

abbrev pub lines_kept : List ScriptLine → List Line
lines_kept kept = map line_kept kept

-- whether its statement is there
abbrev pub is_there : ScriptLine → Bool
is_there kept = is_some kept.statement

-- each session is counted as many lines as it has
abbrev pub AreCounted : List ScriptSession → List ScriptLine → Type 0
AreCounted sessions kept = (n : ℕ) → count_kept sessions n ≡ length (lines_of n (lines_kept kept))

-- the next line of a session, behind these
abbrev pub next_kept : List ScriptLine → ℕ → Statement → ScriptLine
next_kept kept n statement = record { session = n; rank = length (lines_of n (lines_kept kept)); statement = Some statement }

-- the lines as they are read: their statements are there, and their ranks are how many lines of their sessions stand before them
pub data AreRead : List ScriptLine → Type 0 where
  NoneRead : AreRead []
  MoreRead : (kept : List ScriptLine) (n : ℕ) (statement : Statement) → AreRead kept → AreRead (kept ++ next_kept kept n statement ∷ [])

-- a line whose statement is there
abbrev pub line_there : ℕ → ℕ → Statement → ScriptLine
line_there session rank statement = record { session = session; rank = rank; statement = Some statement }

-- Out of the line of that number its statement is taken, where the line is that session's, of that rank, and has one. Else nothing is changed.
abbrev pub TakesOut : List ScriptLine → List ScriptLine → (session number rank : ℕ) → Option Statement → Type 0
TakesOut old new session number rank (Some statement) =
    (slice_get old number ≡ Some (line_there session rank statement)) × (new ≡ slice_set old number (record { session = session; rank = rank; statement = None }))
TakesOut old new session number rank None = (new ≡ old) × ((statement : Statement) → slice_get old number ≡ Some (line_there session rank statement) → ⊥)

-- what is left of a line: all of it, or all but its statement
pub record IsLeftOf (whole kept : ScriptLine) : Type 0 where
  pub session : kept.session ≡ whole.session
  pub rank : kept.rank ≡ whole.rank
  pub statement : (kept.statement ≡ whole.statement) ⊎ (kept.statement ≡ None)

-- of each line that was read that much is left
pub record IsHeld (whole kept : List ScriptLine) : Type 0 where
  pub read : AreRead whole
  pub many : length kept ≡ length whole
  pub left : (i : ℕ) (one other : ScriptLine) → slice_get whole i ≡ Some one → slice_get kept i ≡ Some other → IsLeftOf one other
