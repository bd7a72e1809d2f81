-- What a script of plain lines is to its lines.
use Rattle.std.specs.Prelude.{◌≡◌, ℕ, ◌<◌, List, [], ◌∷◌, length, map, slice_get, Some, Result, Ok, Err, if◌then◌else◌}
use Rattle.std.specs.List.{flat_map}
use Rattle.std.specs.Str.{bytes_eq}
use Rattle.block_model.specs.declared.schema.Schema.{Schema}
use Rattle.store_layout.specs.declared.limits.TheConstants.{MAX_SESSIONS}
use Rattle.store_layout.specs.declared.statement.Statement.{Statement}
use Rattle.store_layout.specs.SessionNumbers.{session_number}
use Rattle.query_words.specs.declared.line.LineFault.{LineFault}
use Rattle.transcripts.specs.Transcript.{Line, lines_of}
use Rattle.plain_script.specs.PlainLines.{plain_line_of}
use Rattle.plain_script.specs.PlainScripts.{PlainScript, plain_script}
use Rattle.plain_script.specs.declared.plain_line.PlainLine.{PlainLine}
use Rattle.plain_script.specs.declared.plain_line.PlainLine.TheVariants as plain

-- what a line says of the session of that name, where it says something of it
abbrev pub said_by : List ℕ → Result PlainLine LineFault → List Statement
said_by name (Err fault) = []
said_by name (Ok plain.Nothing) = []
said_by name (Ok (plain.Say session statement)) = if bytes_eq session name then statement ∷ [] else []

-- what the lines say of it, in their order
abbrev pub all_said_by : Schema → List (List ℕ) → List ℕ → List Statement
all_said_by schema lines name = flat_map (λ line. said_by name (plain_line_of schema line)) lines

-- Each session has what the lines of its name say, in their order. A name of which a line says something is a session's, but where there are as
-- many as there may be.
pub record HasItsLines (script : PlainScript) (said : List ℕ → List Statement) : Type 0 where
  pub lines : (n : ℕ) (name : List ℕ) → slice_get script.names n ≡ Some name → map (λ (line : Line). line.statement) (lines_of n script.lines) ≡ said name
  pub none : (name : List ℕ) → session_number script.names name ≡ length script.names → length script.names < MAX_SESSIONS → said name ≡ []

abbrev pub SessionsHaveTheirLines : Type 0
SessionsHaveTheirLines = (schema : Schema) (lines : List (List ℕ)) → HasItsLines (plain_script schema lines) (all_said_by schema lines)
