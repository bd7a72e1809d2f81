-- How the lines of a script are gathered.
use Rattle.std.specs.Prelude.{◌≡◌, ℕ, List, [], map, All}
use Rattle.block_model.specs.declared.schema.Schema.{Schema}
use Rattle.store_layout.specs.StatementFits.{IsStatementFor}
use Rattle.script_run.specs.declared.engine.AnswerFault.{AnswerFault}
use Rattle.script_run.specs.declared.engine.AnswerFault.TheVariants.{Memory}
use Rattle.transcripts.specs.Transcript.{Line}
use Rattle.plain_script.specs.HeldScripts.{HeldScript}
use Rattle.plain_script.specs.KeptLines.{AreCounted, AreRead, is_there, lines_kept, names_kept}
use Rattle.plain_script.specs.PlainLines.{plain_line_of}
use Rattle.plain_script.specs.PlainScripts.{PlainScript, with_line}
use Rattle.plain_script.specs.declared.kept.ScriptLine.{ScriptLine}
use Rattle.plain_script.specs.declared.kept.ScriptSession.{ScriptSession}

-- what the lines so far say where these tables are declared
pub record Gathered : Type 0 where
  pub schema : Schema
  pub script : PlainScript

-- what is kept says that
abbrev pub script_kept : List ScriptSession → List ScriptLine → List ℕ → PlainScript
script_kept sessions kept unread = record { names = names_kept sessions; lines = lines_kept kept; unread = unread }

-- what is kept was read so, and says that where each line still stands as it was read
abbrev pub held_script : List ScriptSession → List ScriptLine → List ScriptLine → List ℕ → HeldScript
held_script sessions whole kept unread = record { script = script_kept sessions whole unread; held = map is_there kept }

-- the statements fit
abbrev pub AreFor : Schema → List Line → Type 0
AreFor schema lines = All (λ (line : Line). IsStatementFor schema line.statement) lines

-- the lines were read one after the other, and are counted; their statements fit
pub record IsGathered (schema : Schema) (sessions : List ScriptSession) (kept : List ScriptLine) : Type 0 where
  pub read : AreRead kept
  pub counted : AreCounted sessions kept
  pub fit : AreFor schema (lines_kept kept)

-- one more line is read, and answered with no text
abbrev pub Gathers : Gathered → List ℕ → List ℕ → Gathered → Type 0
Gathers g line text g' = (text ≡ []) × (g' ≡ record g { script = with_line g.script (plain_line_of g.schema line) })

-- a line isn't gathered only for want of memory
abbrev pub LacksMemory : Gathered → List ℕ → AnswerFault → Gathered → Type 0
LacksMemory g line fault g' = fault ≡ Memory
