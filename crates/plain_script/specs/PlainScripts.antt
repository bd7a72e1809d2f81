-- A script of plain lines, read whole: its sessions, the lines of their workers, and the texts of the lines that no worker has.
use Rattle.std.specs.Prelude.{◌≡◌, ℕ, ◌≤◌, ◌<◌, List, [], ◌∷◌, ◌++◌, length, slice_get, All, fold, Option, None, Some, Result, Ok, Err, if◌then◌else◌}
use Rattle.block_model.specs.declared.reply.Refusal.{Refusal}
use Rattle.block_model.specs.declared.reply.Refusal.TheVariants as refusals
use Rattle.block_model.specs.declared.reply.Reply.TheVariants as replies
use Rattle.block_model.specs.declared.schema.Schema.{Schema}
use Rattle.store_layout.specs.declared.limits.TheConstants.{MAX_SESSIONS}
use Rattle.store_layout.specs.declared.statement.Statement.{Statement}
use Rattle.store_layout.specs.SessionNumbers.{session_number, with_session, is_past_sessions}
use Rattle.query_words.specs.declared.line.LineFault.{LineFault}
use Rattle.query_words.specs.LineRefusals.{refusal_of}
use Rattle.reply_texts.specs.Texts.{refusal_text, reply_text}
use Rattle.transcripts.specs.Transcript.{Line}
use Rattle.plain_script.specs.PlainLines.{plain_line_of}
use Rattle.plain_script.specs.declared.plain_line.PlainLine.{PlainLine}
use Rattle.plain_script.specs.declared.plain_line.PlainLine.TheVariants as plain

-- the sessions' names, in the order of their first lines that are read; the workers' lines, and the texts of all others, in the script's order
pub record PlainScript : Type 0 where
  pub names : List (List ℕ)
  pub lines : List Line
  pub unread : List ℕ

abbrev pub no_lines : PlainScript
no_lines = record { names = []; lines = []; unread = [] }

-- one more text of a line that no worker has
abbrev pub with_text : PlainScript → List ℕ → PlainScript
with_text script text = record script { unread = script.unread ++ text }

-- one more line of the session of that name, which is made where it is new
abbrev pub with_statement : PlainScript → List ℕ → Statement → PlainScript
with_statement script name statement = record script {
  names = with_session script.names name;
  lines = script.lines ++ record { session = session_number script.names name; statement = statement } ∷ [];
}

-- the text of a refusal that names no session, where there is one
abbrev pub text_of_refusal : Option Refusal → List ℕ
text_of_refusal None = []
text_of_refusal (Some refusal) = refusal_text [] refusal

-- the text of a line that isn't read; want of memory is no fault of a line
abbrev pub unread_text : LineFault → List ℕ
unread_text fault = text_of_refusal (refusal_of fault)

-- the text of a line of a session past the greatest number
abbrev pub past_text : List ℕ → List ℕ
past_text name = reply_text name (replies.Refused (refusals.Limit MAX_SESSIONS))

-- a line that isn't read has the text of its fault, and one of a session past the greatest number the text of that refusal
abbrev pub with_line : PlainScript → Result PlainLine LineFault → PlainScript
with_line script (Err fault) = with_text script (unread_text fault)
with_line script (Ok plain.Nothing) = script
with_line script (Ok (plain.Say name statement)) =
    if is_past_sessions script.names name then with_text script (past_text name) else with_statement script name statement

-- the script of these lines, one after the other
abbrev pub plain_script : Schema → List (List ℕ) → PlainScript
plain_script schema lines = fold (λ script line. with_line script (plain_line_of schema line)) no_lines lines

-- there are only so many sessions, no two of one name, and each line is one's
pub record HasItsSessions (script : PlainScript) : Type 0 where
  pub few : length script.names ≤ MAX_SESSIONS
  pub apart : (i j : ℕ) (name : List ℕ) → slice_get script.names i ≡ Some name → slice_get script.names j ≡ Some name → i ≡ j
  pub within : All (λ (line : Line). line.session < length script.names) script.lines
