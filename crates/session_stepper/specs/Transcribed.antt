-- what holds of each store with its script and its transcript, whatever its disk tells
use Rattle.std.specs.Prelude.{◌≡◌, ℕ, ◌+◌, ◌≤◌, ◌<◌, true, List, length, slice_get, slice_index_or, Option, None, Some}
use Rattle.std.specs.Option.{is_some}
use Rattle.store_layout.specs.declared.statement.Statement.{Statement}
use Rattle.transcripts.specs.Transcript.{IsNext, entries_of}
use Rattle.transcript_laws.specs.ScheduleLaws.{FitsSchema}
use Rattle.plain_script.specs.HeldScripts.{IsLineOf}
use Rattle.plain_script.specs.PlainScripts.{HasItsSessions}
use Rattle.session_parts.specs.StoreStates.{hand_at}
use Rattle.session_stepper.specs.TranscribedState.{TranscribedState, line_at, lines_in}

-- how many lines of a session were submitted beside those that were told
abbrev pub one_in_hand : Option ℕ → ℕ
one_in_hand None = 0
one_in_hand (Some number) = 1

-- The sessions are the script's, and its lines fit the tables. Each session's lines that were told are counted. A session has a line in hand exactly where the store
-- has a statement in hand for it; it is its next line, and the statements of all further lines are still held.
pub record IsTranscribed {D : Type 0} (s : TranscribedState D) (counts : List ℕ) : Type 0 where
  pub names : s.store.names ≡ s.script.script.names
  pub sessions : HasItsSessions s.script.script
  pub fits : FitsSchema s.store.pages.layout.schema (lines_in s)
  pub wide : length counts ≡ length s.store.names
  pub wide_in_hand : length s.in_hand ≡ length s.store.names
  pub counted : (n : ℕ) → n < length counts → slice_index_or counts n 0 ≡ length (entries_of n s.said)
  pub next : (n number : ℕ) → line_at s.in_hand n ≡ Some number → (statement : Statement) × IsNext (lines_in s) s.said n number statement
  pub hands : s.ended ≡ None → (n : ℕ) → is_some (hand_at s.store n) ≡ is_some (line_at s.in_hand n)
  pub held : s.ended ≡ None → (n number rank : ℕ) (statement : Statement) → IsLineOf (lines_in s) n number rank statement
      → length (entries_of n s.said) + one_in_hand (line_at s.in_hand n) ≤ rank → slice_get s.script.held number ≡ Some true
