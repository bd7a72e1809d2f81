-- The transcript of a script whose sessions work beside each other: one entry after the other, as each answer was kept.
use Rattle.std.specs.Prelude.{◌≡◌, ℕ, ◌==◌, List, [], ◌∷◌, ◌++◌, map, filter, length, take, slice_get, slice_index_or, Option, Some}
use Rattle.block_model.specs.declared.reply.Reply.{Reply}
use Rattle.block_model.specs.declared.value.Value.{Value}
use Rattle.block_model.specs.DatabaseState.{DatabaseState}
use Rattle.reply_texts.specs.declared.dropped.Dropped.{Dropped}
use Rattle.reply_texts.specs.DroppedTexts.{dropped_text}
use Rattle.reply_texts.specs.Texts.{reply_text}
use Rattle.store_layout.specs.declared.statement.Statement.{Statement}
use Rattle.store_layout.specs.declared.statement.Statement.TheVariants as statements
use Rattle.transcripts.specs.Told.{Limits, Tells}

-- a line of the script: whose it is, and what it says
pub record Line : Type 0 where
  pub session : ℕ
  pub statement : Statement

-- an entry: the session, the number of its line in the script, and the text that it was answered with
pub record Said : Type 0 where
  pub session : ℕ
  pub line : ℕ
  pub text : List ℕ

-- the lines, and the entries, of session n
abbrev pub lines_of : ℕ → List Line → List Line
lines_of n script = filter (λ (line : Line). line.session == n) script

abbrev pub entries_of : ℕ → List Said → List Said
entries_of n said = filter (λ (e : Said). e.session == n) said

-- what session n tells next: its first line that has no entry
abbrev pub next_statement : List Line → List Said → ℕ → Option Statement
next_statement script said n = slice_get (map (λ (line : Line). line.statement) (lines_of n script)) (length (entries_of n said))

-- Behind these entries the line of that number is session n's next one, and says that: as many of its lines stand before it as it has entries.
pub record IsNext (script : List Line) (said : List Said) (n number : ℕ) (statement : Statement) : Type 0 where
  pub is : slice_get script number ≡ Some (record { session = n; statement = statement })
  pub rank : length (lines_of n (take number script)) ≡ length (entries_of n said)

-- the text of a reply to the session of that name; an insert's alone may have lines of dropped requests before it
pub data IsTextOf (name : List ℕ) (reply : Reply) : Statement → List ℕ → Type 0 where
  OfReply : (statement : Statement) → IsTextOf name reply statement (reply_text name reply)
  BehindDropped : (table : ℕ) (values : List Value) (dropped : List Dropped) → IsTextOf name reply (statements.Insert table values) (dropped_text dropped ++ reply_text name reply)

-- From the opening on each entry has the text of an answer to its session's next line, as a whole statement in the database of the entries before it; and they lead to that
-- database. The sessions have these names.
pub data IsTranscript (limits : Limits) (names : List (List ℕ)) (script : List Line) (opening : DatabaseState) : List Said → DatabaseState → Type 0 where
  Empty : IsTranscript limits names script opening [] opening
  Further : (said : List Said) (s after : DatabaseState) (e : Said) (statement : Statement) (reply : Reply) → IsTranscript limits names script opening said s
      → IsNext script said e.session e.line statement → IsTextOf (slice_index_or names e.session []) reply statement e.text
      → Tells limits (next_statement script said) s e.session statement reply after → IsTranscript limits names script opening (said ++ e ∷ []) after
