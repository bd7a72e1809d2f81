-- The text of each line of a script, and where it leads.
use Rattle.std.specs.Prelude.{◌≡◌, ℕ, nat_le, Bool, true, false, List, [], ◌++◌, Option, None, Some, Result, Ok, Err, if◌then◌else◌}
use Rattle.block_model.specs.declared.reply.Point.{Point}
use Rattle.block_model.specs.declared.reply.Refusal.{Refusal}
use Rattle.block_model.specs.declared.reply.Refusal.TheVariants as refusals
use Rattle.block_model.specs.declared.reply.Reply.TheVariants as replies
use Rattle.block_model.specs.declared.schema.Schema.{Schema}
use Rattle.query_words.specs.declared.line.Line.{Line}
use Rattle.query_words.specs.declared.line.Line.TheVariants as lines
use Rattle.query_words.specs.declared.line.LineFault.{LineFault}
use Rattle.query_words.specs.declared.line.Order.{Order}
use Rattle.query_words.specs.declared.line.Order.TheVariants as orders
use Rattle.query_words.specs.Lines.{line_of}
use Rattle.query_words.specs.LineRefusals.{refusal_of}
use Rattle.reply_texts.specs.declared.dropped.Dropped.{Dropped}
use Rattle.reply_texts.specs.DroppedTexts.{dropped_text}
use Rattle.reply_texts.specs.StepTexts.{moved_text, started_text}
use Rattle.reply_texts.specs.Texts.{reply_text, refusal_text}
use Rattle.store_layout.specs.declared.limits.TheConstants.{MAX_SESSIONS}
use Rattle.store_layout.specs.declared.statement.Statement.{Statement}
use Rattle.store_layout.specs.declared.statement.Statement.TheVariants as statements
use Rattle.store_layout.specs.SessionNumbers.{session_number, with_session, is_past_sessions}
use Rattle.store_layout.specs.StatementRequests.{refusal_at}
use Rattle.coverage.specs.Accounts.{no_account}
use Rattle.script_semantics.specs.Place.{Place, new_hand, database_at, updated}
use Rattle.script_semantics.specs.Names.{dropped_of}
use Rattle.script_semantics.specs.StatementSteps.{Outcome, Moved, Ended, Waits, Steps}

-- BLOCK of a maintenance line isn't below the greatest number of blocks
abbrev pub block_refusal : ℕ → Statement → Option Refusal
block_refusal limit (statements.Summarize index (Some block)) = if nat_le limit block then Some (refusals.Limit limit) else None
block_refusal limit (statements.Desummarize index block) = if nat_le limit block then Some (refusals.Limit limit) else None
block_refusal limit statement = None

-- the first of two that is there
abbrev pub or_else : Option Refusal → Option Refusal → Option Refusal
or_else None second = second
or_else (Some first) second = Some first

abbrev pub in_hand_refusal : {A : Type 0} → Option A → Option Refusal
in_hand_refusal None = None
in_hand_refusal (Some hand) = Some refusals.InHand

-- why session n's statement isn't taken: one is in hand, or its block is past the limit, or its transaction doesn't allow it
abbrev pub submit_refusal : Place → ℕ → Statement → Option Refusal
submit_refusal p n statement =
    or_else (in_hand_refusal (p.hands n)) (or_else (block_refusal p.layout.sizes.heap_blocks statement) (refusal_at (database_at p) n statement))

-- a begin, an explain and maintenance may be refused for memory before their first step
abbrev pub may_want_memory : Statement → Bool
may_want_memory statements.Commit = false
may_want_memory statements.Rollback = false
may_want_memory (statements.Insert table values) = false
may_want_memory (statements.Select q) = false
may_want_memory (statements.Delete q) = false
may_want_memory statement = true

abbrev pub with_statement : Place → ℕ → Statement → Place
with_statement p n statement = record p { hands = updated p.hands n (Some (new_hand statement)); accounts = updated p.accounts n no_account }

-- a statement is taken, and no step is made; or it is refused, and nothing is changed
pub data Submits (p : Place) (n : ℕ) (statement : Statement) : Option Refusal → Place → Type 0 where
  Taken : submit_refusal p n statement ≡ None → Submits p n statement None (with_statement p n statement)
  NotTaken : (refusal : Refusal) → submit_refusal p n statement ≡ Some refusal → Submits p n statement (Some refusal) p
  WantsMemory : submit_refusal p n statement ≡ None → may_want_memory statement ≡ true → Submits p n statement (Some refusals.Memory) p

-- steps up to the reply, or up to one that waits
pub data Finishes (n : ℕ) : Place → Outcome → Place → Type 0 where
  LastStep : (p q : Place) (outcome : Outcome) → ((point : Point) → outcome ≡ Moved point → ⊥) → Steps p n outcome q → Finishes n p outcome q
  Further : (p q r : Place) (point : Point) (outcome : Outcome) → Steps p n (Moved point) q → Finishes n q outcome r → Finishes n p outcome r

-- what is printed: behind a reply's dropped requests
abbrev pub outcome_text : List ℕ → List Dropped → Outcome → List ℕ
outcome_text name dropped (Moved point) = moved_text name point
outcome_text name dropped (Ended reply) = dropped_text dropped ++ reply_text name reply
outcome_text name dropped (Waits refusal) = reply_text name (replies.Refused refusal)

abbrev pub dropped_at : Place → ℕ → List Dropped
dropped_at p n = dropped_of p.layout (p.accounts n).dropped

abbrev pub refused_text : List ℕ → Refusal → List ℕ
refused_text name refusal = reply_text name (replies.Refused refusal)

-- What an order of the session of that number and name does. A plain statement is its start and its finish.
pub data Does (p : Place) (n : ℕ) (name : List ℕ) : Order → List ℕ → Place → Type 0 where
  Starts : (statement : Statement) (q : Place) → Submits p n statement None q → Does p n name (orders.Start statement) (started_text name) q
  RefusesStart : (statement : Statement) (refusal : Refusal) (q : Place) → Submits p n statement (Some refusal) q
      → Does p n name (orders.Start statement) (refused_text name refusal) q
  StepsOnce : (outcome : Outcome) (q : Place) → Steps p n outcome q → Does p n name orders.Step (outcome_text name (dropped_at q n) outcome) q
  IsFinished : (outcome : Outcome) (q : Place) → Finishes n p outcome q → Does p n name orders.Finish (outcome_text name (dropped_at q n) outcome) q
  NoStep : p.hands n ≡ None → Does p n name orders.Step (refused_text name refusals.NothingStarted) p
  NoFinish : p.hands n ≡ None → Does p n name orders.Finish (refused_text name refusals.NothingStarted) p
  Plain : (statement : Statement) (outcome : Outcome) (q r : Place) → Submits p n statement None q → Finishes n q outcome r
      → Does p n name (orders.Whole statement) (outcome_text name (dropped_at r n) outcome) r
  RefusesPlain : (statement : Statement) (refusal : Refusal) (q : Place) → Submits p n statement (Some refusal) q
      → Does p n name (orders.Whole statement) (refused_text name refusal) q

-- the text of a refusal that names no session, where there is one
abbrev pub text_of_refusal : Option Refusal → List ℕ
text_of_refusal None = []
text_of_refusal (Some refusal) = refusal_text [] refusal

-- the text of a line that isn't read; want of memory has none
abbrev pub fault_text : LineFault → List ℕ
fault_text fault = text_of_refusal (refusal_of fault)

-- the session of that name is there
abbrev pub named : Place → List ℕ → Place
named p name = record p { names = with_session p.names name }

-- A line that isn't read changes nothing and has the text of its fault. A session is made by its first line that is read.
pub data Answers (p : Place) : Result Line LineFault → List ℕ → Place → Type 0 where
  IsNotRead : (fault : LineFault) → Answers p (Err fault) (fault_text fault) p
  SaysNothing : Answers p (Ok lines.Nothing) [] p
  PastSessions : (name : List ℕ) (order : Order) → is_past_sessions p.names name ≡ true
      → Answers p (Ok (lines.Say name order)) (refused_text name (refusals.Limit MAX_SESSIONS)) p
  Orders : (name : List ℕ) (order : Order) (text : List ℕ) (q : Place) → is_past_sessions p.names name ≡ false
      → Does (named p name) (session_number p.names name) name order text q → Answers p (Ok (lines.Say name order)) text q

-- at the first place the line has this text, and leads to the second
abbrev pub IsLineText : Schema → Place → List ℕ → List ℕ → Place → Type 0
IsLineText schema p line text q = Answers p (line_of schema line) text q
