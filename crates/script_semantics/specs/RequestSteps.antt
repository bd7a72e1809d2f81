-- What a step of the statement in hand does to the journal and to the hand, told without a table.
use Rattle.std.specs.Prelude.{◌≡◌, ◌≢◌, ◌⊎◌, ℕ, ◌<◌, IsTrue, codes, List, [], ◌++◌, length, Option, None, Some}
use Rattle.block_model.specs.declared.reply.Point.{Point}
use Rattle.block_model.specs.declared.reply.Point.TheVariants as points
use Rattle.block_model.specs.declared.reply.Refusal.{Refusal}
use Rattle.block_model.specs.declared.reply.Refusal.TheVariants as refusals
use Rattle.block_model.specs.declared.reply.Reply.{Reply}
use Rattle.block_model.specs.declared.reply.Reply.TheVariants as replies
use Rattle.block_model.specs.declared.request.Entry.{Entry}
use Rattle.block_model.specs.declared.request.Tag.{Tag}
use Rattle.block_model.specs.declared.request.Tag.TheVariants as tags
use Rattle.block_model.specs.declared.value.Value.{Value}
use Rattle.block_model.specs.DatabaseState.{DatabaseState}
use Rattle.block_model.specs.RequestEffect.{Answer}
use Rattle.block_model.specs.SerialRun.{serial_run}
use Rattle.store_layout.specs.declared.statement.Statement.{Statement}
use Rattle.store_layout.specs.declared.statement.Statement.TheVariants as statements
use Rattle.store_layout.specs.HeapRoom.{full_table}
use Rattle.store_layout.specs.StatementRequests.{reply_to_statement}
use Rattle.store_layout.specs.DiskLayout.{DiskLayout}
use Rattle.coverage.specs.GoingOn.{IsInserting}
use Rattle.coverage.specs.Table.{Task, Resting, Marks}
use Rattle.script_semantics.specs.Beginnings.{takes_lock}
use Rattle.script_semantics.specs.Laws.{IsTransactional, IsWant}
use Rattle.script_semantics.specs.Place.{Hand, Place, new_hand}
use Rattle.script_semantics.specs.Requests.{Course, MakesOne, MakesAll, MakesMark, refused_request}
use Rattle.script_semantics.specs.StatementSteps.{Outcome, Moved, Ended, Waits, IsInsert, IsOneLeft, StepsTo, TakesMemory, full_index, numbers_of}

abbrev pub IsMarking : Task → Type 0
IsMarking (Marks scan ids) = Unit {0}
IsMarking task = ⊥

abbrev pub AnswersFit : Place → ℕ → List Answer → Statement → Type 0
AnswersFit p n answers (statements.Insert table values) =
    ((answers ≡ []) × ((p.tables table).task n ≡ Resting)) ⊎ ((answers ≢ []) × IsInserting ((p.tables table).task n))
AnswersFit p n answers (statements.Select q) = answers ≡ []
AnswersFit p n answers (statements.Delete q) = (answers ≡ []) ⊎ ((q.table < length p.layout.schema.tables) × IsMarking ((p.tables q.table).task n))
AnswersFit p n answers statement = Unit {0}

-- The answers of a statement in hand fit what it is at in its table. An insert rests there until its put is answered, and is at an index from then on; a
-- delete whose look is answered is at its marks, in a table of the layout; a select's look is answered with its reply.
abbrev pub IsAnsweredInPlace : Place → ℕ → Hand → Type 0
IsAnsweredInPlace p n hand = AnswersFit p n hand.answers hand.statement

-- this journal, and what the statement's requests in it were answered
abbrev pub course_in : List Entry → Hand → Course
course_in journal hand = record { journal = journal; answers = hand.answers }

-- Why the statement is refused at its step, with the tag of its request then, and what is told. Memory is short before an answer. An insert's table is full
-- before its put, and an index of that table behind it. What maintenance wants is no request's.
pub data FailsSo (layout : DiskLayout) (hand : Hand) : Tag → Refusal → Type 0 where
  MemoryIsShort : TakesMemory hand.statement → hand.answers ≡ [] → FailsSo layout hand tags.NoMemory refusals.Memory
  TableIsFull : (table : ℕ) (values : List Value) → hand ≡ new_hand (statements.Insert table values) → FailsSo layout hand tags.Full (full_table layout table)
  ItsIndexIsFull : (table at : ℕ) (values : List Value) → hand.statement ≡ statements.Insert table values → hand.answers ≢ []
      → FailsSo layout hand tags.Full (full_index layout table at)
  MaintenanceWants : (tag : Tag) (told : Refusal) → IsTrue (takes_lock hand.statement) → IsWant told → FailsSo layout hand tag told

-- the reply to all requests of a statement of a transaction; and a begin has a number
pub record IsRepliedSo (layout : DiskLayout) (s : DatabaseState) (statement : Statement) (answers : List Answer) (reply : Reply) : Type 0 where
  pub reply_is : IsTransactional statement → Some reply ≡ reply_to_statement (full_table layout) statement answers
  pub number : statement ≡ statements.Begin → s.next < numbers_of layout

-- the reply to a statement that makes no request: no summary is asked for, or no number is left for a begin
pub data EndsBare (layout : DiskLayout) (s : DatabaseState) : Statement → Reply → Type 0 where
  NoneAsked : EndsBare layout s statements.Work replies.Idle
  NoneLeft : s.next ≡ numbers_of layout → EndsBare layout s statements.Begin (replies.Refused (refusals.Full (codes "status") (numbers_of layout)))

-- One step of the statement that session n has in hand, from this journal on: what comes of it, what is then in hand, and the journal then. It goes on and
-- enters nothing, or an insert's put, or a mark, behind which another is left; it ends with all requests that are left, or with one that fails, or without
-- any; or it waits.
pub data RequestStep (layout : DiskLayout) (opening : DatabaseState) (n : ℕ) (hand : Hand) (journal : List Entry) : Outcome → Option Hand → List Entry → Type 0 where
  EntersNone : (point : Point) → RequestStep layout opening n hand journal (Moved point) (Some hand) journal
  EntersPut : (c : Course) → IsInsert hand.statement → MakesOne opening n hand.statement (course_in journal hand) c
      → RequestStep layout opening n hand journal (Moved points.Row) (Some (record hand { answers = c.answers })) c.journal
  EntersMark : (c : Course) → MakesMark opening n hand.statement (course_in journal hand) c → IsOneLeft n hand.statement c
      → RequestStep layout opening n hand journal (Moved points.Mark) (Some (record hand { answers = c.answers })) c.journal
  EntersAll : (c : Course) (reply : Reply) → MakesAll opening n hand.statement (course_in journal hand) c
      → IsRepliedSo layout (serial_run opening journal) hand.statement c.answers reply → RequestStep layout opening n hand journal (Ended reply) None c.journal
  EntersRefused : (tag : Tag) (told : Refusal) → FailsSo layout hand tag told
      → RequestStep layout opening n hand journal (Ended (replies.Refused told)) None (journal ++ refused_request n tag hand.statement)
  EndsWithout : (reply : Reply) → EndsBare layout (serial_run opening journal) hand.statement reply → RequestStep layout opening n hand journal (Ended reply) None journal
  StaysWaiting : (told : Refusal) → RequestStep layout opening n hand journal (Waits told) (Some hand) journal

-- each step, where the answers are in place
abbrev pub StepsEnter : Type 0
StepsEnter = (p q : Place) (n : ℕ) (hand : Hand) (outcome : Outcome) → p.hands n ≡ Some hand → IsAnsweredInPlace p n hand → StepsTo p n hand outcome q
    → RequestStep p.layout p.opening n hand p.journal outcome (q.hands n) q.journal
