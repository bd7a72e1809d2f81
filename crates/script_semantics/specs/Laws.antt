-- What follows of the texts of lines, for a reader and for whoever answers them.
use Rattle.std.specs.Prelude.{◌≡◌, ◌≢◌, ◌⊎◌, ℕ, ◌<◌, ◌≤◌, IsTrue, false, List, [], ◌∷◌, ◌++◌, length, None, Some, All}
use Rattle.std.specs.FinMap as map
use Rattle.block_model.specs.declared.reply.Point.{Point}
use Rattle.block_model.specs.declared.reply.Point.TheVariants as points
use Rattle.block_model.specs.declared.reply.Refusal.{Refusal}
use Rattle.block_model.specs.declared.reply.Refusal.TheVariants as refusals
use Rattle.block_model.specs.declared.reply.Reply.{Reply}
use Rattle.block_model.specs.declared.reply.Reply.TheVariants as replies
use Rattle.block_model.specs.declared.reply.What.{What}
use Rattle.block_model.specs.declared.request.Entry.{Entry}
use Rattle.block_model.specs.declared.request.Request.TheVariants as requests
use Rattle.block_model.specs.declared.request.Tag.TheVariants as tags
use Rattle.block_model.specs.declared.row.RowId.{RowId}
use Rattle.block_model.specs.declared.value.Value.{Value}
use Rattle.block_model.specs.DatabaseState.{DatabaseState, OpenTransaction}
use Rattle.block_model.specs.RequestEffect.{Answer, Inserted, next_row}
use Rattle.block_model.specs.SerialRun.{serial_run, replies_to}
use Rattle.index_steps.specs.IndexTuples.{index_at}
use Rattle.query_words.specs.declared.line.Order.{Order}
use Rattle.query_words.specs.declared.line.Order.TheVariants as orders
use Rattle.reply_texts.specs.declared.dropped.Dropped.{Dropped}
use Rattle.reply_texts.specs.DroppedTexts.{dropped_text}
use Rattle.reply_texts.specs.StepTexts.{started_text}
use Rattle.reply_texts.specs.Texts.{reply_text}
use Rattle.store_layout.specs.declared.limits.TheConstants.{MAX_ENTRIES}
use Rattle.store_layout.specs.declared.statement.Statement.{Statement}
use Rattle.store_layout.specs.declared.statement.Statement.TheVariants as statements
use Rattle.store_layout.specs.HeapRoom.{full_table}
use Rattle.store_layout.specs.StatementRequests.{tagged_entry, requests_of, refusal_at, reply_to_statement}
use Rattle.coverage.specs.Accounts.{AccountsRun}
use Rattle.coverage.specs.RangesMade.{AreMadeFinal}
use Rattle.coverage.specs.Table.{Resting, TableState}
use Rattle.coverage.specs.TablePoints.{WaitedFor, SummariseLock, IsHeldBy}
use Rattle.script_semantics.specs.Place.{Hand, Place, accounts_at, database_at}
use Rattle.script_semantics.specs.Names.{name_of}
use Rattle.script_semantics.specs.Beginnings.{IsIn, StandsAt, takes_lock}
use Rattle.script_semantics.specs.Requests.{Course, MakesOne, MakesAll, MakesMark}
use Rattle.script_semantics.specs.StatementSteps.{Moved, course_of, what_of, StepsTo}
use Rattle.script_semantics.specs.LineTexts.{Does, refused_text}

-- a line of this order has the refusal's text, and changes nothing
abbrev pub IsToldAlone : Place → ℕ → List ℕ → Order → Refusal → Type 0
IsToldAlone p n name order refusal = (text : List ℕ) (q : Place) → Does p n name order text q → (text ≡ refused_text name refusal) × (q ≡ p)

-- so does a line that starts the statement, and the plain one
pub record IsNotTaken (p : Place) (n : ℕ) (name : List ℕ) (statement : Statement) (refusal : Refusal) : Type 0 where
  pub start : IsToldAlone p n name (orders.Start statement) refusal
  pub plain : IsToldAlone p n name (orders.Whole statement) refusal

-- lines that step the session's statement, one after the other, with the last one's text
pub data StepLines (n : ℕ) (name : List ℕ) : Place → List ℕ → Place → Type 0 where
  LastLine : (p q : Place) (text : List ℕ) → Does p n name orders.Step text q → StepLines n name p text q
  OneLine : (p q r : Place) (told text : List ℕ) → Does p n name orders.Step told q → StepLines n name q text r → StepLines n name p text r

-- where a plain statement is taken, a start and steps have its text in the end, and lead where it leads
abbrev pub PlainIsStartAndSteps : Type 0
PlainIsStartAndSteps = (p r : Place) (n : ℕ) (name text : List ℕ) (statement : Statement) → Does p n name (orders.Whole statement) text r
    → Does p n name (orders.Start statement) text r ⊎ ((q : Place) × Does p n name (orders.Start statement) (started_text name) q × StepLines n name q text r)

-- so have a start and a finish
abbrev pub PlainIsStartAndFinish : Type 0
PlainIsStartAndFinish = (p r : Place) (n : ℕ) (name text : List ℕ) (statement : Statement) → Does p n name (orders.Whole statement) text r
    → Does p n name (orders.Start statement) text r ⊎ ((q : Place) × Does p n name (orders.Start statement) (started_text name) q × Does q n name orders.Finish text r)

-- a statement that waits is told with what another session has, and which session that is
pub record IsToldItsHolder (p : Place) (n : ℕ) (refusal : Refusal) : Type 0 where
  pub table : ℕ
  pub waited : WaitedFor
  pub by : ℕ
  pub held : IsHeldBy (p.tables table) waited by
  pub other : by ≢ n
  pub told : refusal ≡ refusals.Blocked (what_of p.layout table waited) (name_of p by)

-- the statement has made no step and needs the summarise lock of this table, which another session has
pub record IsHeldFrom (p : Place) (n m table : ℕ) (statement : Statement) : Type 0 where
  pub takes : IsTrue (takes_lock statement)
  pub on : IsIn p n statement table
  pub rests : (p.tables table).task n ≡ Resting
  pub held : (p.tables table).summarise_lock ≡ Some m
  pub other : m ≢ n
  pub fits : length p.journal ≤ MAX_ENTRIES

-- that the summarise lock is that session's
abbrev pub lock_text : Place → List ℕ → (table holder : ℕ) → List ℕ
lock_text p name table holder = refused_text name (refusals.Blocked (what_of p.layout table SummariseLock) (name_of p holder))

-- an insert's put is entered with its row, a mark with its step, and a step of another name enters nothing
abbrev pub StepsEnterInPlace : Type 0
StepsEnterInPlace = (p q : Place) (n : ℕ) (hand : Hand) (point : Point) → StepsTo p n hand (Moved point) q
    → ((point ≡ points.Row) × ((c : Course) × MakesOne p.opening n hand.statement (course_of p hand) c × (q.journal ≡ c.journal)))
    ⊎ ((point ≡ points.Mark) × ((c : Course) × MakesMark p.opening n hand.statement (course_of p hand) c × (q.journal ≡ c.journal)))
    ⊎ ((point ≢ points.Row) × (point ≢ points.Mark) × (q.journal ≡ p.journal))

-- these requests are of this session
abbrev pub AreOf : ℕ → List Entry → Type 0
AreOf n entries = All (λ (e : Entry). e.session ≡ n) entries

-- what a step enters stands behind all that stood there, and is of its session; what the other sessions have in hand stays
pub record EntersItsOwn (p : Place) (n : ℕ) (q : Place) : Type 0 where
  pub entries : List Entry
  pub behind : q.journal ≡ p.journal ++ entries
  pub own : AreOf n entries
  pub others : (m : ℕ) → (m ≡ n) ⊎ (q.hands m ≡ p.hands m)

-- where a statement with no request of its own yet makes all of them with nothing between, they and their answers are those of one step
pub record IsAsOneStep (opening : DatabaseState) (n : ℕ) (statement : Statement) (journal : List Entry) (c : Course) : Type 0 where
  pub journal_is : c.journal ≡ journal ++ requests_of (serial_run opening journal) n false false statement
  pub answers_are : c.answers ≡ replies_to (serial_run opening journal) (requests_of (serial_run opening journal) n false false statement)

abbrev pub RequestsAreAsOneStep : Type 0
RequestsAreAsOneStep = (opening : DatabaseState) (n : ℕ) (statement : Statement) (journal : List Entry) (c : Course)
    → MakesAll opening n statement (record { journal = journal; answers = [] }) c → IsAsOneStep opening n statement journal c

-- an insert's put hasn't been answered yet, or with its row
pub data HasOneAnswer : List Answer → Type 0 where
  NoAnswer : HasOneAnswer []
  ItsRow : (id : RowId) → HasOneAnswer (Inserted id ∷ [])

-- an insert that is refused lacks memory or room, and enters its put with that tag, behind the one of its row where that was put
pub data EntersItsPut (p : Place) (n table : ℕ) (values : List Value) : Refusal → Place → Type 0 where
  ForWantOfMemory : {q : Place} → q.journal ≡ p.journal ++ tagged_entry n table (requests.Put values) tags.NoMemory ∷ [] → EntersItsPut p n table values refusals.Memory q
  ForWantOfRoom : {q : Place} (relation : List ℕ) (number : ℕ) → q.journal ≡ p.journal ++ tagged_entry n table (requests.Put values) tags.Full ∷ []
      → EntersItsPut p n table values (refusals.Full relation number) q

-- a statement of a transaction
abbrev pub IsTransactional : Statement → Type 0
IsTransactional (statements.Explain q) = ⊥
IsTransactional (statements.Summarize index block) = ⊥
IsTransactional (statements.Desummarize index block) = ⊥
IsTransactional (statements.Vacuum table) = ⊥
IsTransactional statements.Work = ⊥
IsTransactional statement = Unit {0}

-- memory is short, or no room is left, or another session has what is needed
pub data IsWant : Refusal → Type 0 where
  OfMemory : IsWant refusals.Memory
  OfRoom : (relation : List ℕ) (number : ℕ) → IsWant (refusals.Full relation number)
  OfLock : (what : What) (holder : List ℕ) → IsWant (refusals.Blocked what holder)

-- the requests and the reply are those of the statement as one step on its session's copy
pub record IsOneStep (p r : Place) (n : ℕ) (name text : List ℕ) (statement : Statement) : Type 0 where
  pub journal : r.journal ≡ p.journal ++ requests_of (database_at p) n false false statement
  pub reply : Reply
  pub replied : Some reply ≡ reply_to_statement (full_table p.layout) statement (replies_to (database_at p) (requests_of (database_at p) n false false statement))
  pub dropped : List Dropped
  pub text_is : text ≡ dropped_text dropped ++ reply_text name reply

pub record IsWanting (name text : List ℕ) : Type 0 where
  pub refusal : Refusal
  pub want : IsWant refusal
  pub dropped : List Dropped
  pub text_is : text ≡ dropped_text dropped ++ refused_text name refusal

-- a plain line of a transaction that is taken is done as in one step, whatever the indexes do on the way, or something is wanting
abbrev pub PlainIsAsOneStep : Type 0
PlainIsAsOneStep = (p r : Place) (n : ℕ) (name text : List ℕ) (statement : Statement) → p.hands n ≡ None → IsTransactional statement
    → refusal_at (database_at p) n statement ≡ None → Does p n name (orders.Whole statement) text r → IsOneStep p r n name text statement ⊎ IsWanting name text

-- a table without indexes and rows, in which nobody is at anything
pub record IsBare (w : TableState) : Type 0 where
  pub indexes : w.indexes ≡ 0
  pub slots : 0 < w.rows_per_page
  pub blocks : 0 < w.heap_limit
  pub row : (b k : ℕ) → w.row b k ≡ None
  pub resting : (s : ℕ) → w.task s ≡ Resting

-- an insert into such a table of a session whose transaction hasn't failed is answered its row
abbrev pub AnInsertIsAnswered : Type 0
AnInsertIsAnswered = (p : Place) (n : ℕ) (name : List ℕ) (x : OpenTransaction) (values : List Value) → p.hands n ≡ None → map.get (database_at p).sessions n ≡ Some x
    → x.failed ≡ false → IsBare (p.tables 0) → length p.journal < MAX_ENTRIES
    → (q : Place) × Does p n name (orders.Whole (statements.Insert 0 values)) (reply_text name (replies.Inserted (next_row x 0 values).id)) q

-- a summarize of an index of a table without blocks, where nobody has its summarise lock, is answered that it made nothing
abbrev pub AnEmptyTableIsSummarized : Type 0
AnEmptyTableIsSummarized = (p : Place) (n index at : ℕ) (name : List ℕ) → p.hands n ≡ None → StandsAt p.layout index at
    → at < (p.tables (index_at p.layout index).table).indexes → (p.tables (index_at p.layout index).table).blocks ≡ 0
    → (p.tables (index_at p.layout index).table).summarise_lock ≡ None → (p.tables (index_at p.layout index).table).task n ≡ Resting
    → length p.journal ≤ MAX_ENTRIES
    → (q : Place) × Does p n name (orders.Whole (statements.Summarize index None)) (reply_text name (replies.Summarized 0)) q

-- in a run of the session's steps on the table from the first place to the second, it gave so many ranges a final tuple, each of them once
pub record CountsFinals (n table : ℕ) (p q : Place) (count : ℕ) : Type 0 where
  pub steps : List ℕ
  pub run : AccountsRun steps (p.tables table) (q.tables table) (accounts_at p table) (accounts_at q table)
  pub alone : All (λ m. m ≡ n) steps
  pub made : List (ℕ × ℕ)
  pub finals : AreMadeFinal n run made
  pub count_is : length made ≡ count
