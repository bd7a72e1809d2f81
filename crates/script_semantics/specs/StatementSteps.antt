-- What one step of a session's statement does to where the script stands, and what comes of it.
use Rattle.std.specs.Prelude.{◌≡◌, ◌≢◌, ◌⊎◌, ℕ, ◌*◌, ◌≤◌, ◌<◌, IsTrue, List, [], ◌++◌, length, codes, Option, None, Some}
use Rattle.std.specs.List.{filter, range_with_len}
use Rattle.block_model.specs.declared.reply.Point.{Point}
use Rattle.block_model.specs.declared.reply.Point.TheVariants as points
use Rattle.block_model.specs.declared.reply.Refusal.{Refusal}
use Rattle.block_model.specs.declared.reply.Refusal.TheVariants as refusals
use Rattle.block_model.specs.declared.reply.Reply.{Reply}
use Rattle.block_model.specs.declared.reply.Reply.TheVariants as replies
use Rattle.block_model.specs.declared.reply.What.{What}
use Rattle.block_model.specs.declared.reply.What.TheVariants as whats
use Rattle.block_model.specs.declared.request.Entry.{Entry}
use Rattle.block_model.specs.declared.request.Tag.{Tag}
use Rattle.block_model.specs.declared.request.Tag.TheVariants as tags
use Rattle.block_model.specs.declared.row.RowId.{RowId}
use Rattle.block_model.specs.RequestEffect.{Answer}
use Rattle.page_layout.specs.declared.format.TheConstants.{STATUS_ENTRIES}
use Rattle.store_layout.specs.declared.limits.TheConstants.{MAX_ENTRIES}
use Rattle.store_layout.specs.declared.statement.Statement.{Statement}
use Rattle.store_layout.specs.declared.statement.Statement.TheVariants as statements
use Rattle.store_layout.specs.HeapRoom.{full_table}
use Rattle.store_layout.specs.StatementRequests.{reply_to_statement}
use Rattle.store_layout.specs.DiskLayout.{DiskLayout}
use Rattle.coverage.specs.Accounts.{Account, Asked}
use Rattle.coverage.specs.Refusals as causes
use Rattle.coverage.specs.Refusals.{Heap, IndexNumber, LacksMemory, IsFull, HasConflict}
use Rattle.coverage.specs.Table.{OneRange, Task, Resting, Considers, Scans}
use Rattle.coverage.specs.TablePoints.{WaitedFor, SummariseLock, PageLock, waits_for, IsHeldBy}
use Rattle.coverage.specs.TableSteps.{IsBlocked}
use Rattle.script_semantics.specs.Place.{Hand, Place, database_at}
use Rattle.script_semantics.specs.Requests.{Course, next_request, refused_request, MakesOne, MakesAll, MakesMark}
use Rattle.script_semantics.specs.Names.{table_name, index_name, name_of}
use Rattle.script_semantics.specs.Beginnings.{IsAskedFirst, IsAtRest, IsIn, takes_lock}
use Rattle.script_semantics.specs.Turns.{Turn, point_of, refusal_of, task_within, TablesStay, Leads}

-- the statement goes on behind a step of this name; it ends with this reply; or it waits, and is told for whom
pub data Outcome : Type 0 where
  Moved : Point → Outcome
  Ended : Reply → Outcome
  Waits : Refusal → Outcome

abbrev pub course_of : Place → Hand → Course
course_of p hand = record { journal = p.journal; answers = hand.answers }

-- a request is left to make
abbrev pub IsOneLeft : ℕ → Statement → Course → Type 0
IsOneLeft n statement c = (e : Entry) × (next_request n statement c.answers ≡ Some e)

-- The requests that a step of this name enters, behind which its statement goes on: an insert's put at `row`; at `mark` a mark, with the look
-- before the first one, where another mark is left. The others come with the reply.
abbrev pub MakesAt : Point → Place → ℕ → Hand → Course → Type 0
MakesAt points.Row p n hand c = MakesOne p.opening n hand.statement (course_of p hand) c
MakesAt points.Mark p n hand c = MakesMark p.opening n hand.statement (course_of p hand) c × IsOneLeft n hand.statement c
MakesAt point p n hand c = c ≡ course_of p hand

-- how many transactions have a number
abbrev pub numbers_of : DiskLayout → ℕ
numbers_of layout = layout.sizes.status_blocks * STATUS_ENTRIES

-- statements that are one request and touch no table
pub data IsAtOnce (p : Place) : Statement → Type 0 where
  Begin : (database_at p).next < numbers_of p.layout → IsAtOnce p statements.Begin
  Commit : IsAtOnce p statements.Commit
  Rollback : IsAtOnce p statements.Rollback

-- the blocks that a scan gives
abbrev pub blocks_given : Task → List ℕ
blocks_given (Scans scan) = filter scan.candidate (range_with_len 0 scan.extent)
blocks_given task = []

-- work tells the index and the range that were asked for
abbrev pub work_reply : DiskLayout → (table : ℕ) → Task → (count : ℕ) → Option Reply
work_reply layout table (Considers (OneRange extent only) at range) count = Some (replies.Worked (index_name layout table at) only count)
work_reply layout table task count = None

-- the reply of a statement of this table that was at this task when it ended, has this to tell, and whose requests were answered so
abbrev pub reply_after : DiskLayout → (table : ℕ) → Task → Account → List Answer → Statement → Option Reply
reply_after layout table task account answers (statements.Explain q) = Some (replies.Kept (blocks_given task))
reply_after layout table task account answers (statements.Summarize index block) = Some (replies.Summarized account.ranges)
reply_after layout table task account answers (statements.Desummarize index block) = Some (replies.Desummarized account.ranges)
reply_after layout table task account answers (statements.Vacuum number) = Some (replies.Vacuumed account.rows account.unnamed account.ranges)
reply_after layout table task account answers statements.Work = work_reply layout table task account.ranges
reply_after layout table task account answers statement = reply_to_statement (full_table layout) statement answers

-- a statement of a transaction whose steps take memory
abbrev pub TakesMemory : Statement → Type 0
TakesMemory (statements.Insert table values) = Unit {0}
TakesMemory (statements.Select q) = Unit {0}
TakesMemory (statements.Delete q) = Unit {0}
TakesMemory statement = ⊥

-- A statement that may lack memory before it has a step: a select or a delete; and work, which has found the first summary that is asked for, in a
-- table whose summarise lock no other session holds.
abbrev pub MayLackMemory : Place → ℕ → Statement → Type 0
MayLackMemory p n (statements.Select q) = Unit {0}
MayLackMemory p n (statements.Delete q) = Unit {0}
MayLackMemory p n statements.Work = (asked : Asked) × IsAskedFirst p asked × ((m : ℕ) → (p.tables asked.table).summarise_lock ≡ Some m → m ≡ n)
MayLackMemory p n statement = ⊥

abbrev pub IsInsert : Statement → Type 0
IsInsert (statements.Insert table values) = Unit {0}
IsInsert statement = ⊥

-- a statement that may put tuples into an index
abbrev pub PutsTuples : Statement → Type 0
PutsTuples (statements.Insert table values) = Unit {0}
PutsTuples (statements.Summarize index block) = Unit {0}
PutsTuples (statements.Vacuum table) = Unit {0}
PutsTuples statements.Work = Unit {0}
PutsTuples statement = ⊥

-- a full index is told by its name, with the number of the pages that it may have
abbrev pub full_index : DiskLayout → (table at : ℕ) → Refusal
full_index layout table at = refusals.Full (index_name layout table at) layout.sizes.index_blocks

-- Why a step refuses its statement, with the tag of its request then, and what is told: memory is short; no slot is left for an insert's row; or no page
-- for a tuple that is put. What is full is told with the room that the layout gives it.
pub data RefusesSo (p : Place) (table : ℕ) (statement : Statement) : causes.Refusal → Tag → Refusal → Type 0 where
  ForMemory : TakesMemory statement → RefusesSo p table statement LacksMemory tags.NoMemory refusals.Memory
  HeapIsFull : (number : ℕ) → IsInsert statement → RefusesSo p table statement (IsFull Heap number) tags.Full (full_table p.layout table)
  IndexIsFull : (at number : ℕ) → PutsTuples statement → RefusesSo p table statement (IsFull (IndexNumber at) number) tags.Full (full_index p.layout table at)

-- what is waited for, by its names
abbrev pub what_of : DiskLayout → (table : ℕ) → WaitedFor → What
what_of layout table SummariseLock = whats.Work (table_name layout table)
what_of layout table (PageLock at page) = whats.Page (index_name layout table at) page

-- it is told with the name of the session that has it
abbrev pub WaitsFor : Place → (table : ℕ) → WaitedFor → Refusal → Type 0
WaitsFor p table waited told = (by : ℕ) × IsHeldBy (p.tables table) waited by × (told ≡ refusals.Blocked (what_of p.layout table waited) (name_of p by))

-- One step of the statement that session n has in hand. It makes a step of its table and goes on, or replies; meets a row that it can't mark; is
-- refused; is one request; finds no summary asked for; lacks memory, or a number, before it has a step; or waits.
pub data StepsTo (p : Place) (n : ℕ) (hand : Hand) : Outcome → Place → Type 0 where
  GoesOn : (point : Point) (c : Course) (q : Place) (turn : Turn p n hand.statement q) → point_of turn ≡ Some point
      → (q.tables turn.table).task n ≢ Resting → MakesAt point p n hand c → Leads p n (Some (record hand { answers = c.answers })) c.journal q
      → StepsTo p n hand (Moved point) q
  Replies : (point : Point) (c : Course) (reply : Reply) (q : Place) (turn : Turn p n hand.statement q) → point_of turn ≡ Some point
      → (q.tables turn.table).task n ≡ Resting → MakesAll p.opening n hand.statement (course_of p hand) c
      → Some reply ≡ reply_after p.layout turn.table (task_within turn) (q.accounts n) c.answers hand.statement → Leads p n None c.journal q
      → StepsTo p n hand (Ended reply) q
  MeetsConflict : (id : RowId) (c : Course) (q : Place) (turn : Turn p n hand.statement q) → refusal_of turn ≡ Some (HasConflict id)
      → MakesAll p.opening n hand.statement (course_of p hand) c
      → Some (replies.Refused (refusals.Conflict id)) ≡ reply_to_statement (full_table p.layout) hand.statement c.answers
      → Leads p n None c.journal q → StepsTo p n hand (Ended (replies.Refused (refusals.Conflict id))) q
  IsRefused : (why : causes.Refusal) (tag : Tag) (told : Refusal) (q : Place) (turn : Turn p n hand.statement q) → refusal_of turn ≡ Some why
      → RefusesSo p turn.table hand.statement why tag told → Leads p n None (p.journal ++ refused_request n tag hand.statement) q
      → StepsTo p n hand (Ended (replies.Refused told)) q
  AtOnce : (c : Course) (reply : Reply) (q : Place) → IsAtOnce p hand.statement → MakesAll p.opening n hand.statement (course_of p hand) c
      → Some reply ≡ reply_to_statement (full_table p.layout) hand.statement c.answers → TablesStay p q → Leads p n None c.journal q
      → StepsTo p n hand (Ended reply) q
  NothingAsked : (q : Place) → hand.statement ≡ statements.Work → IsAtRest p n → p.queue ≡ [] → TablesStay p q → Leads p n None p.journal q
      → StepsTo p n hand (Ended replies.Idle) q
  LacksMemoryAtOnce : (q : Place) → MayLackMemory p n hand.statement → IsAtRest p n → TablesStay p q
      → Leads p n None (p.journal ++ refused_request n tags.NoMemory hand.statement) q → StepsTo p n hand (Ended (replies.Refused refusals.Memory)) q
  NoNumber : (q : Place) → hand.statement ≡ statements.Begin → (database_at p).next ≡ numbers_of p.layout → TablesStay p q → Leads p n None p.journal q
      → StepsTo p n hand (Ended (replies.Refused (refusals.Full (codes "status") (numbers_of p.layout)))) q
  IsWaiting : (table : ℕ) (told : Refusal) → IsIn p n hand.statement table
      → ((p.tables table).task n ≢ Resting) ⊎ IsTrue (takes_lock hand.statement) → (blocked : IsBlocked (p.tables table) n ((p.tables table).task n))
      → WaitsFor p table (waits_for (p.tables table) n ((p.tables table).task n) blocked) told → StepsTo p n hand (Waits told) p

-- the step of session n, whose requests the journal has room for
pub record Steps (p : Place) (n : ℕ) (outcome : Outcome) (q : Place) : Type 0 where
  pub hand : Hand
  pub in_hand : p.hands n ≡ Some hand
  pub steps : StepsTo p n hand outcome q
  pub fits : length q.journal ≤ MAX_ENTRIES

-- It hasn't: one of the outcomes that the step may have enters more than there is room for; nothing is changed. Want of memory is such an outcome, and
-- enters the request that is refused for it.
pub record LacksRoom (p : Place) (n : ℕ) : Type 0 where
  pub hand : Hand
  pub in_hand : p.hands n ≡ Some hand
  pub outcome : Outcome
  pub further : Place
  pub steps : StepsTo p n hand outcome further
  pub past : MAX_ENTRIES < length further.journal
