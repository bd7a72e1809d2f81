-- which step of the definition of texts a step of a store is
use Rattle.std.specs.Prelude.{◌≡◌, ◌≢◌, ◌⊎◌, ℕ, Bool, List, [], IsTrue, ◌++◌, codes, None, Some}
use Rattle.block_model.specs.declared.reply.Point.{Point}
use Rattle.block_model.specs.declared.reply.Point.TheVariants as points
use Rattle.block_model.specs.declared.reply.Refusal.{Refusal}
use Rattle.block_model.specs.declared.reply.Refusal.TheVariants as refusals
use Rattle.block_model.specs.declared.reply.Reply.{Reply}
use Rattle.block_model.specs.declared.reply.Reply.TheVariants as replies
use Rattle.block_model.specs.declared.request.Tag.{Tag}
use Rattle.block_model.specs.declared.request.Tag.TheVariants as tags
use Rattle.block_model.specs.declared.row.RowId.{RowId}
use Rattle.store_layout.specs.declared.statement.Statement.{Statement}
use Rattle.store_layout.specs.declared.statement.Statement.TheVariants as statements
use Rattle.store_layout.specs.HeapRoom.{full_table}
use Rattle.store_layout.specs.StatementRequests.{reply_to_statement}
use Rattle.coverage.specs.Accounts.{Account, AccountIs, Accounts, Adds, Asked}
use Rattle.coverage.specs.InOneIndex.{DoesAt}
use Rattle.coverage.specs.Refusals as causes
use Rattle.coverage.specs.Refusals.{HasConflict}
use Rattle.coverage.specs.Table.{Resting, TableState, Task}
use Rattle.coverage.specs.TablePoints.{IsHeldBy, WaitedFor, does_point, waits_for}
use Rattle.coverage.specs.TableSteps.{Does, IsBlocked, Settles}
use Rattle.script_semantics.specs.Beginnings.{Begins, IsAtRest, IsIn, TakesUp, takes_lock}
use Rattle.script_semantics.specs.Names.{name_of}
use Rattle.script_semantics.specs.Place.{Hand as HandAt, Place, accounts_at, database_at}
use Rattle.script_semantics.specs.Requests.{Course, MakesAll, refused_request}
use Rattle.script_semantics.specs.StatementSteps.{Ended, IsAtOnce, MakesAt, MayLackMemory, Moved, RefusesSo, StepsTo, Waits, course_of, numbers_of, reply_after, what_of}
use Rattle.script_semantics.specs.Turns.{PrunesTheDead}
use Rattle.session_parts.specs.PlacesAfter.{TurnsAsking, TurnsIn, place_after, place_asking, place_at_once, point_in, refusal_in}

-- A step of the table that a machine makes is one of the statement's: under the machine's point, and with what that makes of the account. It doesn't prune.
abbrev pub MachineTurns : Type 0
MachineTurns = (p : Place) (n table : ℕ) (statement : Statement) (w between v : TableState) (point : Point) (account : Account → Account)
    → p.tables table ≡ w → statement ≢ statements.Work → IsIn p n statement table → DoesAt n w between point account → point ≢ points.Prune → Settles n between v
    → (w.task n ≢ Resting) ⊎ Begins p n w statement (between.task n)
    → (turns : TurnsIn p n statement table v (account (p.accounts n))) × (point_in turns ≡ Some point) × (turns.step.between ≡ between)

-- A step of a machine that may ask for a summary, or take up the first one that is asked for, is one of its statement's, with what that makes of the account
-- and of the summaries that are asked for; and so is one that drops exactly the dead rows of a block.
abbrev pub MachineAsks : Type 0
MachineAsks = (p : Place) (n table : ℕ) (statement : Statement) (w between v : TableState) (point : Point) (account : Account) (queue : List Asked)
    → p.tables table ≡ w → TakesUp statement (w.task n) p.queue queue → IsIn p n statement table → (does : Does n w between) → does_point n w between does ≡ Some point
    → ((b : Accounts) → AccountIs n (record (accounts_at p table) { queue = queue }) b account → Adds n w between does (accounts_at p table) b)
    → PrunesTheDead p does → Settles n between v → (w.task n ≢ Resting) ⊎ Begins p n w statement (between.task n)
    → (turns : TurnsAsking p n statement table v account queue) × (point_in turns ≡ Some point) × (turns.step.between ≡ between)

-- it goes on
abbrev pub TurnGoesOn : Type 0
TurnGoesOn = (p : Place) (n table : ℕ) (hand : HandAt) (v : TableState) (account : Account) (counts : ℕ → Bool) (point : Point) (c : Course)
    → (turns : TurnsIn p n hand.statement table v account) → point_in turns ≡ Some point → v.task n ≢ Resting → MakesAt point p n hand c
    → StepsTo p n hand (Moved point) (place_after p n table (Some (record hand { answers = c.answers })) v account counts c.journal)

-- it goes on, and may have asked for a summary
abbrev pub TurnAsks : Type 0
TurnAsks = (p : Place) (n table : ℕ) (hand : HandAt) (v : TableState) (account : Account) (queue : List Asked) (counts : ℕ → Bool) (point : Point) (c : Course)
    → (turns : TurnsAsking p n hand.statement table v account queue) → point_in turns ≡ Some point → v.task n ≢ Resting → MakesAt point p n hand c
    → StepsTo p n hand (Moved point) (place_asking p n table (Some (record hand { answers = c.answers })) v account counts c.journal queue)

-- it replies
abbrev pub TurnReplies : Type 0
TurnReplies = (p : Place) (n table : ℕ) (hand : HandAt) (v : TableState) (account : Account) (counts : ℕ → Bool) (point : Point) (c : Course) (reply : Reply)
    → (turns : TurnsIn p n hand.statement table v account) → point_in turns ≡ Some point → v.task n ≡ Resting → MakesAll p.opening n hand.statement (course_of p hand) c
    → Some reply ≡ reply_after p.layout table (turns.step.between.task n) account c.answers hand.statement
    → StepsTo p n hand (Ended reply) (place_after p n table None v account counts c.journal)

-- it meets a conflict
abbrev pub TurnConflicts : Type 0
TurnConflicts = (p : Place) (n table : ℕ) (hand : HandAt) (v : TableState) (account : Account) (counts : ℕ → Bool) (id : RowId) (c : Course)
    → (turns : TurnsIn p n hand.statement table v account) → refusal_in turns ≡ Some (HasConflict id) → MakesAll p.opening n hand.statement (course_of p hand) c
    → Some (replies.Refused (refusals.Conflict id)) ≡ reply_to_statement (full_table p.layout) hand.statement c.answers
    → StepsTo p n hand (Ended (replies.Refused (refusals.Conflict id))) (place_after p n table None v account counts c.journal)

-- it is refused
abbrev pub TurnIsRefused : Type 0
TurnIsRefused = (p : Place) (n table : ℕ) (hand : HandAt) (v : TableState) (account : Account) (counts : ℕ → Bool) (why : causes.Refusal) (tag : Tag) (told : Refusal)
    → (turns : TurnsIn p n hand.statement table v account) → refusal_in turns ≡ Some why → RefusesSo p table hand.statement why tag told
    → StepsTo p n hand (Ended (replies.Refused told)) (place_after p n table None v account counts (p.journal ++ refused_request n tag hand.statement))

-- it is one request and touches no table
abbrev pub IsOneRequest : Type 0
IsOneRequest = (p : Place) (n : ℕ) (hand : HandAt) (counts : ℕ → Bool) (c : Course) (reply : Reply) → IsAtOnce p hand.statement
    → MakesAll p.opening n hand.statement (course_of p hand) c → Some reply ≡ reply_to_statement (full_table p.layout) hand.statement c.answers
    → StepsTo p n hand (Ended reply) (place_at_once p n counts c.journal)

-- it lacks memory before it has a step, or a number; or it is work, and no summary is asked for
abbrev pub LacksMemoryThere : Type 0
LacksMemoryThere = (p : Place) (n : ℕ) (hand : HandAt) (counts : ℕ → Bool) → MayLackMemory p n hand.statement → IsAtRest p n
    → StepsTo p n hand (Ended (replies.Refused refusals.Memory)) (place_at_once p n counts (p.journal ++ refused_request n tags.NoMemory hand.statement))

abbrev pub LacksNumber : Type 0
LacksNumber = (p : Place) (n : ℕ) (hand : HandAt) (counts : ℕ → Bool) → hand.statement ≡ statements.Begin → (database_at p).next ≡ numbers_of p.layout
    → StepsTo p n hand (Ended (replies.Refused (refusals.Full (codes "status") (numbers_of p.layout)))) (place_at_once p n counts p.journal)

abbrev pub FindsNothingAsked : Type 0
FindsNothingAsked = (p : Place) (n : ℕ) (hand : HandAt) (counts : ℕ → Bool) → hand.statement ≡ statements.Work → IsAtRest p n → p.queue ≡ []
    → StepsTo p n hand (Ended replies.Idle) (place_at_once p n counts p.journal)

-- it waits, and is told for whom
abbrev pub TurnWaits : Type 0
TurnWaits = (p : Place) (n table : ℕ) (hand : HandAt) (w : TableState) (task : Task) (waited : WaitedFor) (by : ℕ) → p.tables table ≡ w → IsIn p n hand.statement table → w.task n ≡ task
    → (task ≢ Resting) ⊎ IsTrue (takes_lock hand.statement) → (blocked : IsBlocked w n task) → waits_for w n task blocked ≡ waited → IsHeldBy w waited by
    → StepsTo p n hand (Waits (refusals.Blocked (what_of p.layout table waited) (name_of p by))) p
