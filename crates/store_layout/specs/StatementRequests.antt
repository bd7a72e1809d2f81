-- which requests a statement is, and its reply ("Transaction Isolation": a statement works on its transaction's copy)
use Rattle.std.specs.Prelude.{ℕ, ◌+◌, Bool, true, false, List, [], ◌∷◌, Option, None, Some, if◌then◌else◌}
use Rattle.std.specs.FinMap as map
use Rattle.block_model.specs.declared.row.Row.{Row}
use Rattle.block_model.specs.declared.row.Query.{Query}
use Rattle.block_model.specs.declared.request.Entry.{Entry}
use Rattle.block_model.specs.declared.request.Request.{Request}
use Rattle.block_model.specs.declared.request.Request.TheVariants as requests
use Rattle.block_model.specs.declared.request.Tag.{Tag}
use Rattle.block_model.specs.declared.request.Tag.TheVariants as tags
use Rattle.block_model.specs.declared.reply.Reply.{Reply}
use Rattle.block_model.specs.declared.reply.Reply.TheVariants as replies
use Rattle.block_model.specs.declared.reply.Refusal.{Refusal}
use Rattle.block_model.specs.declared.reply.Refusal.TheVariants as refusals
use Rattle.block_model.specs.DatabaseState.{DatabaseState, OpenTransaction}
use Rattle.block_model.specs.RequestEffect.{Answer, Begun, Inserted, Found, Marked, Conflict, Committed, RolledBack, Full, NoMemory, after_request, reply_to}
use Rattle.store_layout.specs.declared.statement.Statement.{Statement}
use Rattle.store_layout.specs.declared.statement.Statement.TheVariants as statements

-- a request of a session, and how it went
abbrev pub tagged_entry : ℕ → ℕ → Request → Tag → Entry
tagged_entry n table request tag = record { session = n; table = table; request = request; tag = tag }

-- a request for which there is room and memory
abbrev pub request_entry : ℕ → ℕ → Request → Entry
request_entry n table request = tagged_entry n table request tags.Ok

abbrev pub look_entry : ℕ → Query → Entry
look_entry n q = request_entry n q.table (requests.Look q)

abbrev pub mark_entry : ℕ → ℕ → Row → Entry
mark_entry n table row = request_entry n table (requests.Mark row.id)

-- nothing is marked behind a conflict
abbrev pub unless_conflict : Answer → List Entry → List Entry
unless_conflict (Conflict id) entries = []
unless_conflict answer entries = entries

-- a mark of each row, in order, up to and with the first that conflicts
abbrev pub mark_entries : DatabaseState → ℕ → ℕ → List Row → List Entry
mark_entries s n table [] = []
mark_entries s n table (row ∷ rows) =
    mark_entry n table row ∷ unless_conflict (reply_to s (mark_entry n table row)) (mark_entries (after_request s (mark_entry n table row)) n table rows)

-- the rows that a look found
abbrev pub found_in : Answer → List Row
found_in (Found rows) = rows
found_in answer = []

-- a look goes well, or memory is short for it
abbrev pub look_tag : Bool → Tag
look_tag short = if short then tags.NoMemory else tags.Ok

-- a put goes well, or memory is short for it, or its table is full
abbrev pub put_tag : Bool → Bool → Tag
put_tag short full = if short then tags.NoMemory else (if full then tags.Full else tags.Ok)

-- a begin for which memory is short is no request
abbrev pub begin_entries : ℕ → Bool → List Entry
begin_entries n short = if short then [] else request_entry n 0 requests.Begin ∷ []

-- a delete looks, and then marks what it found; its memory is taken before the first mark
abbrev pub delete_entries : DatabaseState → ℕ → Bool → Query → List Entry
delete_entries s n true q = tagged_entry n q.table (requests.Look q) tags.NoMemory ∷ []
delete_entries s n false q = look_entry n q ∷ mark_entries s n q.table (found_in (reply_to s (look_entry n q)))

-- The requests that a statement of session n is, from state s on, where memory is short or isn't, and the table that it would put a row
-- into is full or isn't: one each, but a delete has one for each row too. A commit and a rollback take no memory. Explain and
-- maintenance aren't requests of a transaction.
abbrev pub requests_of : DatabaseState → ℕ → Bool → Bool → Statement → List Entry
requests_of s n short full statements.Begin = begin_entries n short
requests_of s n short full statements.Commit = request_entry n 0 requests.Commit ∷ []
requests_of s n short full statements.Rollback = request_entry n 0 requests.Rollback ∷ []
requests_of s n short full (statements.Insert table values) = tagged_entry n table (requests.Put values) (put_tag short full) ∷ []
requests_of s n short full (statements.Select q) = tagged_entry n q.table (requests.Look q) (look_tag short) ∷ []
requests_of s n short full (statements.Delete q) = delete_entries s n short q
requests_of s n short full statement = []

-- Memory was short.
abbrev pub want_of_memory : Option Reply
want_of_memory = Some (replies.Refused refusals.Memory)

-- The replies to what the requests of each statement are answered, one after the other; no other answers come.

-- a begin for which memory is short is no request
abbrev pub begin_reply : List Answer → Option Reply
begin_reply [] = want_of_memory
begin_reply (Begun t ∷ []) = Some (replies.Begun t)
begin_reply answers = None

-- a commit, and a rollback
abbrev pub end_reply : List Answer → Option Reply
end_reply (Committed ∷ []) = Some replies.Committed
end_reply (RolledBack ∷ []) = Some replies.RolledBack
end_reply answers = None

-- an insert, where that is what a full table is answered
abbrev pub insert_reply : Refusal → List Answer → Option Reply
insert_reply full (Inserted id ∷ []) = Some (replies.Inserted id)
insert_reply full (Full ∷ []) = Some (replies.Refused full)
insert_reply full (NoMemory ∷ []) = want_of_memory
insert_reply full answers = None

abbrev pub select_reply : List Answer → Option Reply
select_reply (Found rows ∷ []) = Some (replies.Found rows)
select_reply (NoMemory ∷ []) = want_of_memory
select_reply answers = None

-- how many rows were marked, or the conflict that ended it
abbrev pub marks_reply : ℕ → List Answer → Option Reply
marks_reply count [] = Some (replies.Deleted count)
marks_reply count (Marked ∷ answers) = marks_reply (count + 1) answers
marks_reply count (Conflict id ∷ []) = Some (replies.Refused (refusals.Conflict id))
marks_reply count answers = None

-- a delete is answered the rows that it found and then its marks
abbrev pub deleted_reply : List Answer → Option Reply
deleted_reply (Found rows ∷ answers) = marks_reply 0 answers
deleted_reply (NoMemory ∷ []) = want_of_memory
deleted_reply answers = None

-- The reply to a statement of a transaction whose requests got these answers. What explain and maintenance are answered isn't said
-- here.
abbrev pub reply_to_statement : (ℕ → Refusal) → Statement → List Answer → Option Reply
reply_to_statement full statements.Begin answers = begin_reply answers
reply_to_statement full statements.Commit answers = end_reply answers
reply_to_statement full statements.Rollback answers = end_reply answers
reply_to_statement full (statements.Insert table values) answers = insert_reply (full table) answers
reply_to_statement full (statements.Select q) answers = select_reply answers
reply_to_statement full (statements.Delete q) answers = deleted_reply answers
reply_to_statement full statement answers = None

-- Why a session's statement of a transaction isn't taken: there is no transaction under way, or one already, or it has failed. Ending a
-- failed transaction is taken, and so is what isn't a request of a transaction.
abbrev pub submission_refusal : Option OpenTransaction → Statement → Option Refusal
submission_refusal None statements.Begin = None
submission_refusal None statements.Commit = Some refusals.NoTransaction
submission_refusal None statements.Rollback = Some refusals.NoTransaction
submission_refusal None (statements.Insert table values) = Some refusals.NoTransaction
submission_refusal None (statements.Select q) = Some refusals.NoTransaction
submission_refusal None (statements.Delete q) = Some refusals.NoTransaction
submission_refusal (Some x) statements.Begin = Some refusals.UnderWay
submission_refusal (Some x) (statements.Insert table values) = if x.failed then Some refusals.Doomed else None
submission_refusal (Some x) (statements.Select q) = if x.failed then Some refusals.Doomed else None
submission_refusal (Some x) (statements.Delete q) = if x.failed then Some refusals.Doomed else None
submission_refusal transaction statement = None

-- why the statement of session n isn't taken in state s
abbrev pub refusal_at : DatabaseState → ℕ → Statement → Option Refusal
refusal_at s n statement = submission_refusal (map.get s.sessions n) statement
