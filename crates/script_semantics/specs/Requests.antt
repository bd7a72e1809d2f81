-- Which requests a statement of a transaction makes, one after the other, each by what those before it were answered.
use Rattle.std.specs.Prelude.{◌≡◌, ℕ, List, [], ◌∷◌, ◌++◌, Option, None, Some}
use Rattle.std.specs.Option.{option_map}
use Rattle.block_model.specs.declared.row.Row.{Row}
use Rattle.block_model.specs.declared.request.Entry.{Entry}
use Rattle.block_model.specs.declared.request.Request.TheVariants as requests
use Rattle.block_model.specs.declared.request.Tag.{Tag}
use Rattle.block_model.specs.DatabaseState.{DatabaseState}
use Rattle.block_model.specs.RequestEffect.{Answer, Found, Conflict, reply_to}
use Rattle.block_model.specs.SerialRun.{serial_run}
use Rattle.store_layout.specs.declared.statement.Statement.{Statement}
use Rattle.store_layout.specs.declared.statement.Statement.TheVariants as statements
use Rattle.store_layout.specs.StatementRequests.{tagged_entry, request_entry, look_entry, mark_entry}

-- the row to mark next, of those found: the first one without an answer, and none behind a conflict
abbrev pub row_to_mark : List Row → List Answer → Option Row
row_to_mark [] marks = None
row_to_mark (row ∷ rows) [] = Some row
row_to_mark (row ∷ rows) (Conflict id ∷ marks) = None
row_to_mark (row ∷ rows) (mark ∷ marks) = row_to_mark rows marks

-- one request each; but a delete looks, and then marks each row that it found, up to the first conflict
abbrev pub next_request : ℕ → Statement → List Answer → Option Entry
next_request n statements.Begin [] = Some (request_entry n 0 requests.Begin)
next_request n statements.Commit [] = Some (request_entry n 0 requests.Commit)
next_request n statements.Rollback [] = Some (request_entry n 0 requests.Rollback)
next_request n (statements.Insert table values) [] = Some (request_entry n table (requests.Put values))
next_request n (statements.Select q) [] = Some (look_entry n q)
next_request n (statements.Delete q) [] = Some (look_entry n q)
next_request n (statements.Delete q) (Found rows ∷ marks) = option_map (mark_entry n q.table) (row_to_mark rows marks)
next_request n statement answers = None

-- the request that a refusal of a statement enters: that which failed, with its tag
abbrev pub refused_request : ℕ → Tag → Statement → List Entry
refused_request n tag (statements.Insert table values) = tagged_entry n table (requests.Put values) tag ∷ []
refused_request n tag (statements.Select q) = tagged_entry n q.table (requests.Look q) tag ∷ []
refused_request n tag (statements.Delete q) = tagged_entry n q.table (requests.Look q) tag ∷ []
refused_request n tag statement = []

-- a journal, and what a statement's requests in it were answered
pub record Course : Type 0 where
  pub journal : List Entry
  pub answers : List Answer

abbrev pub entered : DatabaseState → Course → Entry → Course
entered opening c e = record { journal = c.journal ++ e ∷ []; answers = c.answers ++ reply_to (serial_run opening c.journal) e ∷ [] }

-- the statement's next request is entered
pub data MakesOne (opening : DatabaseState) (n : ℕ) (statement : Statement) (c : Course) : Course → Type 0 where
  Enters : (e : Entry) → next_request n statement c.answers ≡ Some e → MakesOne opening n statement c (entered opening c e)

-- all that are left
pub data MakesAll (opening : DatabaseState) (n : ℕ) (statement : Statement) : Course → Course → Type 0 where
  NoneLeft : (c : Course) → next_request n statement c.answers ≡ None → MakesAll opening n statement c c
  OneMore : (c d f : Course) → MakesOne opening n statement c d → MakesAll opening n statement d f → MakesAll opening n statement c f

-- a mark; before the first one stands the look
pub data MakesMark (opening : DatabaseState) (n : ℕ) (statement : Statement) (c : Course) : Course → Type 0 where
  First : (d f : Course) → c.answers ≡ [] → MakesOne opening n statement c d → MakesOne opening n statement d f → MakesMark opening n statement c f
  Further : (first : Answer) (more : List Answer) (d : Course) → c.answers ≡ first ∷ more → MakesOne opening n statement c d → MakesMark opening n statement c d
