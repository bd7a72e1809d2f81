-- what one request does to a database of private copies, and what it is answered ("Transaction Isolation", repeatable
-- read: a copy is taken at the begin and merged at the commit, and a row that a concurrent transaction deleted can't be
-- deleted again)
use Rattle.std.specs.Prelude.{◌≡◌, ℕ, ◌+◌, Bool, true, false, not, ◌&&◌, ◌||◌, ◌==◌, List, [], ◌∷◌, filter, Option, None, Some, if◌then◌else◌, refl}
use Rattle.std.specs.List.{list_any}
use Rattle.std.specs.FinMap as map
use Rattle.std.specs.FinSet as set
use Rattle.block_model.specs.declared.value.Value.{Value}
use Rattle.block_model.specs.declared.row.RowId.{RowId}
use Rattle.block_model.specs.declared.row.Row.{Row}
use Rattle.block_model.specs.declared.row.Query.{Query}
use Rattle.block_model.specs.declared.request.Entry.{Entry}
use Rattle.block_model.specs.declared.request.Tag.{Tag}
use Rattle.block_model.specs.declared.request.Tag.TheVariants as tags
use Rattle.block_model.specs.declared.request.Request.{Request}
use Rattle.block_model.specs.declared.request.Request.TheVariants as requests
use Rattle.block_model.specs.RowMatches.{row_matches}
use Rattle.block_model.specs.TableState.{TableState, rows_in}
use Rattle.block_model.specs.DatabaseState.{DatabaseState, OpenTransaction}

-- what a request is answered
pub data Answer : Type 0 where
  Begun : ℕ → Answer
  Inserted : RowId → Answer
  Found : List Row → Answer
  Marked : Answer
  Conflict : RowId → Answer
  Committed : Answer
  RolledBack : Answer
  Full : Answer
  NoMemory : Answer
  -- a begin with a transaction under way, or another request with none
  Illegal : Answer

abbrev pub with_transaction : DatabaseState → ℕ → OpenTransaction → DatabaseState
with_transaction s n x = record s { sessions = map.insert s.sessions n x }

abbrev pub without_transaction : DatabaseState → ℕ → DatabaseState
without_transaction s n = record s { sessions = map.remove s.sessions n }

-- a transaction begins with a copy of what is committed
abbrev pub new_transaction : DatabaseState → OpenTransaction
new_transaction s = record { t = s.next; next_k = 0; view = s.table; marks = set.empty; failed = false }

abbrev pub after_begin : DatabaseState → ℕ → DatabaseState
after_begin s n = record (with_transaction s n (new_transaction s)) { next = s.next + 1 }

abbrev pub failed_transaction : OpenTransaction → OpenTransaction
failed_transaction x = record x { failed = true }

abbrev pub after_failure : DatabaseState → ℕ → OpenTransaction → DatabaseState
after_failure s n x = with_transaction s n (failed_transaction x)

-- the row that a put makes
abbrev pub next_row : OpenTransaction → ℕ → List Value → Row
next_row x table values = record { table = table; id = record { t = x.t; k = x.next_k }; values = values }

-- it joins the transaction's own copy
abbrev pub after_put : OpenTransaction → ℕ → List Value → OpenTransaction
after_put x table values = record x { view = map.insert x.view (next_row x table values).id (next_row x table values); next_k = x.next_k + 1 }

-- the rows of its copy that match, in order
abbrev pub rows_found : OpenTransaction → Query → List Row
rows_found x q = filter (row_matches q) (rows_in x.view)

abbrev pub is_own : OpenTransaction → RowId → Bool
is_own x id = id.t == x.t

-- whether another session's transaction has marked the row
abbrev pub marked_elsewhere : DatabaseState → ℕ → RowId → Bool
marked_elsewhere s n id = list_any (λ e. not (e.0 == n) && set.contains e.1.marks id) (map.entries s.sessions)

-- A row of another transaction can't be deleted where it is no longer committed, or another session marked it.
abbrev pub is_conflict : DatabaseState → ℕ → OpenTransaction → RowId → Bool
is_conflict s n x id = not (is_own x id) && (not (map.contains_key s.table id) || marked_elsewhere s n id)

-- a row leaves the copy; another transaction's is kept among the marks
abbrev pub after_mark : OpenTransaction → RowId → OpenTransaction
after_mark x id = record x { view = map.remove x.view id; marks = if is_own x id then x.marks else set.insert x.marks id }

-- a table with these rows too
abbrev pub with_rows : TableState → List (RowId × Row) → TableState
with_rows table [] = table
with_rows table (e ∷ es) = map.insert (with_rows table es) e.0 e.1

-- the transaction's own rows
abbrev pub own_rows : OpenTransaction → TableState
own_rows x = map.retain_keys x.view (is_own x)

-- the table loses the rows of the marks and gains the transaction's own
abbrev pub merged : TableState → OpenTransaction → TableState
merged table x = with_rows (map.retain_keys table (λ id. not (set.contains x.marks id))) (map.entries (own_rows x))

abbrev pub table_after_commit : TableState → OpenTransaction → TableState
table_after_commit table x = if x.failed then table else merged table x

abbrev pub after_commit : DatabaseState → ℕ → OpenTransaction → DatabaseState
after_commit s n x = record (without_transaction s n) { table = table_after_commit s.table x }

-- a request of a session whose transaction is under way
abbrev pub effect_within : DatabaseState → ℕ → OpenTransaction → ℕ → Request → Tag → DatabaseState × Answer
effect_within s n x table (requests.Put values) tags.Ok = (with_transaction s n (after_put x table values), Inserted (next_row x table values).id)
effect_within s n x table (requests.Put values) tags.Full = (after_failure s n x, Full)
effect_within s n x table (requests.Put values) tags.NoMemory = (after_failure s n x, NoMemory)
effect_within s n x table (requests.Look q) tags.NoMemory = (after_failure s n x, NoMemory)
effect_within s n x table (requests.Look q) tag = (s, Found (rows_found x q))
effect_within s n x table (requests.Mark id) tag =
    if is_conflict s n x id then (after_failure s n x, Conflict id)
    else (with_transaction s n (after_mark x id), Marked)
effect_within s n x table requests.Commit tag = (after_commit s n x, if x.failed then RolledBack else Committed)
effect_within s n x table requests.Rollback tag = (without_transaction s n, RolledBack)
effect_within s n x table requests.Begin tag = (s, Illegal)

-- a request of a session that has none
abbrev pub effect_outside : DatabaseState → ℕ → Request → DatabaseState × Answer
effect_outside s n requests.Begin = (after_begin s n, Begun s.next)
effect_outside s n request = (s, Illegal)

abbrev pub effect_at : Option OpenTransaction → DatabaseState → Entry → DatabaseState × Answer
effect_at None s e = effect_outside s e.session e.request
effect_at (Some x) s e = effect_within s e.session x e.table e.request e.tag

-- the state after a request, and its answer; where the request isn't legal, neither means anything
unfoldable pub effect : DatabaseState → Entry → DatabaseState × Answer
effect s e = effect_at (map.get s.sessions e.session) s e

-- by the session's transaction
pub effect_is : (s : DatabaseState) (e : Entry) → effect s e ≡ effect_at (map.get s.sessions e.session) s e
unfolding effect
effect_is s e = refl

abbrev pub after_request : DatabaseState → Entry → DatabaseState
after_request s e = (effect s e).0

abbrev pub reply_to : DatabaseState → Entry → Answer
reply_to s e = (effect s e).1

abbrev pub is_ok_tag : Tag → Bool
is_ok_tag tags.Ok = true
is_ok_tag tags.Full = false
is_ok_tag tags.NoMemory = false

abbrev pub is_look_tag : Tag → Bool
is_look_tag tags.Ok = true
is_look_tag tags.Full = false
is_look_tag tags.NoMemory = true

-- A put may find no room or no memory, a look no memory. A failed transaction only ends, and a row that is marked stands
-- in the copy.
abbrev pub is_legal_within : OpenTransaction → Request → Tag → Bool
is_legal_within x (requests.Put values) tag = not x.failed
is_legal_within x (requests.Look q) tag = not x.failed && is_look_tag tag
is_legal_within x (requests.Mark id) tag = not x.failed && map.contains_key x.view id && is_ok_tag tag
is_legal_within x requests.Commit tag = is_ok_tag tag
is_legal_within x requests.Rollback tag = is_ok_tag tag
is_legal_within x requests.Begin tag = false

abbrev pub is_legal_outside : Request → Tag → Bool
is_legal_outside requests.Begin tag = is_ok_tag tag
is_legal_outside request tag = false

abbrev pub is_legal_at : Option OpenTransaction → Request → Tag → Bool
is_legal_at None request tag = is_legal_outside request tag
is_legal_at (Some x) request tag = is_legal_within x request tag

-- a session begins where it has no transaction, and asks everything else where it has one
abbrev pub is_legal_request : DatabaseState → Entry → Bool
is_legal_request s e = is_legal_at (map.get s.sessions e.session) e.request e.tag

abbrev pub IsLegalRequest : DatabaseState → Entry → Type 0
IsLegalRequest s e = is_legal_request s e ≡ true
