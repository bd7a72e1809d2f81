-- The entries that a mark of a delete makes, and what they are answered.
use Rattle.std.proofs.Common.{◌≡◌, ℕ, zero, suc, ◌+◌, Bool, true, false, not, ◌&&◌, List, [], ◌∷◌, ◌++◌, drop, replicate, All, Option, None, Some, refl, sym, ap, ◌∙◌, subst, append_assoc, arith}
use Rattle.std.specs.Option.{option_map}
use Rattle.std.specs.FinMap as maps
use Rattle.std.proofs.lemmas.List.Elements.{All-cons, All-nil}
use Rattle.block_model.specs.declared.row.Row.{Row}
use Rattle.block_model.specs.declared.row.RowId.{RowId}
use Rattle.block_model.specs.declared.row.Query.{Query}
use Rattle.block_model.specs.declared.reply.Refusal.TheVariants as refusals
use Rattle.block_model.specs.declared.reply.Reply.TheVariants as replies
use Rattle.block_model.specs.declared.request.Entry.{Entry}
use Rattle.block_model.specs.declared.request.Request.TheVariants as requests
use Rattle.block_model.specs.DatabaseState.{DatabaseState, OpenTransaction}
use Rattle.block_model.specs.RequestEffect.{Answer, Found, Marked, Conflict, after_request, effect, effect_at, effect_is, is_legal_request, is_legal_at, reply_to, rows_found}
use Rattle.block_model.specs.SerialRun.{IsLegal, is_legal, is_legal-append, serial_run, serial_run-append}
use Rattle.store_layout.specs.declared.statement.Statement.{Statement}
use Rattle.store_layout.specs.declared.statement.Statement.TheVariants as statements
use Rattle.store_layout.specs.StatementRequests.{deleted_reply, look_entry, mark_entry, marks_reply, request_entry}
use Rattle.script_semantics.specs.Requests.{Course, MakesAll, MakesMark, Enters, First, Further, NoneLeft, OneMore, entered, next_request, row_to_mark}
use Rattle.session_parts.specs.FrontLaws.{IsWithin}
use Rattle.session_transactions.specs.Looks.{look_entries}
use Rattle.session_transactions.proofs.Copies.{nil-cons, same_head, same_tail}

-- ---- the row to mark next, behind so many marks

pub next_to_mark : (rows : List Row) (k : ℕ) (row : Row) (more : List Row) → drop k rows ≡ row ∷ more → row_to_mark rows (replicate k Marked) ≡ Some row
next_to_mark [] zero row more is = absurd (nil-cons is)
next_to_mark (r ∷ rows) zero row more is = ap Some (same_head is)
next_to_mark [] (suc k) row more is = absurd (nil-cons is)
next_to_mark (r ∷ rows) (suc k) row more is = next_to_mark rows k row more is

pub none_to_mark : (rows : List Row) (k : ℕ) → drop k rows ≡ [] → row_to_mark rows (replicate k Marked) ≡ None
none_to_mark [] zero is = refl
none_to_mark (r ∷ rows) zero is = absurd (nil-cons (sym is))
none_to_mark [] (suc k) is = refl
none_to_mark (r ∷ rows) (suc k) is = none_to_mark rows k is

pub none_behind : (rows : List Row) (k : ℕ) (id : RowId) (row : Row) (more : List Row) → drop k rows ≡ row ∷ more → row_to_mark rows (replicate k Marked ++ Conflict id ∷ []) ≡ None
none_behind [] zero id row more is = refl
none_behind (r ∷ rows) zero id row more is = refl
none_behind [] (suc k) id row more is = refl
none_behind (r ∷ rows) (suc k) id row more is = none_behind rows k id row more is

pub drop_next : (rows : List Row) (k : ℕ) (row : Row) (more : List Row) → drop k rows ≡ row ∷ more → drop (suc k) rows ≡ more
drop_next [] zero row more is = absurd (nil-cons is)
drop_next (r ∷ rows) zero row more is = same_tail is
drop_next [] (suc k) row more is = absurd (nil-cons is)
drop_next (r ∷ rows) (suc k) row more is = drop_next rows k row more is

pub one_marked_more : (k : ℕ) → replicate k Marked ++ Marked ∷ [] ≡ replicate (suc k) Marked
one_marked_more zero = refl
one_marked_more (suc k) = ap (λ l. Marked ∷ l) (one_marked_more k)

all_marked : (count k : ℕ) → marks_reply count (replicate k Marked) ≡ Some (replies.Deleted (count + k))
all_marked count zero = ap (λ n. Some (replies.Deleted n)) (omega arith)
all_marked count (suc k) = all_marked (count + 1) k ∙ ap (λ n. Some (replies.Deleted n)) (omega arith)

in_conflict : (count k : ℕ) (id : RowId) → marks_reply count (replicate k Marked ++ Conflict id ∷ []) ≡ Some (replies.Refused (refusals.Conflict id))
in_conflict count zero id = refl
in_conflict count (suc k) id = in_conflict (count + 1) k id

-- the reply to a delete of so many rows, and to one that met a conflict
pub deleted : (rows : List Row) (k : ℕ) → deleted_reply (Found rows ∷ replicate k Marked) ≡ Some (replies.Deleted k)
deleted rows k = all_marked 0 k ∙ ap (λ n. Some (replies.Deleted n)) (omega arith)

pub met_conflict : (rows : List Row) (k : ℕ) (id : RowId) → deleted_reply (Found rows ∷ (replicate k Marked ++ Conflict id ∷ [])) ≡ Some (replies.Refused (refusals.Conflict id))
met_conflict rows k id = in_conflict 0 k id

-- ---- one mark, with its look where it is the first

-- the entries of a mark of that row: its look comes before the first
abbrev pub entries_of : (first : Bool) → ℕ → Query → Row → List Entry
entries_of true n q row = look_entry n q ∷ mark_entry n q.table row ∷ []
entries_of false n q row = mark_entry n q.table row ∷ []

-- The look is still to be made, and finds these rows; or it found them, and so many of them are marked.
abbrev pub HasMarked : (first : Bool) → (found rows : List Row) → (k : ℕ) → List Answer → Type 0
HasMarked true found rows k answers = (answers ≡ []) × (found ≡ rows) × (k ≡ 0)
HasMarked false found rows k answers = answers ≡ Found rows ∷ replicate k Marked

-- the course with the mark, whose answers to marks are these
pub record IsMarked (opening : DatabaseState) (n : ℕ) (q : Query) (c : Course) (rows : List Row) (entries : List Entry) (marks : List Answer) (after : DatabaseState) (f : Course) : Type 0 where
  pub made : MakesMark opening n (statements.Delete q) c f
  pub journal : f.journal ≡ c.journal ++ entries
  pub answers : f.answers ≡ Found rows ∷ marks
  pub run : serial_run opening f.journal ≡ after

module _ (opening : DatabaseState) (n : ℕ) (q : Query) (c : Course) (x : OpenTransaction) (got : maps.get (serial_run opening c.journal).sessions n ≡ Some x) where
  abbrev now : DatabaseState
  now = serial_run opening c.journal

  abbrev look : Entry
  look = look_entry n q

  looks : effect now look ≡ (now, Found (rows_found x q))
  looks = effect_is now look ∙ ap (λ o. effect_at o now look) got

  module _ (rows : List Row) (row : Row) (more : List Row) (answer : Answer) (after : DatabaseState) (does : effect now (mark_entry n q.table row) ≡ (after, answer)) where
    abbrev mark : Entry
    mark = mark_entry n q.table row

    further : (k : ℕ) → c.answers ≡ Found rows ∷ replicate k Marked → drop k rows ≡ row ∷ more
        → IsMarked opening n q c rows (mark ∷ []) (replicate k Marked ++ answer ∷ []) after (entered opening c mark)
    further k answers left = record {
      made = Further (Found rows) (replicate k Marked) (entered opening c mark) answers
          (Enters mark (ap (next_request n (statements.Delete q)) answers ∙ ap (option_map (mark_entry n q.table)) (next_to_mark rows k row more left)));
      journal = refl;
      answers = ap (λ l. l ++ reply_to now mark ∷ []) answers ∙ ap (λ a. Found rows ∷ (replicate k Marked ++ a ∷ [])) (ap (λ d. d.1) does);
      run = serial_run-append opening c.journal (mark ∷ []) ∙ ap (λ d. d.0) does;
    }

    abbrev looked : Course
    looked = entered opening c look

    looked_answers : c.answers ≡ [] → rows_found x q ≡ rows → looked.answers ≡ Found rows ∷ []
    looked_answers none found = ap (λ l. l ++ reply_to now look ∷ []) none ∙ ap (λ a. a ∷ []) (ap (λ d. d.1) looks ∙ ap Found found)

    looked_run : serial_run opening looked.journal ≡ now
    looked_run = serial_run-append opening c.journal (look ∷ []) ∙ ap (λ d. d.0) looks

    first_mark : c.answers ≡ [] → rows_found x q ≡ rows → rows ≡ row ∷ more
        → IsMarked opening n q c rows (look ∷ mark ∷ []) (answer ∷ []) after (entered opening looked mark)
    first_mark none found left = record {
      made = First looked (entered opening looked mark) none (Enters look (ap (next_request n (statements.Delete q)) none))
          (Enters mark (ap (next_request n (statements.Delete q)) (looked_answers none found) ∙ ap (λ l. option_map (mark_entry n q.table) (row_to_mark l [])) left));
      journal = append_assoc c.journal (look ∷ []) (mark ∷ []);
      answers = ap (λ l. l ++ reply_to (serial_run opening looked.journal) mark ∷ []) (looked_answers none found) ∙ ap (λ s. Found rows ∷ reply_to s mark ∷ []) looked_run
          ∙ ap (λ a. Found rows ∷ a ∷ []) (ap (λ d. d.1) does);
      run = serial_run-append opening looked.journal (mark ∷ []) ∙ ap (λ s. after_request s mark) looked_run ∙ ap (λ d. d.0) does;
    }

    pub one_mark : (first : Bool) (k : ℕ) → HasMarked first (rows_found x q) rows k c.answers → drop k rows ≡ row ∷ more
        → (f : Course) × IsMarked opening n q c rows (entries_of first n q row) (replicate k Marked ++ answer ∷ []) after f
    one_mark false k answers left = (entered opening c mark, further k answers left)
    one_mark true k has left = (
      entered opening looked mark,
      subst (λ j. IsMarked opening n q c rows (look ∷ mark ∷ []) (replicate j Marked ++ answer ∷ []) after (entered opening looked mark)) (sym has.2)
          (first_mark has.0 has.1 (subst (λ j. drop j rows ≡ row ∷ more) has.2 left)),
    )

  -- the entries are legal where the row is in the copy of a transaction that hasn't failed
  legal_request : (e : Entry) (s : DatabaseState) → s ≡ now → e.session ≡ n → is_legal_at (Some x) e.request e.tag ≡ true → is_legal_request s e ≡ true
  legal_request e s is own legal = ap (λ t. is_legal_at (maps.get t.sessions e.session) e.request e.tag) is ∙ ap (λ m. is_legal_at (maps.get now.sessions m) e.request e.tag) own
      ∙ ap (λ o. is_legal_at o e.request e.tag) got ∙ legal

  pub legal_mark : (first : Bool) (row : Row) → IsLegal opening c.journal → x.failed ≡ false → maps.contains_key x.view row.id ≡ true → IsLegal opening (c.journal ++ entries_of first n q row)
  legal_mark first row legal whole in_copy = is_legal-append opening c.journal (entries_of first n q row) ∙ ap (λ b. b && is_legal now (entries_of first n q row)) legal ∙ behind first
    where
      may : (b : Bool) → maps.contains_key x.view row.id ≡ true → b ≡ false → (not b && maps.contains_key x.view row.id && true) ≡ true
      may b has off = ap (λ a. not a && maps.contains_key x.view row.id && true) off ∙ ap (λ a. a && true) has

      marks : (s : DatabaseState) → s ≡ now → is_legal_request s (mark_entry n q.table row) ≡ true
      marks s is = legal_request (mark_entry n q.table row) s is refl (may x.failed in_copy whole)

      behind : (first : Bool) → is_legal now (entries_of first n q row) ≡ true
      behind false = ap (λ b. b && true) (marks now refl)
      behind true = ap (λ b. b && is_legal (after_request now look) (mark_entry n q.table row ∷ [])) (legal_request look now refl refl (ap (λ a. not a && true) whole)) ∙ ap (λ b. b && true) (marks (after_request now look) (ap (λ d. d.0) looks))

-- none of the entries begins or ends a transaction
abbrev IsWithinOne : Entry → Type 0
IsWithinOne e = IsWithin e.request

mark_within : (n table : ℕ) (id : RowId) → All IsWithinOne (request_entry n table (requests.Mark id) ∷ [])
mark_within n table id = All-cons IsWithinOne (request_entry n table (requests.Mark id)) [] tt (All-nil IsWithinOne)

pub all_within : (looks : Option Query) (n table : ℕ) (id : RowId) → All IsWithinOne (look_entries n looks ++ request_entry n table (requests.Mark id) ∷ [])
all_within None n table id = mark_within n table id
all_within (Some query) n table id = All-cons IsWithinOne (look_entry n query) (request_entry n table (requests.Mark id) ∷ []) tt (mark_within n table id)

-- a mark behind which none is left is the last of all
pub all_made : (opening : DatabaseState) (n : ℕ) (statement : Statement) (c f : Course) → MakesMark opening n statement c f → next_request n statement f.answers ≡ None → MakesAll opening n statement c f
all_made opening n statement c f (First d _ none one two) last = OneMore c d f one (OneMore d f f two (NoneLeft f last))
all_made opening n statement c f (Further first more _ some one) last = OneMore c f f one (NoneLeft f last)

-- and behind these marks one is left, or none
pub one_left : (n : ℕ) (q : Query) (rows : List Row) (k : ℕ) (row : Row) (more : List Row) (answers : List Answer) → answers ≡ Found rows ∷ replicate k Marked → drop k rows ≡ row ∷ more
    → next_request n (statements.Delete q) answers ≡ Some (mark_entry n q.table row)
one_left n q rows k row more answers is left = ap (next_request n (statements.Delete q)) is ∙ ap (option_map (mark_entry n q.table)) (next_to_mark rows k row more left)

pub none_left : (n : ℕ) (q : Query) (rows : List Row) (k : ℕ) (answers : List Answer) → answers ≡ Found rows ∷ replicate k Marked → drop k rows ≡ [] → next_request n (statements.Delete q) answers ≡ None
none_left n q rows k answers is left = ap (next_request n (statements.Delete q)) is ∙ ap (option_map (mark_entry n q.table)) (none_to_mark rows k left)

pub none_behind_it : (n : ℕ) (q : Query) (rows : List Row) (k : ℕ) (id : RowId) (row : Row) (more : List Row) (answers : List Answer) → answers ≡ Found rows ∷ (replicate k Marked ++ Conflict id ∷ [])
    → drop k rows ≡ row ∷ more → next_request n (statements.Delete q) answers ≡ None
none_behind_it n q rows k id row more answers is left = ap (next_request n (statements.Delete q)) is ∙ ap (option_map (mark_entry n q.table)) (none_behind rows k id row more left)
