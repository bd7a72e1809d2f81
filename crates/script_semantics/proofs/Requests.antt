-- The requests that a statement makes one by one are those that it makes at once.
use Rattle.std.proofs.Common.{◌≡◌, ℕ, false, List, [], ◌∷◌, ◌++◌, Option, None, Some, refl, sym, ap, ◌∙◌, subst, append_assoc}
use Rattle.std.specs.Option.{option_map}
use Rattle.std.specs.FinMap as map
use Rattle.std.proofs.lemmas.List.{append-nil}
use Rattle.std.proofs.lemmas.Option.{same_Some, none-some}
use Rattle.block_model.specs.declared.row.Row.{Row}
use Rattle.block_model.specs.declared.row.RowId.{RowId}
use Rattle.block_model.specs.declared.row.Query.{Query}
use Rattle.block_model.specs.declared.request.Entry.{Entry}
use Rattle.block_model.specs.DatabaseState.{DatabaseState, OpenTransaction}
use Rattle.block_model.specs.RequestEffect.{Answer, Begun, Inserted, Found, Marked, Conflict, Committed, RolledBack, Full, NoMemory, Illegal, reply_to, after_request, effect_at, effect_is}
use Rattle.block_model.specs.SerialRun.{serial_run, serial_run-append, replies_to}
use Rattle.store_layout.specs.declared.statement.Statement.{Statement}
use Rattle.store_layout.specs.declared.statement.Statement.TheVariants as statements
use Rattle.store_layout.specs.StatementRequests.{mark_entry, mark_entries, unless_conflict, requests_of, look_entry, found_in}
use Rattle.script_semantics.specs.Requests.{Course, row_to_mark, next_request, entered, Enters, MakesAll, NoneLeft, OneMore}
use Rattle.script_semantics.specs.Laws.{RequestsAreAsOneStep}

-- the requests and answers of a course behind another
pub record IsBehind (opening : DatabaseState) (c f : Course) (entries : List Entry) : Type 0 where
  pub journal_is : f.journal ≡ c.journal ++ entries
  pub answers_are : f.answers ≡ c.answers ++ replies_to (serial_run opening c.journal) entries

behind_none : (opening : DatabaseState) (c : Course) → IsBehind opening c c []
behind_none opening c = record { journal_is = sym (append-nil c.journal); answers_are = sym (append-nil c.answers) }

behind_one : (opening : DatabaseState) (c f : Course) (e : Entry) (more : List Entry) → IsBehind opening (entered opening c e) f more
    → IsBehind opening c f (e ∷ more)
behind_one opening c f e more behind =
    let same = serial_run-append opening c.journal (e ∷ []) in
    record {
      journal_is = behind.journal_is ∙ append_assoc c.journal (e ∷ []) more;
      answers_are = behind.answers_are ∙ ap (λ s. (entered opening c e).answers ++ replies_to s more) same ∙ append_assoc c.answers (reply_to (serial_run opening c.journal) e ∷ []) _;
    }

-- what a conflict ends, and what goes on behind any other answer
data Ends (a : Answer) : Type 0 where
  InConflict : (id : RowId) → a ≡ Conflict id → Ends a
  Without : ((entries : List Entry) → unless_conflict a entries ≡ entries) → ((row : Row) (rows : List Row) (more : List Answer) → row_to_mark (row ∷ rows) (a ∷ more) ≡ row_to_mark rows more) → Ends a

ends : (a : Answer) → Ends a
ends (Conflict id) = InConflict id refl
ends (Begun t) = Without (λ _. refl) (λ _ _ _. refl)
ends (Inserted id) = Without (λ _. refl) (λ _ _ _. refl)
ends (Found rows) = Without (λ _. refl) (λ _ _ _. refl)
ends Marked = Without (λ _. refl) (λ _ _ _. refl)
ends Committed = Without (λ _. refl) (λ _ _ _. refl)
ends RolledBack = Without (λ _. refl) (λ _ _ _. refl)
ends Full = Without (λ _. refl) (λ _ _ _. refl)
ends NoMemory = Without (λ _. refl) (λ _ _ _. refl)
ends Illegal = Without (λ _. refl) (λ _ _ _. refl)

-- of the rows found these are left behind the marks
abbrev AreLeft : List Row → List Answer → List Row → Type 0
AreLeft rows marks left = (more : List Answer) → row_to_mark rows (marks ++ more) ≡ row_to_mark left more

nothing_left : (more : List Answer) → row_to_mark [] more ≡ None
nothing_left more = refl

module _ (opening : DatabaseState) (n : ℕ) (q : Query) (rows : List Row) where
  next_is : (c : Course) (marks : List Answer) (left : List Row) → c.answers ≡ Found rows ∷ marks → AreLeft rows marks left
      → next_request n (statements.Delete q) c.answers ≡ option_map (mark_entry n q.table) (row_to_mark left [])
  next_is c marks left is are =
      ap (next_request n (statements.Delete q)) is ∙ ap (λ l. option_map (mark_entry n q.table) (row_to_mark rows l)) (sym (append-nil marks)) ∙ ap (option_map (mark_entry n q.table)) (are [])

  mark_step : (c f : Course) (e : Entry) (marks : List Answer) (row : Row) (left : List Row) → c.answers ≡ Found rows ∷ marks → AreLeft rows marks (row ∷ left) → e ≡ mark_entry n q.table row
      → ((marks' : List Answer) (left' : List Row) → (entered opening c e).answers ≡ Found rows ∷ marks' → AreLeft rows marks' left'
      → IsBehind opening (entered opening c e) f (mark_entries (serial_run opening (entered opening c e).journal) n q.table left'))
      → IsBehind opening c f (mark_entries (serial_run opening c.journal) n q.table (row ∷ left))
  mark_step c f e marks row left is are same further = subst (λ x. IsBehind opening c f (x ∷ unless_conflict (reply_to s x) (mark_entries (after_request s x) n q.table left))) same (by (ends (reply_to s e)))
    where
      s : DatabaseState
      s = serial_run opening c.journal

      on : (then : List Row) → ((extra : List Answer) → row_to_mark (row ∷ left) (reply_to s e ∷ extra) ≡ row_to_mark then extra)
          → IsBehind opening (entered opening c e) f (mark_entries (after_request s e) n q.table then)
      on then goes = subst (λ t. IsBehind opening (entered opening c e) f (mark_entries t n q.table then)) (serial_run-append opening c.journal (e ∷ []))
          (further (marks ++ reply_to s e ∷ []) then (ap (λ l. l ++ reply_to s e ∷ []) is) (λ extra. ap (row_to_mark rows) (append_assoc marks (reply_to s e ∷ []) extra) ∙ are (reply_to s e ∷ extra) ∙ goes extra))

      by : Ends (reply_to s e) → IsBehind opening c f (e ∷ unless_conflict (reply_to s e) (mark_entries (after_request s e) n q.table left))
      by (InConflict id conflict) = behind_one opening c f e _
          (subst (λ a. IsBehind opening (entered opening c e) f (unless_conflict a (mark_entries (after_request s e) n q.table left))) (sym conflict)
          (on [] (λ extra. ap (λ a. row_to_mark (row ∷ left) (a ∷ extra)) conflict)))
      by (Without goes marks_on) = behind_one opening c f e _ (subst (IsBehind opening (entered opening c e) f) (sym (goes _)) (on left (marks_on row left)))

  marks_made : (c f : Course) (marks : List Answer) (left : List Row) → c.answers ≡ Found rows ∷ marks → AreLeft rows marks left → MakesAll opening n (statements.Delete q) c f
      → IsBehind opening c f (mark_entries (serial_run opening c.journal) n q.table left)
  marks_made _ _ marks [] is are (NoneLeft c none) = behind_none opening c
  marks_made _ _ marks (row ∷ left) is are (NoneLeft c none) = absurd (none-some _ (sym none ∙ next_is c marks (row ∷ left) is are))
  marks_made _ _ marks [] is are (OneMore c d f (Enters e next) more) = absurd (none-some _ (sym (next_is c marks [] is are) ∙ next))
  marks_made _ _ marks (row ∷ left) is are (OneMore c d f (Enters e next) more) =
      mark_step c f e marks row left is are (same_Some _ _ (sym next ∙ next_is c marks (row ∷ left) is are)) (λ marks' left' is' are'. marks_made (entered opening c e) f marks' left' is' are' more)

-- no request is left behind the one of a statement that has one alone
single : (opening : DatabaseState) (n : ℕ) (statement : Statement) (c f : Course) (e : Entry) → next_request n statement c.answers ≡ Some e
    → ((a : Answer) → next_request n statement (c.answers ++ a ∷ []) ≡ None) → MakesAll opening n statement c f → IsBehind opening c f (e ∷ [])
single opening n statement _ _ e is then (NoneLeft c none) = absurd (none-some _ (sym none ∙ is))
single opening n statement _ _ e is then (OneMore c d f (Enters x next) more) = at x (same_Some _ _ (sym next ∙ is)) more
  where
    done : (f : Course) → MakesAll opening n statement (entered opening c e) f → f ≡ entered opening c e
    done _ more = ended (entered opening c e) _ (then _) more
      where
        ended : (c f : Course) → next_request n statement c.answers ≡ None → MakesAll opening n statement c f → f ≡ c
        ended _ _ none (NoneLeft c is) = refl
        ended _ _ none (OneMore c d f (Enters x next) more) = absurd (none-some _ (sym none ∙ next))

    at : (x : Entry) → x ≡ e → MakesAll opening n statement (entered opening c x) f → IsBehind opening c f (e ∷ [])
    at x same more = behind_one opening c f e [] (subst (λ g. IsBehind opening (entered opening c e) g []) (sym (done f (subst (λ y. MakesAll opening n statement (entered opening c y) f) same more))) (behind_none opening (entered opening c e)))

pub none_made : (opening : DatabaseState) (n : ℕ) (statement : Statement) (c f : Course) → next_request n statement c.answers ≡ None → MakesAll opening n statement c f → IsBehind opening c f []
none_made opening n statement _ _ none (NoneLeft c is) = behind_none opening c
none_made opening n statement _ _ none (OneMore c d f (Enters x next) more) = absurd (none-some _ (sym none ∙ next))

module _ (opening : DatabaseState) (n : ℕ) (q : Query) where
  delete_made : (c f : Course) → c.answers ≡ [] → MakesAll opening n (statements.Delete q) c f
      → IsBehind opening c f (look_entry n q ∷ mark_entries (after_request (serial_run opening c.journal) (look_entry n q)) n q.table (found_in (reply_to (serial_run opening c.journal) (look_entry n q))))
  delete_made _ _ is (NoneLeft c none) = absurd (none-some _ (sym none ∙ ap (next_request n (statements.Delete q)) is))
  delete_made _ _ is (OneMore c d f (Enters x next) more) = at x (same_Some _ _ (sym next ∙ ap (next_request n (statements.Delete q)) is)) more
    where
      e : Entry
      e = look_entry n q

      s : DatabaseState
      s = serial_run opening c.journal

      next_behind : (a : Answer) → reply_to s e ≡ a → next_request n (statements.Delete q) (entered opening c e).answers ≡ next_request n (statements.Delete q) (a ∷ [])
      next_behind a answer = ap (λ l. next_request n (statements.Delete q) (l ++ reply_to s e ∷ [])) is ∙ ap (λ x. next_request n (statements.Delete q) (x ∷ [])) answer

      looked : (a : Answer) → reply_to s e ≡ a → MakesAll opening n (statements.Delete q) (entered opening c e) f → IsBehind opening (entered opening c e) f (mark_entries (serial_run opening (entered opening c e).journal) n q.table (found_in a))
      looked (Found rows) answer more = marks_made opening n q rows (entered opening c e) f [] rows (ap (λ l. l ++ reply_to s e ∷ []) is ∙ ap (λ a. a ∷ []) answer) (λ _. refl) more
      looked a answer more = none_made opening n (statements.Delete q) _ f (next_behind a answer ∙ refl) more

      at : (x : Entry) → x ≡ e → MakesAll opening n (statements.Delete q) (entered opening c x) f → IsBehind opening c f (e ∷ mark_entries (after_request s e) n q.table (found_in (reply_to s e)))
      at x same more = behind_one opening c f e _ (subst (λ t. IsBehind opening (entered opening c e) f (mark_entries t n q.table (found_in (reply_to s e)))) (serial_run-append opening c.journal (e ∷ []))
          (looked (reply_to s e) refl (subst (λ y. MakesAll opening n (statements.Delete q) (entered opening c y) f) same more)))

-- a look that goes well changes nothing
look_changes_nothing : (s : DatabaseState) (n : ℕ) (q : Query) → after_request s (look_entry n q) ≡ s
look_changes_nothing s n q = ap (λ (r : DatabaseState × Answer). r.0) (effect_is s (look_entry n q)) ∙ by (map.get s.sessions n)
  where
    by : (transaction : Option OpenTransaction) → (effect_at transaction s (look_entry n q)).0 ≡ s
    by None = refl
    by (Some x) = refl

pub as_one_step : RequestsAreAsOneStep
as_one_step opening n statement journal c made = record { journal_is = (behind statement made).journal_is; answers_are = (behind statement made).answers_are }
  where
    start : Course
    start = record { journal = journal; answers = [] }

    s : DatabaseState
    s = serial_run opening journal

    behind : (statement : Statement) → MakesAll opening n statement start c → IsBehind opening start c (requests_of s n false false statement)
    behind statements.Begin made = single opening n _ start c _ refl (λ _. refl) made
    behind statements.Commit made = single opening n _ start c _ refl (λ _. refl) made
    behind statements.Rollback made = single opening n _ start c _ refl (λ _. refl) made
    behind (statements.Insert table values) made = single opening n _ start c _ refl (λ _. refl) made
    behind (statements.Select q) made = single opening n _ start c _ refl (λ _. refl) made
    behind (statements.Delete q) made = subst (λ t. IsBehind opening start c (look_entry n q ∷ mark_entries t n q.table (found_in (reply_to s (look_entry n q))))) (look_changes_nothing s n q) (delete_made opening n q start c refl made)
    behind (statements.Explain q) made = none_made opening n _ start c refl made
    behind (statements.Summarize index block) made = none_made opening n _ start c refl made
    behind (statements.Desummarize index block) made = none_made opening n _ start c refl made
    behind (statements.Vacuum table) made = none_made opening n _ start c refl made
    behind statements.Work made = none_made opening n _ start c refl made
