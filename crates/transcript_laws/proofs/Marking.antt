-- a delete at its marks: one more of them, and all that are left
use Rattle.std.proofs.Common.{arith, ◌≡◌, ℕ, ◌+◌, Bool, true, false, List, [], ◌∷◌, ◌++◌, length, Option, None, Some, refl, sym, ap, subst, ◌∙◌}
use Rattle.std.proofs.lemmas.Cmp.{nat_cmp_total}
use Rattle.std.proofs.lemmas.List.{append_assoc, append-nil}
use Rattle.std.proofs.lemmas.Option.{none-some, same_Some}
use Rattle.std.specs.FinMap as map
use Rattle.std.specs.Option.{option_map}
use Rattle.block_model.specs.declared.reply.Refusal.TheVariants as refusals
use Rattle.block_model.specs.declared.reply.Reply.{Reply}
use Rattle.block_model.specs.declared.reply.Reply.TheVariants as replies
use Rattle.block_model.specs.declared.request.Entry.{Entry}
use Rattle.block_model.specs.declared.row.Query.{Query}
use Rattle.block_model.specs.declared.row.Row.{Row}
use Rattle.block_model.specs.declared.row.RowId.{RowId}
use Rattle.block_model.specs.DatabaseState.{DatabaseState, OpenTransaction}
use Rattle.block_model.specs.NumberMaps.{get_put_here}
use Rattle.block_model.specs.RequestEffect.{Answer, Conflict, Found, Marked, after_mark, after_request, effect, failed_transaction, is_conflict, reply_to, rows_found, with_transaction}
use Rattle.block_model.specs.RequestLaws.{effect_by, mark_effect}
use Rattle.block_model.specs.SerialRun.{serial_run, serial_run-append}
use Rattle.store_layout.specs.declared.statement.Statement.{Statement}
use Rattle.store_layout.specs.declared.statement.Statement.TheVariants as statements
use Rattle.store_layout.specs.StatementRequests.{deleted_reply, look_entry, mark_entry, marks_reply}
use Rattle.model_laws.specs.NoRowRemovedTwice.{IsOpening}
use Rattle.model_laws.proofs.Removals.{marks_are_apart}
use Rattle.script_semantics.specs.Place.{Hand, updated}
use Rattle.script_semantics.specs.Requests.{Course, Enters, MakesAll, MakesOne, NoneLeft, OneMore, entered, next_request, row_to_mark}
use Rattle.script_semantics.specs.StatementSteps.{IsOneLeft}
use Rattle.transcripts.specs.Told.{IsSound, Limits, marked}
use Rattle.transcript_laws.specs.Ahead.{IsAhead, answers_marked}
use Rattle.transcript_laws.specs.Laws.{NextStays}
use Rattle.transcript_laws.specs.StepLaws.{IsAnswered}
use Rattle.transcript_laws.proofs.Events.{deletes_told, failed_deletes_told, updated_here}
use Rattle.transcript_laws.proofs.More.{looks, marked_more, marks}
use Rattle.transcript_laws.proofs.Standing.{all_none, updated_twice}

-- ---- lists of marks

-- the first of some rows
abbrev pub first_of : List Row → Option Row
first_of [] = None
first_of (row ∷ rows) = Some row

pub next_mark : (rows left : List Row) → row_to_mark (rows ++ left) (answers_marked rows) ≡ first_of left
next_mark [] [] = refl
next_mark [] (row ∷ left) = refl
next_mark (r ∷ rows) left = next_mark rows left

behind_conflict : (rows left : List Row) (row : Row) (id : RowId) → row_to_mark (rows ++ row ∷ left) (answers_marked rows ++ Conflict id ∷ []) ≡ None
behind_conflict [] left row id = refl
behind_conflict (r ∷ rows) left row id = behind_conflict rows left row id

all_marked : (count : ℕ) (rows : List Row) → marks_reply count (answers_marked rows) ≡ Some (replies.Deleted (count + length rows))
all_marked count [] = ap (λ k. Some (replies.Deleted k)) (omega arith)
all_marked count (r ∷ rows) = all_marked (count + 1) rows ∙ ap (λ k. Some (replies.Deleted k)) (omega arith)

told_all : (rows : List Row) → marks_reply 0 (answers_marked rows) ≡ Some (replies.Deleted (length rows))
told_all rows = all_marked 0 rows ∙ ap (λ k. Some (replies.Deleted k)) (omega arith)

one_conflicts : (count : ℕ) (rows : List Row) (id : RowId) → marks_reply count (answers_marked rows ++ Conflict id ∷ []) ≡ Some (replies.Refused (refusals.Conflict id))
one_conflicts count [] id = refl
one_conflicts count (r ∷ rows) id = one_conflicts (count + 1) rows id

one_more_marked : (rows : List Row) (row : Row) → answers_marked rows ++ Marked ∷ [] ≡ answers_marked (rows ++ row ∷ [])
one_more_marked [] row = refl
one_more_marked (r ∷ rows) row = ap (λ (l : List Answer). Marked ∷ l) (one_more_marked rows row)

no_rows_left : (left : List Row) → first_of left ≡ None → left ≡ []
no_rows_left [] e = refl
no_rows_left (row ∷ left) e = absurd (none-some row (sym e))

first_row : (left : List Row) (row : Row) → first_of left ≡ Some row → (rest : List Row) × (left ≡ row ∷ rest)
first_row [] row e = absurd (none-some row e)
first_row (r ∷ left) row e = (left, ap (λ (x : Row). x ∷ left) (same_Some r row e))

module _ (limits : Limits) (opening s : DatabaseState) (next : ℕ → Option Statement) (n : ℕ) (q : Query) (x : OpenTransaction) (opens : IsOpening opening) (sound : IsSound s n x) where
  abbrev pub answers_behind : List Row → List Answer
  answers_behind rows = Found (rows_found x q) ∷ answers_marked rows

  abbrev pub hand_behind : List Row → Hand
  hand_behind rows = record { statement = statements.Delete q; answers = answers_behind rows }

  -- behind these marks, with those rows left
  pub record AtMarks (hands : ℕ → Option Hand) (c : Course) (rows left : List Row) : Type 0 where
    pub ahead : IsAhead next hands (serial_run opening c.journal) s
    pub in_hand : hands n ≡ Some (hand_behind rows)
    pub answers : c.answers ≡ answers_behind rows
    pub finds : rows_found x q ≡ rows ++ left
    pub now : map.get (serial_run opening c.journal).sessions n ≡ Some (marked x rows)

  -- the next row is marked, or conflicts
  pub data Marks (hands : ℕ → Option Hand) (c : Course) (rows left : List Row) (f : Course) : Type 0 where
    HasMark : (row : Row) (rest : List Row) → AtMarks (updated hands n (Some (hand_behind (rows ++ row ∷ [])))) f (rows ++ row ∷ []) rest → Marks hands c rows left f
    Meets : (row : Row) (rest : List Row) → left ≡ row ∷ rest → is_conflict (serial_run opening c.journal) n (marked x rows) row.id ≡ true
        → f.journal ≡ c.journal ++ mark_entry n q.table row ∷ [] → f.answers ≡ answers_behind rows ++ Conflict row.id ∷ [] → Marks hands c rows left f

  next_is : (c : Course) (rows left : List Row) → c.answers ≡ answers_behind rows → rows_found x q ≡ rows ++ left → next_request n (statements.Delete q) c.answers ≡ option_map (mark_entry n q.table) (first_of left)
  next_is c rows left are finds =
      ap (next_request n (statements.Delete q)) are ∙ ap (λ (found : List Row). option_map (mark_entry n q.table) (row_to_mark found (answers_marked rows))) finds ∙ ap (option_map (mark_entry n q.table)) (next_mark rows left)

  by_row : (hands : ℕ → Option Hand) (c : Course) (rows left : List Row) (row : Row) (rest : List Row) → AtMarks hands c rows left → left ≡ row ∷ rest → (b : Bool)
      → is_conflict (serial_run opening c.journal) n (marked x rows) row.id ≡ b → Marks hands c rows left (entered opening c (mark_entry n q.table row))
  by_row hands c rows left row rest at is true conflict =
      let d = serial_run opening c.journal in
      let done : effect d (mark_entry n q.table row) ≡ mark_effect d n (marked x rows) row.id true =
      effect_by d (mark_entry n q.table row) (Some (marked x rows)) at.now ∙ ap (λ b. mark_effect d n (marked x rows) row.id b) conflict in
      Meets row rest is conflict refl (ap (λ (l : List Answer). l ++ reply_to d (mark_entry n q.table row) ∷ []) at.answers ∙ ap (λ (p : DatabaseState × Answer). answers_behind rows ++ p.1 ∷ []) done)
  by_row hands c rows left row rest at is false free =
      let d = serial_run opening c.journal in
      let e = mark_entry n q.table row in
      let done : effect d e ≡ mark_effect d n (marked x rows) row.id false = effect_by d e (Some (marked x rows)) at.now ∙ ap (λ b. mark_effect d n (marked x rows) row.id b) free in
      let run : serial_run opening (c.journal ++ e ∷ []) ≡ after_request d e = serial_run-append opening c.journal (e ∷ []) in
      let finds : rows_found x q ≡ rows ++ row ∷ rest = at.finds ∙ ap (λ (l : List Row). rows ++ l) is in
      HasMark row rest (record {
        ahead = subst (λ (t : DatabaseState). IsAhead next (updated hands n (Some (hand_behind (rows ++ row ∷ [])))) t s) (sym run) (marks next hands d s n q x rows row rest at.ahead sound at.in_hand at.now finds free);
        in_hand = updated_here hands n (Some (hand_behind (rows ++ row ∷ [])));
        answers = ap (λ (l : List Answer). l ++ reply_to d e ∷ []) at.answers ∙ ap (λ (p : DatabaseState × Answer). answers_behind rows ++ p.1 ∷ []) done
            ∙ ap (λ (l : List Answer). Found (rows_found x q) ∷ l) (one_more_marked rows row);
        finds = finds ∙ sym (append_assoc rows (row ∷ []) rest);
        now = ap (λ (t : DatabaseState). map.get t.sessions n) (run ∙ ap (λ (p : DatabaseState × Answer). p.0) done) ∙ get_put_here nat_cmp_total d.sessions n (after_mark (marked x rows) row.id)
            ∙ ap (λ (t : OpenTransaction). Some t) (sym (marked_more x rows row));
      })

  by_left : (hands : ℕ → Option Hand) (c : Course) (rows left : List Row) (e : Entry) → AtMarks hands c rows left → (l : List Row) → left ≡ l → option_map (mark_entry n q.table) (first_of l) ≡ Some e
      → Marks hands c rows left (entered opening c e)
  by_left hands c rows left e at [] is next_one = absurd (none-some e next_one)
  by_left hands c rows left e at (row ∷ rest) is next_one =
      subst (λ (k : Entry). Marks hands c rows left (entered opening c k)) (same_Some _ e next_one)
      (by_row hands c rows left row rest at is (is_conflict (serial_run opening c.journal) n (marked x rows) row.id) refl)

  pub one_mark : (hands : ℕ → Option Hand) (c f : Course) (rows left : List Row) → AtMarks hands c rows left → MakesOne opening n (statements.Delete q) c f → Marks hands c rows left f
  one_mark hands c _ rows left at (Enters e is) = by_left hands c rows left e at left refl (sym (next_is c rows left at.answers at.finds) ∙ is)

  -- behind a conflict no request is left
  pub none_behind : (c f : Course) (rows left : List Row) (row : Row) (rest : List Row) → rows_found x q ≡ rows ++ left → left ≡ row ∷ rest → f.answers ≡ answers_behind rows ++ Conflict row.id ∷ []
      → next_request n (statements.Delete q) f.answers ≡ None
  none_behind c f rows left row rest finds is are =
      ap (next_request n (statements.Delete q)) are
      ∙ ap (λ (found : List Row). option_map (mark_entry n q.table) (row_to_mark found (answers_marked rows ++ Conflict row.id ∷ []))) (finds ∙ ap (λ (l : List Row). rows ++ l) is)
      ∙ ap (option_map (mark_entry n q.table)) (behind_conflict rows rest row row.id)

  abbrev Answer_at : (ℕ → Option Hand) → Course → Reply → Type 0
  Answer_at hands f reply = IsAnswered limits next (updated hands n None) (serial_run opening f.journal) s n (statements.Delete q) reply

  all_done : (hands : ℕ → Option Hand) (c : Course) (rows left : List Row) (reply : Reply) → AtMarks hands c rows left → left ≡ [] → Some reply ≡ deleted_reply c.answers → Answer_at hands c reply
  all_done hands c rows left reply at none replied =
      let d = serial_run opening c.journal in
      let all : rows ≡ rows_found x q = sym (at.finds ∙ ap (λ (l : List Row). rows ++ l) none ∙ append-nil rows) in
      let now : map.get d.sessions n ≡ Some (marked x (rows_found x q)) = subst (λ (l : List Row). map.get d.sessions n ≡ Some (marked x l)) all at.now in
      let is : replies.Deleted (length (rows_found x q)) ≡ reply = sym (same_Some _ _ (replied ∙ ap deleted_reply at.answers ∙ told_all rows ∙ ap (λ (l : List Row). Some (replies.Deleted (length l))) all)) in
      let tell = λ (next' : ℕ → Option Statement) (nexts : NextStays next next' n). deletes_told limits next next' hands d s n q x at.ahead (marks_are_apart opening c.journal opens) sound now nexts in
      subst (Answer_at hands c) is (with_transaction s n (marked x (rows_found x q)), (tell next (λ m other. refl)).0, λ next' nexts. (tell next' nexts).1)

  meets : (hands : ℕ → Option Hand) (c f : Course) (rows left : List Row) (row : Row) (rest : List Row) (reply : Reply) → AtMarks hands c rows left → left ≡ row ∷ rest
      → is_conflict (serial_run opening c.journal) n (marked x rows) row.id ≡ true → f.journal ≡ c.journal ++ mark_entry n q.table row ∷ [] → f.answers ≡ answers_behind rows ++ Conflict row.id ∷ []
      → Some reply ≡ deleted_reply f.answers → Answer_at hands f reply
  meets hands c f rows left row rest reply at is conflict behind are replied =
      let d = serial_run opening c.journal in
      let e = mark_entry n q.table row in
      let run : serial_run opening f.journal ≡ after_request d e = ap (serial_run opening) behind ∙ serial_run-append opening c.journal (e ∷ []) in
      let told : replies.Refused (refusals.Conflict row.id) ≡ reply = sym (same_Some _ _ (replied ∙ ap deleted_reply are ∙ one_conflicts 0 rows row.id)) in
      let tell = λ (next' : ℕ → Option Statement) (nexts : NextStays next next' n). failed_deletes_told limits next next' hands d s n q x rows row rest at.ahead (marks_are_apart opening c.journal opens) sound
      (at.finds ∙ ap (λ (l : List Row). rows ++ l) is) at.now conflict nexts in
      subst (Answer_at hands f) told (
        with_transaction s n (failed_transaction (marked x rows)),
        (tell next (λ m other. refl)).0,
        λ next' nexts. subst (λ (t : DatabaseState). IsAhead next' (updated hands n None) t (with_transaction s n (failed_transaction (marked x rows)))) (sym run) (tell next' nexts).1,
      )

  -- all that are left, each one mark, up to the answer
  pub all_marks : (hands : ℕ → Option Hand) (c f : Course) (rows left : List Row) (reply : Reply) → AtMarks hands c rows left → MakesAll opening n (statements.Delete q) c f → Some reply ≡ deleted_reply f.answers
      → Answer_at hands f reply
  all_marks hands c _ rows left reply at (NoneLeft _ none) replied = all_done hands c rows left reply at (none_left left (sym (next_is c rows left at.answers at.finds) ∙ none)) replied
    where
      none_left : (l : List Row) → option_map (mark_entry n q.table) (first_of l) ≡ None → l ≡ []
      none_left [] e = refl
      none_left (row ∷ rest) e = absurd (none-some _ (sym e))
  all_marks hands c f rows left reply at (OneMore _ d _ one more) replied = elim (one_mark hands c d rows left at one) [
    | HasMark row rest further ↦ subst (λ (h : ℕ → Option Hand). IsAnswered limits next h (serial_run opening f.journal) s n (statements.Delete q) reply) (updated_twice hands n (Some (hand_behind (rows ++ row ∷ []))) None)
        (all_marks (updated hands n (Some (hand_behind (rows ++ row ∷ [])))) d f (rows ++ row ∷ []) rest reply further more replied)
    | Meets row rest is conflict behind are ↦
        let same : f ≡ d = all_none opening n (statements.Delete q) d f (none_behind c d rows left row rest at.finds is are) more in
        subst (λ (g : Course). Answer_at hands g reply) (sym same) (meets hands c d rows left row rest reply at is conflict behind are (subst (λ (g : Course). Some reply ≡ deleted_reply g.answers) same replied))
  ]

  -- a mark behind which another is left stays ahead
  pub mark_told : (hands : ℕ → Option Hand) (c f : Course) (rows left : List Row) → AtMarks hands c rows left → MakesOne opening n (statements.Delete q) c f → IsOneLeft n (statements.Delete q) f
      → IsAhead next (updated hands n (Some (record { statement = statements.Delete q; answers = f.answers }))) (serial_run opening f.journal) s
  mark_told hands c f rows left at one more = elim (one_mark hands c f rows left at one) [
    | HasMark row rest further ↦
        subst (λ (l : List Answer). IsAhead next (updated hands n (Some (record { statement = statements.Delete q; answers = l }))) (serial_run opening f.journal) s) (sym further.answers) further.ahead
    | Meets row rest is conflict behind are ↦ absurd (none-some more.0 (sym (none_behind c f rows left row rest at.finds is are) ∙ more.1))
  ]

  -- the look is entered, and no mark yet
  pub looked : (hands : ℕ → Option Hand) (journal : List Entry) → IsAhead next hands (serial_run opening journal) s → hands n ≡ Some (record { statement = statements.Delete q; answers = [] })
      → map.get (serial_run opening journal).sessions n ≡ Some x
      → AtMarks (updated hands n (Some (hand_behind []))) (entered opening (record { journal = journal; answers = [] }) (look_entry n q)) [] (rows_found x q)
  looked hands journal was has now =
      let d = serial_run opening journal in
      let e = look_entry n q in
      let done : effect d e ≡ (d, Found (rows_found x q)) = effect_by d e (Some x) now in
      let run : serial_run opening (journal ++ e ∷ []) ≡ after_request d e = serial_run-append opening journal (e ∷ []) in
      record {
        ahead = subst (λ (t : DatabaseState). IsAhead next (updated hands n (Some (hand_behind []))) t s) (sym run)
            (subst (λ (a : Answer). IsAhead next (updated hands n (Some (record { statement = statements.Delete q; answers = a ∷ [] }))) (after_request d e) s) (ap (λ (p : DatabaseState × Answer). p.1) done)
            (looks next hands d s n q x was sound has));
        in_hand = updated_here hands n (Some (hand_behind []));
        answers = ap (λ (p : DatabaseState × Answer). p.1 ∷ []) done;
        finds = refl;
        now = ap (λ (t : DatabaseState). map.get t.sessions n) (run ∙ ap (λ (p : DatabaseState × Answer). p.0) done) ∙ now;
      }
