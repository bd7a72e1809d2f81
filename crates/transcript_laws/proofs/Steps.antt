-- each step of a statement in hand
use Rattle.std.proofs.Common.{◌≡◌, ℕ, ◌<◌, List, [], ◌∷◌, ◌++◌, Option, None, Some, refl, sym, ap, subst, ◌∙◌}
use Rattle.std.specs.Prelude.{if◌then◌else◌}
use Rattle.std.proofs.lemmas.Option.{same_Some}
use Rattle.std.specs.FinMap as map
use Rattle.block_model.specs.declared.reply.Reply.{Reply}
use Rattle.block_model.specs.declared.reply.Reply.TheVariants as replies
use Rattle.block_model.specs.declared.request.Entry.{Entry}
use Rattle.block_model.specs.declared.request.Request.TheVariants as requests
use Rattle.block_model.specs.declared.row.Query.{Query}
use Rattle.block_model.specs.declared.value.Value.{Value}
use Rattle.block_model.specs.DatabaseState.{DatabaseState, OpenTransaction}
use Rattle.block_model.specs.RequestEffect.{Answer, Begun, Committed, Found, RolledBack, after_begin, after_commit, after_failure, after_put, after_request, effect, next_row, rows_found, with_transaction, without_transaction}
use Rattle.block_model.specs.RequestLaws.{effect_by}
use Rattle.block_model.specs.SerialRun.{serial_run, serial_run-append}
use Rattle.store_layout.specs.declared.statement.Statement.{Statement}
use Rattle.store_layout.specs.declared.statement.Statement.TheVariants as statements
use Rattle.store_layout.specs.DiskLayout.{DiskLayout}
use Rattle.store_layout.specs.StatementRequests.{begin_reply, end_reply, look_entry, refusal_at, request_entry, select_reply}
use Rattle.model_laws.specs.NoRowRemovedTwice.{IsOpening}
use Rattle.script_semantics.specs.Place.{Hand, updated}
use Rattle.script_semantics.specs.Requests.{Course, MakesAll, entered, next_request}
use Rattle.script_semantics.specs.StatementSteps.{numbers_of}
use Rattle.transcripts.specs.Told.{IsOutside, IsSound, Limits, Outside, Tells}
use Rattle.transcripts.proofs.Allowed.{begin_allowed, commit_allowed, end_is, rollback_allowed, select_allowed, sound_at}
use Rattle.transcript_laws.specs.Ahead.{IsAhead, IsCopyAhead}
use Rattle.transcript_laws.specs.Laws.{NextStays}
use Rattle.transcript_laws.specs.StepLaws.{IsAnswered, limits_of}
use Rattle.transcript_laws.proofs.Events.{goes, inserts_told}
use Rattle.transcript_laws.proofs.More.{begins, commits, failures, others_ahead, rollbacks, selects}
use Rattle.transcript_laws.proofs.Standing.{all_none, all_one}

module _ (layout : DiskLayout) (opening s : DatabaseState) (next : ℕ → Option Statement) (hands : ℕ → Option Hand) (n : ℕ) (journal : List Entry) (opens : IsOpening opening)
    (was : IsAhead next hands (serial_run opening journal) s) where
  abbrev pub d : DatabaseState
  d = serial_run opening journal

  abbrev pub limits : Limits
  limits = limits_of layout

  abbrev pub After : (Statement) → List Entry → Reply → Type 0
  After statement now reply = IsAnswered limits next (updated hands n None) (serial_run opening now) s n statement reply

  pub run_one : (e : Entry) → serial_run opening (journal ++ e ∷ []) ≡ after_request d e
  run_one e = serial_run-append opening journal (e ∷ [])

  -- what is told of the database behind one request more
  pub behind : (statement : Statement) (e : Entry) (reply : Reply) → IsAnswered limits next (updated hands n None) (after_request d e) s n statement reply → After statement (journal ++ e ∷ []) reply
  behind statement e reply done = subst (λ (t : DatabaseState). IsAnswered limits next (updated hands n None) t s n statement reply) (sym (run_one e)) done

  -- the same is in hand, and nothing is entered
  pub stays : (hand : Hand) → hands n ≡ Some hand → IsAhead next (updated hands n (Some hand)) d s
  stays hand has = goes next next hands (Some hand) d d s s n was was.number was.table (λ m other. refl) (λ m other. refl) (λ m other. refl)
      (subst (IsCopyAhead (map.get s.sessions n) (map.get d.sessions n)) has (was.copies n))
      (λ g is. (was.lines n g (has ∙ is), was.taken n g (has ∙ is)))

  -- a statement that leaves all transactions is answered
  pub others : (statement : Statement) (reply : Reply) → map.get d.sessions n ≡ map.get s.sessions n → Tells limits next s n statement reply s → After statement journal reply
  others statement reply same tells = (s, tells, λ next' nexts. others_ahead next next' hands d s n was same nexts)

  -- a request fails the transaction
  pub fails : (statement : Statement) (e : Entry) (x : OpenTransaction) (reply : Reply) → e.session ≡ n → after_request d e ≡ after_failure d n x → Tells limits next s n statement reply (after_failure s n x)
      → After statement (journal ++ e ∷ []) reply
  fails statement e x reply own done tells = behind statement e reply (
    after_failure s n x,
    tells,
    λ next' nexts.
        subst (λ (m : ℕ). IsAhead next' (updated hands m None) (after_request d e) (after_failure s m x)) own
        (failures next next' hands d s e x was (done ∙ ap (λ (m : ℕ). after_failure d m x) (sym own)) (subst (NextStays next next') (sym own) nexts)),
  )

  pub at_course : (f : Course) (statement : Statement) (reply : Reply) (now : Course) → f ≡ now → After statement now.journal reply → After statement f.journal reply
  at_course f statement reply now same done = subst (λ (c : Course). After statement c.journal reply) (sym same) done

  abbrev pub new_course : Course
  new_course = record { journal = journal; answers = [] }

  -- ---- with nothing entered

  pub outside_all : (statement : Statement) (f : Course) (reply : Reply) → map.get d.sessions n ≡ map.get s.sessions n → IsOutside statement → next_request n statement [] ≡ None
      → MakesAll opening n statement new_course f → After statement f.journal reply
  outside_all statement f reply same out none all = at_course f statement reply new_course (all_none opening n statement new_course f none all) (others statement reply same (Outside statement reply out))

  pub begin_all : (f : Course) (reply : Reply) → map.get d.sessions n ≡ map.get s.sessions n → refusal_at s n statements.Begin ≡ None → MakesAll opening n statements.Begin new_course f
      → Some reply ≡ begin_reply f.answers → d.next < numbers_of layout → After statements.Begin f.journal reply
  begin_all f reply same taken all replied number =
      let e = request_entry n 0 requests.Begin in
      let none : map.get s.sessions n ≡ None = begin_allowed (map.get s.sessions n) taken in
      let f_is : f ≡ entered opening new_course e = all_one opening n statements.Begin new_course f e refl (λ a. refl) all in
      let done : effect d e ≡ (after_begin d n, Begun d.next) = effect_by d e None (same ∙ none) in
      let reply_is : replies.Begun s.next ≡ reply =
      ap (λ (k : ℕ). replies.Begun k) (sym was.number) ∙ sym (same_Some _ _ (replied ∙ ap (λ (c : Course). begin_reply c.answers) f_is ∙ ap (λ (p : DatabaseState × Answer). begin_reply (p.1 ∷ [])) done)) in
      let room = subst (λ (k : ℕ). k < numbers_of layout) was.number number in
      let tell = λ (next' : ℕ → Option Statement) (nexts : NextStays next next' n). begins limits next next' hands d s n was none (same ∙ none) room nexts in
      at_course f statements.Begin reply (entered opening new_course e) f_is
      (behind statements.Begin e reply (subst (IsAnswered limits next (updated hands n None) (after_request d e) s n statements.Begin) reply_is
      (after_begin s n, (tell next (λ m other. refl)).0, λ next' nexts. (tell next' nexts).1)))

  pub commit_all : (f : Course) (reply : Reply) → map.get d.sessions n ≡ map.get s.sessions n → refusal_at s n statements.Commit ≡ None → MakesAll opening n statements.Commit new_course f
      → Some reply ≡ end_reply f.answers → After statements.Commit f.journal reply
  commit_all f reply same taken all replied =
      let e = request_entry n 0 requests.Commit in
      let some = commit_allowed (map.get s.sessions n) taken in
      let x : OpenTransaction = some.0 in
      let f_is : f ≡ entered opening new_course e = all_one opening n statements.Commit new_course f e refl (λ a. refl) all in
      let done : effect d e ≡ (after_commit d n x, if x.failed then RolledBack else Committed) = effect_by d e (Some x) (same ∙ some.1) in
      let reply_is : reply ≡ (if x.failed then replies.RolledBack else replies.Committed) =
      end_is x.failed reply (replied ∙ ap (λ (c : Course). end_reply c.answers) f_is ∙ ap (λ (p : DatabaseState × Answer). end_reply (p.1 ∷ [])) done) in
      let tell = λ (next' : ℕ → Option Statement) (nexts : NextStays next next' n). commits limits next next' hands d s n x was some.1 (same ∙ some.1) nexts in
      at_course f statements.Commit reply (entered opening new_course e) f_is
      (behind statements.Commit e reply (subst (IsAnswered limits next (updated hands n None) (after_request d e) s n statements.Commit) (sym reply_is)
      (after_commit s n x, (tell next (λ m other. refl)).0, λ next' nexts. (tell next' nexts).1)))

  pub rollback_all : (f : Course) (reply : Reply) → map.get d.sessions n ≡ map.get s.sessions n → refusal_at s n statements.Rollback ≡ None → MakesAll opening n statements.Rollback new_course f
      → Some reply ≡ end_reply f.answers → After statements.Rollback f.journal reply
  rollback_all f reply same taken all replied =
      let e = request_entry n 0 requests.Rollback in
      let some = rollback_allowed (map.get s.sessions n) taken in
      let x : OpenTransaction = some.0 in
      let f_is : f ≡ entered opening new_course e = all_one opening n statements.Rollback new_course f e refl (λ a. refl) all in
      let done : effect d e ≡ (without_transaction d n, RolledBack) = effect_by d e (Some x) (same ∙ some.1) in
      let reply_is : reply ≡ replies.RolledBack = same_Some _ _ (replied ∙ ap (λ (c : Course). end_reply c.answers) f_is ∙ ap (λ (p : DatabaseState × Answer). end_reply (p.1 ∷ [])) done) in
      let tell = λ (next' : ℕ → Option Statement) (nexts : NextStays next next' n). rollbacks limits next next' hands d s n x was some.1 (same ∙ some.1) nexts in
      at_course f statements.Rollback reply (entered opening new_course e) f_is
      (behind statements.Rollback e reply (subst (IsAnswered limits next (updated hands n None) (after_request d e) s n statements.Rollback) (sym reply_is)
      (without_transaction s n, (tell next (λ m other. refl)).0, λ next' nexts. (tell next' nexts).1)))

  pub select_all : (q : Query) (f : Course) (reply : Reply) → map.get d.sessions n ≡ map.get s.sessions n → refusal_at s n (statements.Select q) ≡ None → MakesAll opening n (statements.Select q) new_course f
      → Some reply ≡ select_reply f.answers → After (statements.Select q) f.journal reply
  select_all q f reply same taken all replied =
      let e = look_entry n q in
      let some = sound_at s n (statements.Select q) (select_allowed q) taken in
      let x : OpenTransaction = some.0 in
      let f_is : f ≡ entered opening new_course e = all_one opening n (statements.Select q) new_course f e refl (λ a. refl) all in
      let now : map.get d.sessions n ≡ Some x = same ∙ some.1.under_way in
      let done : effect d e ≡ (d, Found (rows_found x q)) = effect_by d e (Some x) now in
      let reply_is : reply ≡ replies.Found (rows_found x q) = same_Some _ _ (replied ∙ ap (λ (c : Course). select_reply c.answers) f_is ∙ ap (λ (p : DatabaseState × Answer). select_reply (p.1 ∷ [])) done) in
      let tell = λ (next' : ℕ → Option Statement) (nexts : NextStays next next' n). selects limits next next' hands d s n q x was some.1 now nexts in
      at_course f (statements.Select q) reply (entered opening new_course e) f_is
      (behind (statements.Select q) e reply (subst (IsAnswered limits next (updated hands n None) (after_request d e) s n (statements.Select q)) (sym reply_is)
      (s, (tell next (λ m other. refl)).0, λ next' nexts. (tell next' nexts).1)))

  -- an insert whose row is put is answered
  pub put_told : (x : OpenTransaction) (table : ℕ) (values : List Value) (reply : Reply) → IsSound s n x → map.get d.sessions n ≡ Some (after_put x table values) → reply ≡ replies.Inserted (next_row x table values).id
      → After (statements.Insert table values) journal reply
  put_told x table values reply sound now is =
      let tell = λ (next' : ℕ → Option Statement) (nexts : NextStays next next' n). inserts_told limits next next' hands d s n table values x was sound now nexts in
      subst (After (statements.Insert table values) journal) (sym is) (with_transaction s n (after_put x table values), (tell next (λ m other. refl)).0, λ next' nexts. (tell next' nexts).1)
