-- looks, marks, begins and ends
use Rattle.std.proofs.Common.{◌≡◌, ℕ, false, List, [], ◌∷◌, ◌++◌, Option, None, Some, refl, sym, ap, subst, ◌∙◌}
use Rattle.std.proofs.lemmas.Cmp.{nat_cmp_total}
use Rattle.std.specs.Prelude.{◌+◌}
use Rattle.std.specs.FinMap as map
use Rattle.std.specs.FinSet as set
use Rattle.block_model.specs.declared.request.Request.TheVariants as requests
use Rattle.block_model.specs.declared.request.Tag.TheVariants as tags
use Rattle.block_model.specs.declared.row.Row.{Row}
use Rattle.block_model.specs.DatabaseState.{DatabaseState, OpenTransaction}
use Rattle.block_model.specs.NumberMaps.{get_put_apart, get_put_here, get_removed_apart, get_removed_here, none_Some, numbers_apart, same_Some}
use Rattle.block_model.specs.RequestEffect.{Answer, Found, after_begin, after_commit, after_failure, after_mark, after_put, after_request, effect, failed_transaction, new_transaction, reply_to, rows_found, table_after_commit, with_transaction, without_transaction}
use Rattle.block_model.specs.RequestLaws.{effect_by, mark_effect, others_stay}
use Rattle.store_layout.specs.declared.statement.Statement.{Statement}
use Rattle.store_layout.specs.declared.statement.Statement.TheVariants as statements
use Rattle.store_layout.specs.StatementRequests.{look_entry, mark_entry, refusal_at, request_entry, submission_refusal, tagged_entry}
use Rattle.script_semantics.specs.Place.{Hand, updated}
use Rattle.transcript_laws.specs.Ahead.{IsAhead, IsCopyAhead, Idle, Fresh, HasPut, HasMarked, answers_marked}
use Rattle.transcript_laws.specs.Laws.{BeginsAreTold, CommitsAreTold, FailuresStayAhead, LooksStayAhead, MarksStayAhead, OthersStayAhead, RefusedInsertsAreTold, RollbacksAreTold, SelectsAreTold, StatementsAreTaken}
use Rattle.transcripts.specs.Told.{Begins, Commits, IndexIsFull, RollsBack, Selects, marked}
use Rattle.transcript_laws.proofs.Events.{fresh_same, goes, taken_over}

no_hand : (hand : Hand) → None ≡ Some hand → ⊥
no_hand hand e = none_Some hand e

idle_same : (before now : Option OpenTransaction) (h : Option Hand) → IsCopyAhead before now h → h ≡ None → now ≡ before
idle_same before now _ (Idle same) e = same
idle_same before now _ (Fresh st same) e = same
idle_same before now _ (HasPut x table values was whole puts) e = absurd (no_hand _ (sym e))
idle_same before now _ (HasMarked x q rows left was whole finds marks) e = absurd (no_hand _ (sym e))

pub marked_more : (x : OpenTransaction) (rows : List Row) (row : Row) → marked x (rows ++ row ∷ []) ≡ after_mark (marked x rows) row.id
marked_more x [] row = refl
marked_more x (r ∷ rows) row = marked_more (after_mark x r.id) rows row

-- a session with nothing in hand has the same transaction in both
pub same_copy : (next : ℕ → Option Statement) (hands : ℕ → Option Hand) (d s : DatabaseState) (n : ℕ) → IsAhead next hands d s → hands n ≡ None → map.get d.sessions n ≡ map.get s.sessions n
same_copy next hands d s n was idle = idle_same (map.get s.sessions n) (map.get d.sessions n) (hands n) (was.copies n) idle

pub taken : StatementsAreTaken
taken next hands d s n statement was idle =
    let same = same_copy next hands d s n was idle in
    let alike : refusal_at s n statement ≡ refusal_at d n statement = ap (λ (o : Option OpenTransaction). submission_refusal o statement) (sym same) in (
      alike,
      λ free line. goes next next hands (Some (record { statement = statement; answers = [] })) d d s s n was was.number was.table (λ m apart. refl) (λ m apart. refl) (λ m apart. refl) (Fresh statement same)
          (λ hand is. (line ∙ ap (λ (g : Hand). Some g.statement) (same_Some _ _ is), ap (λ (g : Hand). refusal_at s n g.statement) (sym (same_Some _ _ is)) ∙ alike ∙ free)),
    )

pub looks : LooksStayAhead
looks next hands d s n q x was sound is =
    let e = look_entry n q in
    let now : map.get d.sessions n ≡ Some x = fresh_same (map.get s.sessions n) (map.get d.sessions n) (statements.Delete q) (subst (IsCopyAhead (map.get s.sessions n) (map.get d.sessions n)) is (was.copies n)) ∙ sound.under_way in
    let done : effect d e ≡ (d, Found (rows_found x q)) = effect_by d e (Some x) now in
    let h : Answer → Option Hand = λ a. Some (record { statement = statements.Delete q; answers = a ∷ [] }) in
    subst (λ (t : DatabaseState). IsAhead next (updated hands n (h (reply_to d e))) t s) (sym (ap (λ (p : DatabaseState × Answer). p.0) done))
    (goes next next hands (h (reply_to d e)) d d s s n was was.number was.table (λ m apart. refl) (λ m apart. refl) (λ m apart. refl)
    (subst (λ (a : Answer). IsCopyAhead (map.get s.sessions n) (map.get d.sessions n) (h a)) (sym (ap (λ (p : DatabaseState × Answer). p.1) done)) (HasMarked x q [] (rows_found x q) sound.under_way sound.whole refl now))
    (λ hand same. (was.lines n _ is ∙ ap (λ (g : Hand). Some g.statement) (same_Some _ _ same), ap (λ (g : Hand). refusal_at s n g.statement) (sym (same_Some _ _ same)) ∙ was.taken n _ is)))

pub marks : MarksStayAhead
marks next hands d s n q x rows row left was sound is now finds free =
    let e = mark_entry n q.table row in
    let y = after_mark (marked x rows) row.id in
    let done : effect d e ≡ mark_effect d n (marked x rows) row.id false = effect_by d e (Some (marked x rows)) now ∙ ap (λ b. mark_effect d n (marked x rows) row.id b) free in
    let d' = with_transaction d n y in
    let h = Some (record { statement = statements.Delete q; answers = Found (rows_found x q) ∷ answers_marked (rows ++ row ∷ []) }) in
    subst (λ (t : DatabaseState). IsAhead next (updated hands n h) t s) (sym (ap (λ (p : DatabaseState × Answer). p.0) done))
    (goes next next hands h d d' s s n was was.number was.table (λ m apart. get_put_apart nat_cmp_total d.sessions n m y (numbers_apart m n apart)) (λ m apart. refl) (λ m apart. refl)
    (HasMarked x q (rows ++ row ∷ []) left sound.under_way sound.whole (finds ∙ sym (append_one rows row left)) (get_put_here nat_cmp_total d.sessions n y ∙ ap (λ (t : OpenTransaction). Some t) (sym (marked_more x rows row))))
    (λ hand same. (was.lines n _ is ∙ ap (λ (g : Hand). Some g.statement) (same_Some _ _ same), ap (λ (g : Hand). refusal_at s n g.statement) (sym (same_Some _ _ same)) ∙ was.taken n _ is)))
  where
    append_one : (rows : List Row) (row : Row) (left : List Row) → (rows ++ row ∷ []) ++ left ≡ rows ++ row ∷ left
    append_one [] row left = refl
    append_one (r ∷ rows) row left = ap (λ (l : List Row). r ∷ l) (append_one rows row left)

pub begins : BeginsAreTold
begins limits next next' hands d s n was none now room nexts =
    let e = request_entry n 0 requests.Begin in
    let done : after_request d e ≡ after_begin d n = ap (λ (p : DatabaseState × Answer). p.0) (effect_by d e None now) in
    let same : new_transaction d ≡ new_transaction s = (λ i. record { t = was.number i; next_k = 0; view = was.table i; marks = set.empty; failed = false }) in (
      Begins none room,
      subst (λ (t : DatabaseState). IsAhead next' (updated hands n None) t (after_begin s n)) (sym done)
          (goes next next' hands None d (after_begin d n) s (after_begin s n) n was (ap (λ (k : ℕ). k + 1) was.number) was.table
          (λ m apart. get_put_apart nat_cmp_total d.sessions n m (new_transaction d) (numbers_apart m n apart)) (λ m apart. get_put_apart nat_cmp_total s.sessions n m (new_transaction s) (numbers_apart m n apart)) nexts
          (Idle (get_put_here nat_cmp_total d.sessions n (new_transaction d) ∙ ap (λ (t : OpenTransaction). Some t) same ∙ sym (get_put_here nat_cmp_total s.sessions n (new_transaction s))))
          (λ hand no. absurd (no_hand hand no))),
    )

pub commits : CommitsAreTold
commits limits next next' hands d s n x was before now nexts =
    let e = request_entry n 0 requests.Commit in
    let done : after_request d e ≡ after_commit d n x = ap (λ (p : DatabaseState × Answer). p.0) (effect_by d e (Some x) now) in (
      Commits x before,
      subst (λ (t : DatabaseState). IsAhead next' (updated hands n None) t (after_commit s n x)) (sym done)
          (goes next next' hands None d (after_commit d n x) s (after_commit s n x) n was was.number (ap (λ t. table_after_commit t x) was.table)
          (λ m apart. get_removed_apart nat_cmp_total d.sessions n m (numbers_apart m n apart)) (λ m apart. get_removed_apart nat_cmp_total s.sessions n m (numbers_apart m n apart)) nexts
          (Idle (get_removed_here nat_cmp_total d.sessions n ∙ sym (get_removed_here nat_cmp_total s.sessions n))) (λ hand no. absurd (no_hand hand no))),
    )

pub rollbacks : RollbacksAreTold
rollbacks limits next next' hands d s n x was before now nexts =
    let e = request_entry n 0 requests.Rollback in
    let done : after_request d e ≡ without_transaction d n = ap (λ (p : DatabaseState × Answer). p.0) (effect_by d e (Some x) now) in (
      RollsBack x before,
      subst (λ (t : DatabaseState). IsAhead next' (updated hands n None) t (without_transaction s n)) (sym done)
          (goes next next' hands None d (without_transaction d n) s (without_transaction s n) n was was.number was.table
          (λ m apart. get_removed_apart nat_cmp_total d.sessions n m (numbers_apart m n apart)) (λ m apart. get_removed_apart nat_cmp_total s.sessions n m (numbers_apart m n apart)) nexts
          (Idle (get_removed_here nat_cmp_total d.sessions n ∙ sym (get_removed_here nat_cmp_total s.sessions n))) (λ hand no. absurd (no_hand hand no))),
    )

pub selects : SelectsAreTold
selects limits next next' hands d s n q x was sound now nexts =
    let e = look_entry n q in
    let done : after_request d e ≡ d = ap (λ (p : DatabaseState × Answer). p.0) (effect_by d e (Some x) now) in (
      Selects x q sound,
      subst (λ (t : DatabaseState). IsAhead next' (updated hands n None) t s) (sym done)
          (goes next next' hands None d d s s n was was.number was.table (λ m apart. refl) (λ m apart. refl) nexts (Idle (now ∙ sym sound.under_way)) (λ hand no. absurd (no_hand hand no))),
    )

pub refused_inserts : RefusedInsertsAreTold
refused_inserts limits next next' hands d s n table values x at was sound now nexts =
    let e = tagged_entry n table (requests.Put values) tags.Full in
    let y = failed_transaction (after_put x table values) in
    let done : after_request d e ≡ after_failure d n (after_put x table values) = ap (λ (p : DatabaseState × Answer). p.0) (effect_by d e (Some (after_put x table values)) now) in (
      IndexIsFull x table at values sound,
      taken_over next next' hands d s n y was nexts (after_request d e) (ap (λ (t : DatabaseState). t.next) done) (ap (λ (t : DatabaseState). t.table) done)
          (λ m other. others_stay d e m other) (ap (λ (t : DatabaseState). map.get t.sessions n) done ∙ get_put_here nat_cmp_total d.sessions n y),
    )

pub failures : FailuresStayAhead
failures next next' hands d s e x was fails nexts =
    taken_over next next' hands d s e.session (failed_transaction x) was nexts (after_request d e) (ap (λ (t : DatabaseState). t.next) fails) (ap (λ (t : DatabaseState). t.table) fails)
    (λ m other. others_stay d e m other) (ap (λ (t : DatabaseState). map.get t.sessions e.session) fails ∙ get_put_here nat_cmp_total d.sessions e.session (failed_transaction x))

pub others_ahead : OthersStayAhead
others_ahead next next' hands d s n was same nexts =
    goes next next' hands None d d s s n was was.number was.table (λ m apart. refl) (λ m apart. refl) nexts (Idle same) (λ hand no. absurd (no_hand hand no))
