-- what one entry tells, against the requests of its statement
use Rattle.std.proofs.Common.{◌≡◌, ◌⊎◌, inl, inr, ℕ, Bool, true, false, List, [], ◌∷◌, Option, None, Some, refl, sym, ap, subst, ◌∙◌}
use Rattle.std.specs.Prelude.{if◌then◌else◌, length}
use Rattle.std.proofs.lemmas.Bool.{false≢true}
use Rattle.std.proofs.lemmas.Cmp.{nat_cmp_total}
use Rattle.std.proofs.lemmas.Option.{none-some, same_Some}
use Rattle.std.specs.FinMap as map
use Rattle.block_model.specs.declared.reply.Refusal.TheVariants as refusals
use Rattle.block_model.specs.declared.reply.Reply.{Reply}
use Rattle.block_model.specs.declared.reply.Reply.TheVariants as replies
use Rattle.block_model.specs.declared.request.Entry.{Entry}
use Rattle.block_model.specs.declared.request.Request.TheVariants as requests
use Rattle.block_model.specs.declared.request.Tag.TheVariants as tags
use Rattle.block_model.specs.declared.row.Query.{Query}
use Rattle.block_model.specs.declared.row.RowId.{RowId}
use Rattle.block_model.specs.declared.value.Value.{Value}
use Rattle.block_model.specs.DatabaseState.{DatabaseState, OpenTransaction}
use Rattle.block_model.specs.NumberMaps.{get_put_here}
use Rattle.block_model.specs.RequestEffect.{Answer, Begun, Committed, Found, Full, Inserted, NoMemory, RolledBack, after_begin, after_commit, after_failure, after_put, effect, failed_transaction, is_conflict, next_row, rows_found, with_transaction, without_transaction}
use Rattle.block_model.specs.RequestLaws.{effect_by}
use Rattle.block_model.specs.SerialRun.{replies_to, serial_run}
use Rattle.store_layout.specs.declared.statement.Statement.{Statement}
use Rattle.store_layout.specs.declared.statement.Statement.TheVariants as statements
use Rattle.store_layout.specs.StatementRequests.{end_reply, look_entry, refusal_at, reply_to_statement, request_entry, requests_of, submission_refusal, tagged_entry}
use Rattle.transcripts.specs.InTurn.{AreRequests, HasNumber, IndexIsFull, IsDeleteAlone, LeadsBy, NoNumber, NotTaken, Outside, RequestsAreTold, Taken, ToldAreRequests}
use Rattle.transcripts.specs.Laws.{ConflictHasCause, ConflictsHaveCauses}
use Rattle.transcripts.specs.Told as told
use Rattle.transcripts.specs.Told.{AreFree, BeginLacksMemory, Begins, Commits, Deletes, Deleting, FailsAt, InsertLacksMemory, Inserts, IsOutside, IsSound, LacksMemory, Limits, MarksAll, MayConflict, RollsBack, SelectLacksMemory, Selects, TableIsFull, Tells, marked}
use Rattle.transcripts.proofs.Allowed.{begin_allowed, commit_allowed, delete_allowed, insert_allowed, rollback_allowed, select_allowed, sound_at}
use Rattle.transcripts.proofs.Alone.{FirstConflict, IsAsRequested, IsBut, all_marked, but_is, free_or_conflict, goes_on, one_conflicts}

-- ---- what stands in the transaction

abbrev is_begin : Statement → Bool
is_begin statements.Begin = true
is_begin statement = false

no_begin : (statement : Statement) → is_begin statement ≡ false → statement ≡ statements.Begin → ⊥
no_begin statement not is = false≢true (sym not ∙ ap is_begin is)

told_end : (failed : Bool) → Some (if failed then replies.RolledBack else replies.Committed) ≡ end_reply ((if failed then RolledBack else Committed) ∷ [])
told_end true = refl
told_end false = refl

module _ (limits : Limits) (s : DatabaseState) (n : ℕ) where
  free_insert : (x : OpenTransaction) (table : ℕ) (values : List Value) → IsSound s n x → refusal_at s n (statements.Insert table values) ≡ None
  free_insert x table values sound = ap (λ (o : Option OpenTransaction). submission_refusal o (statements.Insert table values)) sound.under_way ∙ ap (λ (b : Bool). if b then Some refusals.Doomed else None) sound.whole

  free_select : (x : OpenTransaction) (q : Query) → IsSound s n x → refusal_at s n (statements.Select q) ≡ None
  free_select x q sound = ap (λ (o : Option OpenTransaction). submission_refusal o (statements.Select q)) sound.under_way ∙ ap (λ (b : Bool). if b then Some refusals.Doomed else None) sound.whole

  free_delete : (x : OpenTransaction) (q : Query) → IsSound s n x → refusal_at s n (statements.Delete q) ≡ None
  free_delete x q sound = ap (λ (o : Option OpenTransaction). submission_refusal o (statements.Delete q)) sound.under_way ∙ ap (λ (b : Bool). if b then Some refusals.Doomed else None) sound.whole

  -- one request
  by_one : (statement : Statement) (short full : Bool) (reply : Reply) (after : DatabaseState) (e : Entry) (a : Answer) → refusal_at s n statement ≡ None → HasNumber limits s short statement → requests_of s n short full statement ≡ e ∷ []
      → effect s e ≡ (after, a) → Some reply ≡ reply_to_statement limits.table_full statement (a ∷ []) → LeadsBy limits s n statement reply after
  by_one statement short full reply after e a free number is done replied = record {
    requests = requests_of s n short full statement;
    are = Taken statement short full reply free number
        (replied ∙ ap (λ (p : DatabaseState × Answer). reply_to_statement limits.table_full statement (p.1 ∷ [])) (sym done) ∙ ap (λ (l : List Entry). reply_to_statement limits.table_full statement (replies_to s l)) (sym is));
    after_is = ap (λ (p : DatabaseState × Answer). p.0) (sym done) ∙ ap (serial_run s) (sym is);
  }

  no_number : (short : Bool) (statement : Statement) → is_begin statement ≡ false → HasNumber limits s short statement
  no_number short statement not _ is = absurd (no_begin statement not is)

  -- the put of an insert that a full index refuses, and the row's before it
  pub full_index_run : (x : OpenTransaction) (table : ℕ) (values : List Value) → IsSound s n x
      → after_failure s n (after_put x table values) ≡ serial_run s (request_entry n table (requests.Put values) ∷ tagged_entry n table (requests.Put values) tags.Full ∷ [])
  full_index_run x table values sound =
      let y : OpenTransaction = after_put x table values in
      let t : DatabaseState = with_transaction s n y in
      let first : effect s (request_entry n table (requests.Put values)) ≡ (t, Inserted (next_row x table values).id) = effect_by s (request_entry n table (requests.Put values)) (Some x) sound.under_way in
      let second : effect t (tagged_entry n table (requests.Put values) tags.Full) ≡ (after_failure t n y, Full) =
      effect_by t (tagged_entry n table (requests.Put values) tags.Full) (Some y) (get_put_here nat_cmp_total s.sessions n y) in
      let itself : IsBut s s n x = record { next = refl; table = refl; own = sound.under_way; others = λ m other. refl } in
      but_is s (after_failure t n y) n (failed_transaction y) (goes_on s t n y (failed_transaction y) (goes_on s s n x y itself))
      ∙ ap (λ (p : DatabaseState × Answer). p.0) (sym second) ∙ ap (λ (p : DatabaseState × Answer). (effect p.0 (tagged_entry n table (requests.Put values) tags.Full)).0) (sym first)

  -- ---- a told statement is its requests

  module _ (next : ℕ → Option Statement) where
    deletes : (q : Query) (x y : OpenTransaction) (reply : Reply) → IsSound s n x → IsDeleteAlone next n → Deletes next s n q x reply y → LeadsBy limits s n (statements.Delete q) reply (with_transaction s n y)
    deletes q x _ _ sound alone (MarksAll free) = as_requested (all_marked limits s n q x sound free)
      where
        as_requested : IsAsRequested limits s n (statements.Delete q) (replies.Deleted (length (rows_found x q))) (with_transaction s n (marked x (rows_found x q)))
            → LeadsBy limits s n (statements.Delete q) (replies.Deleted (length (rows_found x q))) (with_transaction s n (marked x (rows_found x q)))
        as_requested r = record {
          requests = requests_of s n false false (statements.Delete q);
          are = Taken (statements.Delete q) false false _ (free_delete x q sound) (no_number false (statements.Delete q) refl) r.reply_is;
          after_is = r.after_is;
        }
    deletes q x _ _ sound alone (FailsAt before row after finds free cause) =
        let must : is_conflict s n x row.id ≡ true = elim cause [ inl must ↦ must | inr may ↦ absurd (alone may.1.other may.1.query may.1.apart may.1.is_delete) ] in
        let r = one_conflicts limits s n q x sound before row after finds free must in
        record {
          requests = requests_of s n false false (statements.Delete q);
          are = Taken (statements.Delete q) false false _ (free_delete x q sound) (no_number false (statements.Delete q) refl) r.reply_is;
          after_is = r.after_is;
        }
    deletes q x _ _ sound alone LacksMemory =
        by_one (statements.Delete q) true false (replies.Refused refusals.Memory) (after_failure s n x) (tagged_entry n q.table (requests.Look q) tags.NoMemory) NoMemory (free_delete x q sound) (no_number true (statements.Delete q) refl)
        refl (effect_by s (tagged_entry n q.table (requests.Look q) tags.NoMemory) (Some x) sound.under_way) refl

    pub leads_by : (statement : Statement) (reply : Reply) (after : DatabaseState) → ((q : Query) → statement ≡ statements.Delete q → IsDeleteAlone next n) → Tells limits next s n statement reply after
        → LeadsBy limits s n statement reply after
    leads_by _ _ _ alone (told.NotTaken statement refusal is) = record { requests = []; are = NotTaken statement refusal is; after_is = refl }
    leads_by _ _ _ alone (Begins none room) =
        by_one statements.Begin false false (replies.Begun s.next) (after_begin s n) (request_entry n 0 requests.Begin) (Begun s.next) (ap (λ (o : Option OpenTransaction). submission_refusal o statements.Begin) none) (λ _ _. room) refl
        (effect_by s (request_entry n 0 requests.Begin) None none) refl
    leads_by _ _ _ alone (told.NoNumber none is) = record { requests = []; are = NoNumber (ap (λ (o : Option OpenTransaction). submission_refusal o statements.Begin) none) is; after_is = refl }
    leads_by _ _ _ alone (BeginLacksMemory none) = record {
      requests = [];
      are = Taken statements.Begin true false (replies.Refused refusals.Memory) (ap (λ (o : Option OpenTransaction). submission_refusal o statements.Begin) none) (λ ample _. absurd (false≢true (sym ample))) refl;
      after_is = refl;
    }
    leads_by _ _ _ alone (Commits x got) =
        by_one statements.Commit false false (if x.failed then replies.RolledBack else replies.Committed) (after_commit s n x) (request_entry n 0 requests.Commit) (if x.failed then RolledBack else Committed)
        (ap (λ (o : Option OpenTransaction). submission_refusal o statements.Commit) got) (no_number false statements.Commit refl) refl (effect_by s (request_entry n 0 requests.Commit) (Some x) got) (told_end x.failed)
    leads_by _ _ _ alone (RollsBack x got) =
        by_one statements.Rollback false false replies.RolledBack (without_transaction s n) (request_entry n 0 requests.Rollback) RolledBack
        (ap (λ (o : Option OpenTransaction). submission_refusal o statements.Rollback) got) (no_number false statements.Rollback refl) refl (effect_by s (request_entry n 0 requests.Rollback) (Some x) got) refl
    leads_by _ _ _ alone (Inserts x table values sound) =
        by_one (statements.Insert table values) false false (replies.Inserted (next_row x table values).id) (with_transaction s n (after_put x table values)) (request_entry n table (requests.Put values)) (Inserted (next_row x table values).id)
        (free_insert x table values sound) (no_number false (statements.Insert table values) refl) refl (effect_by s (request_entry n table (requests.Put values)) (Some x) sound.under_way) refl
    leads_by _ _ _ alone (TableIsFull x table values sound) =
        by_one (statements.Insert table values) false true (replies.Refused (limits.table_full table)) (after_failure s n x) (tagged_entry n table (requests.Put values) tags.Full) Full
        (free_insert x table values sound) (no_number false (statements.Insert table values) refl) refl (effect_by s (tagged_entry n table (requests.Put values) tags.Full) (Some x) sound.under_way) refl
    leads_by _ _ _ alone (told.IndexIsFull x table at values sound) = record {
      requests = request_entry n table (requests.Put values) ∷ tagged_entry n table (requests.Put values) tags.Full ∷ [];
      are = IndexIsFull table at values (free_insert x table values sound);
      after_is = full_index_run x table values sound;
    }
    leads_by _ _ _ alone (InsertLacksMemory x table values sound) =
        by_one (statements.Insert table values) true false (replies.Refused refusals.Memory) (after_failure s n x) (tagged_entry n table (requests.Put values) tags.NoMemory) NoMemory
        (free_insert x table values sound) (no_number true (statements.Insert table values) refl) refl (effect_by s (tagged_entry n table (requests.Put values) tags.NoMemory) (Some x) sound.under_way) refl
    leads_by _ _ _ alone (Selects x q sound) =
        by_one (statements.Select q) false false (replies.Found (rows_found x q)) s (look_entry n q) (Found (rows_found x q))
        (free_select x q sound) (no_number false (statements.Select q) refl) refl (effect_by s (look_entry n q) (Some x) sound.under_way) refl
    leads_by _ _ _ alone (SelectLacksMemory x q sound) =
        by_one (statements.Select q) true false (replies.Refused refusals.Memory) (after_failure s n x) (tagged_entry n q.table (requests.Look q) tags.NoMemory) NoMemory
        (free_select x q sound) (no_number true (statements.Select q) refl) refl (effect_by s (tagged_entry n q.table (requests.Look q) tags.NoMemory) (Some x) sound.under_way) refl
    leads_by _ _ _ alone (Deleting x y q reply sound how) = deletes q x y reply sound (alone q refl) how
    leads_by _ _ _ alone (told.Outside statement reply out) = record { requests = []; are = Outside statement reply out; after_is = refl }

    -- ---- and its requests may be told

    abbrev ToldOf : Statement → Reply → DatabaseState → Type 0
    ToldOf statement reply after = Tells limits next s n statement reply after

    -- one request
    from_one : (statement : Statement) (short full : Bool) (reply said : Reply) (after : DatabaseState) (e : Entry) (a : Answer) → requests_of s n short full statement ≡ e ∷ [] → effect s e ≡ (after, a)
        → Some reply ≡ reply_to_statement limits.table_full statement (replies_to s (requests_of s n short full statement)) → Some said ≡ reply_to_statement limits.table_full statement (a ∷ []) → ToldOf statement said after
        → ToldOf statement reply (serial_run s (requests_of s n short full statement))
    from_one statement short full reply said after e a is done replied says tells =
        let same : said ≡ reply =
        same_Some _ _ (says ∙ ap (λ (p : DatabaseState × Answer). reply_to_statement limits.table_full statement (p.1 ∷ [])) (sym done) ∙ ap (λ (l : List Entry). reply_to_statement limits.table_full statement (replies_to s l)) (sym is) ∙ sym replied) in
        subst (ToldOf statement reply) (ap (λ (p : DatabaseState × Answer). p.0) (sym done) ∙ ap (serial_run s) (sym is)) (subst (λ r. ToldOf statement r after) same tells)

    from_delete : (q : Query) (x y : OpenTransaction) (reply said : Reply) → IsSound s n x → Some reply ≡ reply_to_statement limits.table_full (statements.Delete q) (replies_to s (requests_of s n false false (statements.Delete q)))
        → IsAsRequested limits s n (statements.Delete q) said (with_transaction s n y) → Deletes next s n q x said y → ToldOf (statements.Delete q) reply (serial_run s (requests_of s n false false (statements.Delete q)))
    from_delete q x y reply said sound replied is how =
        subst (ToldOf (statements.Delete q) reply) is.after_is (subst (λ r. ToldOf (statements.Delete q) r (with_transaction s n y)) (same_Some said reply (is.reply_is ∙ sym replied)) (Deleting x y q said sound how))

    delete_from : (q : Query) (x : OpenTransaction) (reply : Reply) → IsSound s n x → Some reply ≡ reply_to_statement limits.table_full (statements.Delete q) (replies_to s (requests_of s n false false (statements.Delete q)))
        → AreFree s n x (rows_found x q) ⊎ FirstConflict s n x (rows_found x q) → ToldOf (statements.Delete q) reply (serial_run s (requests_of s n false false (statements.Delete q)))
    delete_from q x reply sound replied (inl free) = from_delete q x _ reply _ sound replied (all_marked limits s n q x sound free) (MarksAll free)
    delete_from q x reply sound replied (inr c) =
        from_delete q x _ reply _ sound replied (one_conflicts limits s n q x sound c.before c.row c.after c.is c.free c.must) (FailsAt c.before c.row c.after c.is c.free (inl c.must))

    taken_told : (statement : Statement) (short full : Bool) (reply : Reply) → refusal_at s n statement ≡ None → HasNumber limits s short statement
        → Some reply ≡ reply_to_statement limits.table_full statement (replies_to s (requests_of s n short full statement)) → ToldOf statement reply (serial_run s (requests_of s n short full statement))
    taken_told statements.Begin true full reply free number replied = subst (λ r. ToldOf statements.Begin r s) (same_Some (replies.Refused refusals.Memory) reply (sym replied)) (BeginLacksMemory (begin_allowed (map.get s.sessions n) free))
    taken_told statements.Begin false full reply free number replied =
        let none = begin_allowed (map.get s.sessions n) free in
        from_one statements.Begin false full reply (replies.Begun s.next) (after_begin s n) (request_entry n 0 requests.Begin) (Begun s.next) refl (effect_by s (request_entry n 0 requests.Begin) None none) replied refl
        (Begins none (number refl refl))
    taken_told statements.Commit short full reply free number replied =
        let some = commit_allowed (map.get s.sessions n) free in
        let x : OpenTransaction = some.0 in
        from_one statements.Commit short full reply (if x.failed then replies.RolledBack else replies.Committed) (after_commit s n x) (request_entry n 0 requests.Commit) (if x.failed then RolledBack else Committed) refl
        (effect_by s (request_entry n 0 requests.Commit) (Some x) some.1) replied (told_end x.failed) (Commits x some.1)
    taken_told statements.Rollback short full reply free number replied =
        let some = rollback_allowed (map.get s.sessions n) free in
        let x : OpenTransaction = some.0 in
        from_one statements.Rollback short full reply replies.RolledBack (without_transaction s n) (request_entry n 0 requests.Rollback) RolledBack refl
        (effect_by s (request_entry n 0 requests.Rollback) (Some x) some.1) replied refl (RollsBack x some.1)
    taken_told (statements.Insert table values) true full reply free number replied =
        let some = sound_at s n (statements.Insert table values) (insert_allowed table values) free in
        let x : OpenTransaction = some.0 in
        from_one (statements.Insert table values) true full reply (replies.Refused refusals.Memory) (after_failure s n x) (tagged_entry n table (requests.Put values) tags.NoMemory) NoMemory refl
        (effect_by s (tagged_entry n table (requests.Put values) tags.NoMemory) (Some x) some.1.under_way) replied refl (InsertLacksMemory x table values some.1)
    taken_told (statements.Insert table values) false true reply free number replied =
        let some = sound_at s n (statements.Insert table values) (insert_allowed table values) free in
        let x : OpenTransaction = some.0 in
        from_one (statements.Insert table values) false true reply (replies.Refused (limits.table_full table)) (after_failure s n x) (tagged_entry n table (requests.Put values) tags.Full) Full refl
        (effect_by s (tagged_entry n table (requests.Put values) tags.Full) (Some x) some.1.under_way) replied refl (TableIsFull x table values some.1)
    taken_told (statements.Insert table values) false false reply free number replied =
        let some = sound_at s n (statements.Insert table values) (insert_allowed table values) free in
        let x : OpenTransaction = some.0 in
        from_one (statements.Insert table values) false false reply (replies.Inserted (next_row x table values).id) (with_transaction s n (after_put x table values)) (request_entry n table (requests.Put values)) (Inserted (next_row x table values).id) refl
        (effect_by s (request_entry n table (requests.Put values)) (Some x) some.1.under_way) replied refl (Inserts x table values some.1)
    taken_told (statements.Select q) true full reply free number replied =
        let some = sound_at s n (statements.Select q) (select_allowed q) free in
        let x : OpenTransaction = some.0 in
        from_one (statements.Select q) true full reply (replies.Refused refusals.Memory) (after_failure s n x) (tagged_entry n q.table (requests.Look q) tags.NoMemory) NoMemory refl
        (effect_by s (tagged_entry n q.table (requests.Look q) tags.NoMemory) (Some x) some.1.under_way) replied refl (SelectLacksMemory x q some.1)
    taken_told (statements.Select q) false full reply free number replied =
        let some = sound_at s n (statements.Select q) (select_allowed q) free in
        let x : OpenTransaction = some.0 in
        from_one (statements.Select q) false full reply (replies.Found (rows_found x q)) s (look_entry n q) (Found (rows_found x q)) refl
        (effect_by s (look_entry n q) (Some x) some.1.under_way) replied refl (Selects x q some.1)
    taken_told (statements.Delete q) true full reply free number replied =
        let some = sound_at s n (statements.Delete q) (delete_allowed q) free in
        let x : OpenTransaction = some.0 in
        from_one (statements.Delete q) true full reply (replies.Refused refusals.Memory) (after_failure s n x) (tagged_entry n q.table (requests.Look q) tags.NoMemory) NoMemory refl
        (effect_by s (tagged_entry n q.table (requests.Look q) tags.NoMemory) (Some x) some.1.under_way) replied refl (Deleting x (failed_transaction x) q (replies.Refused refusals.Memory) some.1 LacksMemory)
    taken_told (statements.Delete q) false full reply free number replied =
        let some = sound_at s n (statements.Delete q) (delete_allowed q) free in delete_from q some.0 reply some.1 replied (free_or_conflict s n some.0 (rows_found some.0 q))
    taken_told statement short full reply free number replied = absurd (none-some reply (sym replied))

    pub told_by : (statement : Statement) (reply : Reply) (made : List Entry) → AreRequests limits s n statement reply made → ToldOf statement reply (serial_run s made)
    told_by _ _ _ (NotTaken statement refusal is) = told.NotTaken statement refusal is
    told_by _ _ _ (Taken statement short full reply free number replied) = taken_told statement short full reply free number replied
    told_by _ _ _ (NoNumber free is) = told.NoNumber (begin_allowed (map.get s.sessions n) free) is
    told_by _ _ _ (IndexIsFull table at values free) =
        let some = sound_at s n (statements.Insert table values) (insert_allowed table values) free in
        subst (ToldOf (statements.Insert table values) (replies.Refused (limits.index_full table at))) (full_index_run some.0 table values some.1) (told.IndexIsFull some.0 table at values some.1)
    told_by _ _ _ (Outside statement reply out) = told.Outside statement reply out

pub told_are_requests : ToldAreRequests
told_are_requests limits next s after n statement reply alone tells = leads_by limits s n next statement reply after alone tells

pub requests_are_told : RequestsAreTold
requests_are_told limits next s n statement reply made are = told_by limits s n next statement reply made are

-- ---- conflicts

module _ (limits : Limits) (next : ℕ → Option Statement) (s : DatabaseState) (n : ℕ) where
  delete_cause : (q : Query) (x y : OpenTransaction) (reply : Reply) (id : RowId) → IsSound s n x → Deletes next s n q x reply y → reply ≡ replies.Refused (refusals.Conflict id) → ConflictHasCause next s n q id
  delete_cause q x _ _ id sound (MarksAll free) is = absurd (no_conflict_told _ id is)
    where
      no_conflict_told : (k : ℕ) (id : RowId) → replies.Deleted k ≡ replies.Refused (refusals.Conflict id) → ⊥
      no_conflict_told k id e = cc
  delete_cause q x _ _ id sound (FailsAt before row after finds free cause) is =
      record { transaction = x; sound = sound; before = before; row = row; rest = after; finds = finds; is = same_id row.id id is; cause = cause }
    where
      same_id : (a b : RowId) → replies.Refused (refusals.Conflict a) ≡ replies.Refused (refusals.Conflict b) → a ≡ b
      same_id a b e = cc
  delete_cause q x _ _ id sound LacksMemory is = absurd (no_memory id is)
    where
      no_memory : (id : RowId) → replies.Refused refusals.Memory ≡ replies.Refused (refusals.Conflict id) → ⊥
      no_memory id e = cc

  cause_of : (q : Query) (id : RowId) (statement : Statement) (reply : Reply) (after : DatabaseState) → refusal_at s n statement ≡ None → Tells limits next s n statement reply after
      → statement ≡ statements.Delete q → reply ≡ replies.Refused (refusals.Conflict id) → ConflictHasCause next s n q id
  cause_of q id _ _ _ free (told.NotTaken statement refusal taken) is replied = absurd (none-some refusal (sym free ∙ taken))
  cause_of q id _ _ _ free (Deleting x y q' reply sound how) is replied = subst_query q' q is (delete_cause q' x y reply id sound how replied)
    where
      same_query : (a b : Query) → statements.Delete a ≡ statements.Delete b → a ≡ b
      same_query a b e = cc

      subst_query : (a b : Query) → statements.Delete a ≡ statements.Delete b → ConflictHasCause next s n a id → ConflictHasCause next s n b id
      subst_query a b e has = subst (λ (k : Query). ConflictHasCause next s n k id) (same_query a b e) has
  cause_of q id _ _ _ free (told.Outside statement reply out) is replied = absurd (subst IsOutside is out)
  cause_of q id _ _ _ free tells is replied = absurd (cc)

pub conflicts_have_causes : ConflictsHaveCauses
conflicts_have_causes limits next s after n q id free tells = cause_of limits next s n q id (statements.Delete q) (replies.Refused (refusals.Conflict id)) after free tells refl refl
