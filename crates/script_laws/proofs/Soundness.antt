-- Which requests leave a session's transaction sound, that is under way and not failed.
use Rattle.std.proofs.Common.{◌≡◌, ℕ, ◌≤◌, Bool, true, false, List, [], ◌∷◌, ◌++◌, Option, None, Some, refl, sym, ap, ◌∙◌, subst, arith, append-nil}
use Rattle.std.specs.Prelude.{if◌then◌else◌}
use Rattle.std.specs.Option.{option_map}
use Rattle.std.specs.FinMap.{get}
use Rattle.std.proofs.lemmas.Cmp.{nat_cmp_total}
use Rattle.std.proofs.lemmas.Option.{none-some, same_Some}
use Rattle.block_model.specs.declared.reply.Refusal.TheVariants as refusals
use Rattle.block_model.specs.declared.request.Entry.{Entry}
use Rattle.block_model.specs.declared.request.Request.{Request}
use Rattle.block_model.specs.declared.request.Request.TheVariants.{Begin, Put, Look, Mark, Commit, Rollback}
use Rattle.block_model.specs.declared.request.Tag.{Tag}
use Rattle.block_model.specs.declared.request.Tag.TheVariants as tags
use Rattle.block_model.specs.declared.row.Row.{Row}
use Rattle.block_model.specs.declared.row.RowId.{RowId}
use Rattle.block_model.specs.declared.value.Value.{Value}
use Rattle.block_model.specs.DatabaseState.{DatabaseState, OpenTransaction}
use Rattle.block_model.specs.NumberMaps.{get_put_here, get_removed_here}
use Rattle.block_model.specs.RequestEffect.{Answer, Found, after_commit, after_mark, after_request, effect_at, effect_outside, effect_within, after_put, failed_transaction, is_conflict, with_transaction, without_transaction}
use Rattle.block_model.specs.RequestLaws.{commit_merges, effect_by, failed_commit_ends, mark_effect, others_stay}
use Rattle.block_model.specs.SerialRun.{serial_run, serial_run-append}
use Rattle.store_layout.specs.declared.statement.Statement.{Statement}
use Rattle.store_layout.specs.declared.statement.Statement.TheVariants as statements
use Rattle.store_layout.specs.StatementRequests.{mark_entry, refusal_at, request_entry, submission_refusal, tagged_entry}
use Rattle.script_semantics.specs.Requests.{next_request, refused_request, row_to_mark}

abbrev pub one_unless : (failed : Bool) → ℕ
one_unless failed = if failed then 0 else 1

abbrev pub sound : Option OpenTransaction → ℕ
sound None = 0
sound (Some x) = one_unless x.failed

abbrev pub sound_at : DatabaseState → ℕ → ℕ
sound_at s n = sound (get s.sessions n)

by_failure : (failed : Bool) → one_unless failed ≤ 1
by_failure true = omega arith
by_failure false = omega arith

sound_once : (o : Option OpenTransaction) → sound o ≤ 1
sound_once None = omega arith
sound_once (Some x) = by_failure x.failed

pub one_sound : (s : DatabaseState) (n : ℕ) → sound_at s n ≤ 1
one_sound s n = sound_once (get s.sessions n)

same_less : (a b : ℕ) → a ≡ b → a ≤ b
same_less a b same = omega (arith, same)

none_less : (a b : ℕ) → a ≡ 0 → a ≤ b
none_less a b none = omega (arith, none)

module _ (s : DatabaseState) (n : ℕ) where
  put_sound : (y : OpenTransaction) → sound_at (with_transaction s n y) n ≡ sound (Some y)
  put_sound y = ap sound (get_put_here nat_cmp_total s.sessions n y)

  removed_sound : sound_at (without_transaction s n) n ≡ 0
  removed_sound = ap sound (get_removed_here nat_cmp_total s.sessions n)

  committed_sound : (x : OpenTransaction) (failed : Bool) → x.failed ≡ failed → sound_at (after_commit s n x) n ≡ 0
  committed_sound x true is = ap (λ (t : DatabaseState). sound_at t n) (failed_commit_ends s n x is) ∙ removed_sound
  committed_sound x false is = ap (λ (t : DatabaseState). sound_at t n) (commit_merges s n x is) ∙ removed_sound

  marked_sound : (x : OpenTransaction) (id : RowId) (conflicts : Bool) → sound_at (mark_effect s n x id conflicts).0 n ≤ sound (Some x)
  marked_sound x id true = none_less _ _ (put_sound (failed_transaction x))
  marked_sound x id false = same_less _ _ (put_sound (after_mark x id))

  -- of a transaction that is under way
  within_sound : (x : OpenTransaction) → get s.sessions n ≡ Some x → (table : ℕ) (request : Request) (tag : Tag) → sound_at (effect_within s n x table request tag).0 n ≤ sound (Some x)
  within_sound x got table (Put values) tags.Ok = same_less _ _ (put_sound (after_put x table values))
  within_sound x got table (Put values) tags.Full = none_less _ _ (put_sound (failed_transaction x))
  within_sound x got table (Put values) tags.NoMemory = none_less _ _ (put_sound (failed_transaction x))
  within_sound x got table (Look q) tags.NoMemory = none_less _ _ (put_sound (failed_transaction x))
  within_sound x got table (Look q) tags.Ok = same_less _ _ (ap sound got)
  within_sound x got table (Look q) tags.Full = same_less _ _ (ap sound got)
  within_sound x got table (Mark id) tag = marked_sound x id (is_conflict s n x id)
  within_sound x got table Commit tag = none_less _ _ (committed_sound x x.failed refl)
  within_sound x got table Rollback tag = none_less _ _ removed_sound
  within_sound x got table Begin tag = same_less _ _ (ap sound got)

abbrev pub IsBegin : Request → Type 0
IsBegin Begin = Unit {0}
IsBegin request = ⊥

outside_sound : (s : DatabaseState) (e : Entry) (request : Request) → e.request ≡ request → ¬ (IsBegin request) → get s.sessions e.session ≡ None → sound_at (effect_at None s e).0 e.session ≤ sound_at s e.session
outside_sound s e Begin is not got = absurd (not tt)
outside_sound s e request is not got = same_less _ _ (ap (λ (r : Request). sound_at (effect_outside s e.session r).0 e.session) is)

-- what isn't a begin makes none sound
pub fewer_sound : (s : DatabaseState) (e : Entry) → ¬ (IsBegin e.request) → sound_at (after_request s e) e.session ≤ sound_at s e.session
fewer_sound s e not = by (get s.sessions e.session) refl
  where
    by : (o : Option OpenTransaction) → get s.sessions e.session ≡ o → sound_at (after_request s e) e.session ≤ sound_at s e.session
    by None got = subst (λ (r : DatabaseState × Answer). sound_at r.0 e.session ≤ sound_at s e.session) (sym (effect_by s e None got)) (outside_sound s e e.request refl not got)
    by (Some x) got =
        subst (λ (r : DatabaseState × Answer). sound_at r.0 e.session ≤ sound_at s e.session) (sym (effect_by s e (Some x) got))
        (subst (λ (o : Option OpenTransaction). sound_at (effect_within s e.session x e.table e.request e.tag).0 e.session ≤ sound o) (sym got) (within_sound s e.session x got e.table e.request e.tag))

-- ---- a put

put_within : (s : DatabaseState) (n table : ℕ) (values : List Value) (tag : Tag) (o : Option OpenTransaction) → get s.sessions n ≡ o
    → sound_at (after_request s (tagged_entry n table (Put values) tag)) n ≡ sound_at (effect_at o s (tagged_entry n table (Put values) tag)).0 n
put_within s n table values tag o got = ap (λ (r : DatabaseState × Answer). sound_at r.0 n) (effect_by s (tagged_entry n table (Put values) tag) o got)

-- that goes well leaves it as it was
pub put_keeps : (s : DatabaseState) (n table : ℕ) (values : List Value) → sound_at (after_request s (request_entry n table (Put values))) n ≡ sound_at s n
put_keeps s n table values = by (get s.sessions n) refl
  where
    by : (o : Option OpenTransaction) → get s.sessions n ≡ o → sound_at (after_request s (request_entry n table (Put values))) n ≡ sound_at s n
    by None got = put_within s n table values tags.Ok None got
    by (Some x) got = put_within s n table values tags.Ok (Some x) got ∙ put_sound s n (after_put x table values) ∙ ap sound (sym got)

-- and one that is refused fails it
pub put_fails : (s : DatabaseState) (n table : ℕ) (values : List Value) (tag : Tag) → (tag ≡ tags.Ok → ⊥) → sound_at (after_request s (tagged_entry n table (Put values) tag)) n ≡ 0
put_fails s n table values tags.Ok failed = absurd (failed refl)
put_fails s n table values tags.Full failed = by (get s.sessions n) refl
  where
    by : (o : Option OpenTransaction) → get s.sessions n ≡ o → sound_at (after_request s (tagged_entry n table (Put values) tags.Full)) n ≡ 0
    by None got = put_within s n table values tags.Full None got ∙ ap sound got
    by (Some x) got = put_within s n table values tags.Full (Some x) got ∙ put_sound s n (failed_transaction x)
put_fails s n table values tags.NoMemory failed = by (get s.sessions n) refl
  where
    by : (o : Option OpenTransaction) → get s.sessions n ≡ o → sound_at (after_request s (tagged_entry n table (Put values) tags.NoMemory)) n ≡ 0
    by None got = put_within s n table values tags.NoMemory None got ∙ ap sound got
    by (Some x) got = put_within s n table values tags.NoMemory (Some x) got ∙ put_sound s n (failed_transaction x)

-- ---- the requests of a statement

-- are its session's
pub one_session : (n : ℕ) (statement : Statement) (answers : List Answer) (e : Entry) → next_request n statement answers ≡ Some e → e.session ≡ n
one_session n statements.Begin [] e is = subst (λ (x : Entry). x.session ≡ n) (same_Some _ _ is) refl
one_session n statements.Commit [] e is = subst (λ (x : Entry). x.session ≡ n) (same_Some _ _ is) refl
one_session n statements.Rollback [] e is = subst (λ (x : Entry). x.session ≡ n) (same_Some _ _ is) refl
one_session n (statements.Insert table values) [] e is = subst (λ (x : Entry). x.session ≡ n) (same_Some _ _ is) refl
one_session n (statements.Select q) [] e is = subst (λ (x : Entry). x.session ≡ n) (same_Some _ _ is) refl
one_session n (statements.Delete q) [] e is = subst (λ (x : Entry). x.session ≡ n) (same_Some _ _ is) refl
one_session n (statements.Delete q) (Found found ∷ marks) e is = marked (row_to_mark found marks) is
  where
    marked : (o : Option Row) → option_map (mark_entry n q.table) o ≡ Some e → e.session ≡ n
    marked None none = absurd (none-some _ none)
    marked (Some row) some = subst (λ (x : Entry). x.session ≡ n) (same_Some _ _ some) refl
one_session n statement answers e is = absurd (none-some _ is)

abbrev pub IsBeginning : Statement → Type 0
IsBeginning statements.Begin = Unit {0}
IsBeginning statement = ⊥

-- and none but a begin's begins
pub none_begins : (n : ℕ) (statement : Statement) (answers : List Answer) (e : Entry) → ¬ (IsBeginning statement) → next_request n statement answers ≡ Some e → ¬ (IsBegin e.request)
none_begins n statements.Begin answers e not is = absurd (not tt)
none_begins n statements.Commit [] e not is = subst (λ (x : Entry). ¬ (IsBegin x.request)) (same_Some _ _ is) (λ begins. begins)
none_begins n statements.Rollback [] e not is = subst (λ (x : Entry). ¬ (IsBegin x.request)) (same_Some _ _ is) (λ begins. begins)
none_begins n (statements.Insert table values) [] e not is = subst (λ (x : Entry). ¬ (IsBegin x.request)) (same_Some _ _ is) (λ begins. begins)
none_begins n (statements.Select q) [] e not is = subst (λ (x : Entry). ¬ (IsBegin x.request)) (same_Some _ _ is) (λ begins. begins)
none_begins n (statements.Delete q) [] e not is = subst (λ (x : Entry). ¬ (IsBegin x.request)) (same_Some _ _ is) (λ begins. begins)
none_begins n (statements.Delete q) (Found found ∷ marks) e not is = marked (row_to_mark found marks) is
  where
    marked : (o : Option Row) → option_map (mark_entry n q.table) o ≡ Some e → ¬ (IsBegin e.request)
    marked None none = absurd (none-some _ none)
    marked (Some row) some = subst (λ (x : Entry). ¬ (IsBegin x.request)) (same_Some _ _ some) (λ begins. begins)
none_begins n statement answers e not is = absurd (none-some _ is)

abbrev pub IsInsert : Statement → Type 0
IsInsert (statements.Insert table values) = Unit {0}
IsInsert statement = ⊥

-- ---- in a journal

abbrev pub sessions_behind : DatabaseState → List Entry → ℕ → Option OpenTransaction
sessions_behind o journal m = get (serial_run o journal).sessions m

abbrev pub sound_behind : DatabaseState → List Entry → ℕ → ℕ
sound_behind o journal n = sound_at (serial_run o journal) n

behind_one : (o : DatabaseState) (journal : List Entry) (e : Entry) → serial_run o (journal ++ e ∷ []) ≡ after_request (serial_run o journal) e
behind_one o journal e = serial_run-append o journal (e ∷ [])

-- the others' transactions stay
pub others_behind : (o : DatabaseState) (journal : List Entry) (n : ℕ) (e : Entry) → e.session ≡ n → (m : ℕ) → (m ≡ n → ⊥) → sessions_behind o (journal ++ e ∷ []) m ≡ sessions_behind o journal m
others_behind o journal n e own m apart =
    ap (λ (s : DatabaseState). get s.sessions m) (behind_one o journal e) ∙ others_stay (serial_run o journal) e m (λ same. apart (same ∙ own))

pub fewer_behind : (o : DatabaseState) (journal : List Entry) (n : ℕ) (e : Entry) → e.session ≡ n → ¬ (IsBegin e.request) → sound_behind o (journal ++ e ∷ []) n ≤ sound_behind o journal n
fewer_behind o journal n e own not =
    subst (λ (m : ℕ). sound_behind o (journal ++ e ∷ []) m ≤ sound_behind o journal m) own
    (subst (λ (s : DatabaseState). sound_at s e.session ≤ sound_behind o journal e.session) (sym (behind_one o journal e)) (fewer_sound (serial_run o journal) e not))

-- a put leaves it as it was
pub insert_behind : (o : DatabaseState) (journal : List Entry) (n : ℕ) (statement : Statement) (answers : List Answer) (e : Entry) → IsInsert statement → next_request n statement answers ≡ Some e
    → sound_behind o (journal ++ e ∷ []) n ≡ sound_behind o journal n
insert_behind o journal n (statements.Insert table values) [] e is next =
    subst (λ (x : Entry). sound_behind o (journal ++ x ∷ []) n ≡ sound_behind o journal n) (same_Some _ _ next)
    (ap (λ (s : DatabaseState). sound_at s n) (behind_one o journal (request_entry n table (Put values))) ∙ put_keeps (serial_run o journal) n table values)
insert_behind o journal n (statements.Insert table values) (answer ∷ answers) e is next = absurd (none-some _ next)
insert_behind o journal n statement answers e is next = absurd is

pub failed_behind : (o : DatabaseState) (journal : List Entry) (n : ℕ) (tag : Tag) (statement : Statement) → IsInsert statement → (tag ≡ tags.Ok → ⊥) → sound_behind o (journal ++ refused_request n tag statement) n ≡ 0
failed_behind o journal n tag (statements.Insert table values) is failed =
    ap (λ (s : DatabaseState). sound_at s n) (behind_one o journal (tagged_entry n table (Put values) tag)) ∙ put_fails (serial_run o journal) n table values tag failed
failed_behind o journal n tag statement is failed = absurd is

-- a refusal's request is its session's too, and begins nothing
pub refused_others : (o : DatabaseState) (journal : List Entry) (n : ℕ) (tag : Tag) (statement : Statement) (m : ℕ) → (m ≡ n → ⊥) → sessions_behind o (journal ++ refused_request n tag statement) m ≡ sessions_behind o journal m
refused_others o journal n tag (statements.Insert table values) m apart = others_behind o journal n (tagged_entry n table (Put values) tag) refl m apart
refused_others o journal n tag (statements.Select q) m apart = others_behind o journal n (tagged_entry n q.table (Look q) tag) refl m apart
refused_others o journal n tag (statements.Delete q) m apart = others_behind o journal n (tagged_entry n q.table (Look q) tag) refl m apart
refused_others o journal n tag statement m apart = ap (λ (j : List Entry). sessions_behind o j m) (append-nil journal)

pub refused_fewer : (o : DatabaseState) (journal : List Entry) (n : ℕ) (tag : Tag) (statement : Statement) → sound_behind o (journal ++ refused_request n tag statement) n ≤ sound_behind o journal n
refused_fewer o journal n tag (statements.Insert table values) = fewer_behind o journal n (tagged_entry n table (Put values) tag) refl (λ begins. begins)
refused_fewer o journal n tag (statements.Select q) = fewer_behind o journal n (tagged_entry n q.table (Look q) tag) refl (λ begins. begins)
refused_fewer o journal n tag (statements.Delete q) = fewer_behind o journal n (tagged_entry n q.table (Look q) tag) refl (λ begins. begins)
refused_fewer o journal n tag statement = same_less _ _ (ap (λ (j : List Entry). sound_behind o j n) (append-nil journal))

-- ---- a statement that is taken

-- an insert's transaction is sound
pub taken_sound : (s : DatabaseState) (n : ℕ) (statement : Statement) → IsInsert statement → refusal_at s n statement ≡ None → sound_at s n ≡ 1
taken_sound s n (statements.Insert table values) is allowed = by (get s.sessions n) allowed
  where
    by_failed : (failed : Bool) → (if failed then Some refusals.Doomed else None) ≡ None → one_unless failed ≡ 1
    by_failed true none = absurd (none-some _ (sym none))
    by_failed false none = refl

    by : (o : Option OpenTransaction) → submission_refusal o (statements.Insert table values) ≡ None → sound o ≡ 1
    by None none = absurd (none-some _ (sym none))
    by (Some x) none = by_failed x.failed none
taken_sound s n statement is allowed = absurd is
