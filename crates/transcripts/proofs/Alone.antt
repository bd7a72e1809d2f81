-- the requests of a delete, by the rows that must conflict
use Rattle.std.proofs.Common.{arith, ◌≡◌, ◌≢◌, ◌⊎◌, inl, inr, ℕ, ◌+◌, Bool, true, false, not, ◌&&◌, ◌||◌, List, [], ◌∷◌, ◌++◌, length, Some, refl, sym, ap, ◌∙◌, eqb, eq-eqb}
use Rattle.std.proofs.lemmas.Bool.{and_parts, cases_eq, false≢true}
use Rattle.std.proofs.lemmas.Cmp.{nat_cmp_total}
use Rattle.std.proofs.lemmas.List.{append-nil}
use Rattle.std.proofs.lemmas.List.Elements.{All-cons, All-head, All-nil, All-tail}
use Rattle.std.specs.FinMap as map
use Rattle.std.specs.FinMap.{nat_cmp-IsAntisymmetric, same_map}
use Rattle.std.specs.FinSet as set
use Rattle.block_model.specs.declared.reply.Refusal.TheVariants as refusals
use Rattle.block_model.specs.declared.reply.Reply.{Reply}
use Rattle.block_model.specs.declared.reply.Reply.TheVariants as replies
use Rattle.block_model.specs.declared.row.Query.{Query}
use Rattle.block_model.specs.declared.row.Row.{Row}
use Rattle.block_model.specs.declared.row.RowId.{RowId}
use Rattle.block_model.specs.DatabaseState.{DatabaseState, OpenTransaction}
use Rattle.block_model.specs.NumberMaps.{get_put_apart, get_put_here, numbers_apart}
use Rattle.block_model.specs.RequestEffect.{Conflict, Found, Marked, after_failure, after_mark, effect, failed_transaction, is_conflict, marked_elsewhere, rows_found, with_transaction}
use Rattle.block_model.specs.RequestLaws.{effect_by, mark_effect}
use Rattle.block_model.specs.SerialRun.{replies_to, serial_run}
use Rattle.store_layout.specs.declared.statement.Statement.{Statement}
use Rattle.store_layout.specs.declared.statement.Statement.TheVariants as statements
use Rattle.store_layout.specs.StatementRequests.{deleted_reply, found_in, look_entry, mark_entries, mark_entry, marks_reply, reply_to_statement, requests_of, unless_conflict}
use Rattle.transcripts.specs.Told.{AreFree, IsSound, Limits, marked}
use Rattle.transcripts.proofs.Maps.{any_entry, some_entry}

-- the same database, but for the transaction of session n
pub record IsBut (s t : DatabaseState) (n : ℕ) (y : OpenTransaction) : Type 0 where
  pub next : t.next ≡ s.next
  pub table : t.table ≡ s.table
  pub own : map.get t.sessions n ≡ Some y
  pub others : (m : ℕ) → m ≢ n → map.get t.sessions m ≡ map.get s.sessions m

-- so another transaction of it leads to
pub goes_on : (s t : DatabaseState) (n : ℕ) (y z : OpenTransaction) → IsBut s t n y → IsBut s (with_transaction t n z) n z
goes_on s t n y z but = record {
  next = but.next;
  table = but.table;
  own = get_put_here nat_cmp_total t.sessions n z;
  others = λ m other. get_put_apart nat_cmp_total t.sessions n m z (numbers_apart m n other) ∙ but.others m other;
}

pub but_is : (s t : DatabaseState) (n : ℕ) (y : OpenTransaction) → IsBut s t n y → with_transaction s n y ≡ t
but_is s t n y but = λ i. record { next = sym but.next i; table = sym but.table i; sessions = sym (same_map nat_cmp_total nat_cmp-IsAntisymmetric t.sessions (map.insert s.sessions n y) each) i }
  where
    each : (m : ℕ) → map.get t.sessions m ≡ map.get (map.insert s.sessions n y) m
    each m = elim (cases_eq m n) [
      | inl same ↦ ap (map.get t.sessions) same ∙ but.own ∙ sym (get_put_here nat_cmp_total s.sessions n y) ∙ ap (map.get (map.insert s.sessions n y)) (sym same)
      | inr other ↦ but.others m other ∙ sym (get_put_apart nat_cmp_total s.sessions n m y (numbers_apart m n other))
    ]

apart_of : (m n : ℕ) → not (eqb m n) ≡ true → m ≢ n
apart_of m n h same = false≢true (sym (ap not (eq-eqb m n same)) ∙ h)

-- what other sessions have marked is the same
marked_there : (s t : DatabaseState) (n : ℕ) (id : RowId) → ((m : ℕ) → m ≢ n → map.get t.sessions m ≡ map.get s.sessions m) → marked_elsewhere s n id ≡ true → marked_elsewhere t n id ≡ true
marked_there s t n id others held =
    let e = some_entry (λ e. not (eqb e.0 n) && set.contains e.1.marks id) s.sessions held in
    let both = and_parts (not (eqb e.0 n)) (set.contains e.1.marks id) e.3 in
    any_entry (λ e. not (eqb e.0 n) && set.contains e.1.marks id) t.sessions e.0 e.1 (others e.0 (apart_of e.0 n both.0) ∙ e.2) e.3

same_truth : (a b : Bool) → (a ≡ true → b ≡ true) → (b ≡ true → a ≡ true) → a ≡ b
same_truth true b there back = sym (there refl)
same_truth false true there back = back refl
same_truth false false there back = refl

conflicts_alike : (s t : DatabaseState) (n : ℕ) (x y : OpenTransaction) (id : RowId) → IsBut s t n y → y.t ≡ x.t → is_conflict t n y id ≡ is_conflict s n x id
conflicts_alike s t n x y id but number =
    let held : marked_elsewhere t n id ≡ marked_elsewhere s n id = same_truth (marked_elsewhere t n id) (marked_elsewhere s n id)
    (marked_there t s n id (λ m other. sym (but.others m other))) (marked_there s t n id but.others) in
    λ i. not (eqb id.t (number i)) && (not (map.contains_key (but.table i) id) || held i)

module _ (s : DatabaseState) (n table : ℕ) (x : OpenTransaction) where
  -- behind the marks of these rows, with those left
  record IsBehind (t : DatabaseState) (y : OpenTransaction) (count : ℕ) (rows tail : List Row) : Type 0 where
    further : DatabaseState
    but : IsBut s further n (marked y rows)
    number : (marked y rows).t ≡ x.t
    runs : serial_run t (mark_entries t n table (rows ++ tail)) ≡ serial_run further (mark_entries further n table tail)
    replied : marks_reply count (replies_to t (mark_entries t n table (rows ++ tail))) ≡ marks_reply (count + length rows) (replies_to further (mark_entries further n table tail))

  run_marks : (rows tail : List Row) (t : DatabaseState) (y : OpenTransaction) (count : ℕ) → IsBut s t n y → y.t ≡ x.t → AreFree s n x rows → IsBehind t y count rows tail
  run_marks [] tail t y count but number free =
      record { further = t; but = but; number = number; runs = refl; replied = ap (λ k. marks_reply k (replies_to t (mark_entries t n table tail))) (omega arith) }
  run_marks (row ∷ rows) tail t y count but number free =
      let e = mark_entry n table row in
      let holds : is_conflict t n y row.id ≡ false = conflicts_alike s t n x y row.id but number ∙ All-head (λ (r : Row). is_conflict s n x r.id ≡ false) row rows free in
      let done : effect t e ≡ (with_transaction t n (after_mark y row.id), Marked) = effect_by t e (Some y) but.own ∙ ap (λ b. mark_effect t n y row.id b) holds in
      let u : DatabaseState = with_transaction t n (after_mark y row.id) in
      let rest = run_marks rows tail u (after_mark y row.id) (count + 1) (goes_on s t n y (after_mark y row.id) but) number (All-tail (λ (r : Row). is_conflict s n x r.id ≡ false) row rows free) in
      record {
        further = rest.further;
        but = rest.but;
        number = rest.number;
        runs = (λ i. serial_run (done i).0 (unless_conflict (done i).1 (mark_entries (done i).0 n table (rows ++ tail)))) ∙ rest.runs;
        replied = (λ i. marks_reply count ((done i).1 ∷ replies_to (done i).0 (unless_conflict (done i).1 (mark_entries (done i).0 n table (rows ++ tail))))) ∙ rest.replied
            ∙ ap (λ k. marks_reply k (replies_to rest.further (mark_entries rest.further n table tail))) (omega arith);
      }

-- the requests of the statement, where memory isn't short, have this reply, and lead to that database
pub record IsAsRequested (limits : Limits) (s : DatabaseState) (n : ℕ) (statement : Statement) (reply : Reply) (after : DatabaseState) : Type 0 where
  pub reply_is : Some reply ≡ reply_to_statement limits.table_full statement (replies_to s (requests_of s n false false statement))
  pub after_is : after ≡ serial_run s (requests_of s n false false statement)

module _ (limits : Limits) (s : DatabaseState) (n : ℕ) (q : Query) (x : OpenTransaction) (sound : IsSound s n x) where
  looked : effect s (look_entry n q) ≡ (s, Found (rows_found x q))
  looked = effect_by s (look_entry n q) (Some x) sound.under_way

  itself : IsBut s s n x
  itself = record { next = refl; table = refl; own = sound.under_way; others = λ m other. refl }

  requested : (reply : Reply) (after : DatabaseState) → Some reply ≡ marks_reply 0 (replies_to s (mark_entries s n q.table (rows_found x q))) → after ≡ serial_run s (mark_entries s n q.table (rows_found x q))
      → IsAsRequested limits s n (statements.Delete q) reply after
  requested reply after replied runs = record {
    reply_is = replied ∙ (λ i. deleted_reply ((sym looked i).1 ∷ replies_to ((sym looked i).0) (mark_entries s n q.table (found_in ((sym looked i).1)))));
    after_is = runs ∙ (λ i. serial_run ((sym looked i).0) (mark_entries s n q.table (found_in ((sym looked i).1))));
  }

  -- no row that it finds must conflict
  pub all_marked : AreFree s n x (rows_found x q) → IsAsRequested limits s n (statements.Delete q) (replies.Deleted (length (rows_found x q))) (with_transaction s n (marked x (rows_found x q)))
  all_marked free =
      let b = run_marks s n q.table x (rows_found x q) [] s x 0 itself refl free in
      let all : rows_found x q ++ [] ≡ rows_found x q = append-nil (rows_found x q) in
      requested (replies.Deleted (length (rows_found x q))) (with_transaction s n (marked x (rows_found x q)))
      (ap (λ k. Some (replies.Deleted k)) (omega arith) ∙ sym b.replied ∙ ap (λ (l : List Row). marks_reply 0 (replies_to s (mark_entries s n q.table l))) all)
      (but_is s b.further n (marked x (rows_found x q)) b.but ∙ sym b.runs ∙ ap (λ (l : List Row). serial_run s (mark_entries s n q.table l)) all)

  -- this is the first one that must
  pub one_conflicts : (before : List Row) (row : Row) (after : List Row) → rows_found x q ≡ before ++ row ∷ after → AreFree s n x before → is_conflict s n x row.id ≡ true
      → IsAsRequested limits s n (statements.Delete q) (replies.Refused (refusals.Conflict row.id)) (with_transaction s n (failed_transaction (marked x before)))
  one_conflicts before row after finds free must =
      let b = run_marks s n q.table x before (row ∷ after) s x 0 itself refl free in
      let t : DatabaseState = b.further in
      let e = mark_entry n q.table row in
      let done : effect t e ≡ (after_failure t n (marked x before), Conflict row.id) =
      effect_by t e (Some (marked x before)) b.but.own ∙ ap (λ c. mark_effect t n (marked x before) row.id c) (conflicts_alike s t n x (marked x before) row.id b.but b.number ∙ must) in
      let told : marks_reply (0 + length before) (replies_to t (mark_entries t n q.table (row ∷ after))) ≡ Some (replies.Refused (refusals.Conflict row.id)) =
      λ i. marks_reply (0 + length before) ((done i).1 ∷ replies_to (done i).0 (unless_conflict (done i).1 (mark_entries (done i).0 n q.table after))) in
      let ends : serial_run t (mark_entries t n q.table (row ∷ after)) ≡ after_failure t n (marked x before) =
      λ i. serial_run (done i).0 (unless_conflict (done i).1 (mark_entries (done i).0 n q.table after)) in
      requested (replies.Refused (refusals.Conflict row.id)) (with_transaction s n (failed_transaction (marked x before)))
      (sym told ∙ sym b.replied ∙ ap (λ (l : List Row). marks_reply 0 (replies_to s (mark_entries s n q.table l))) (sym finds))
      (but_is s (after_failure t n (marked x before)) n (failed_transaction (marked x before)) (goes_on s t n (marked x before) (failed_transaction (marked x before)) b.but)
      ∙ sym ends ∙ sym b.runs ∙ ap (λ (l : List Row). serial_run s (mark_entries s n q.table l)) (sym finds))

-- the first row that must conflict
pub record FirstConflict (s : DatabaseState) (n : ℕ) (x : OpenTransaction) (rows : List Row) : Type 0 where
  pub before : List Row
  pub row : Row
  pub after : List Row
  pub is : rows ≡ before ++ row ∷ after
  pub free : AreFree s n x before
  pub must : is_conflict s n x row.id ≡ true

pub free_or_conflict : (s : DatabaseState) (n : ℕ) (x : OpenTransaction) (rows : List Row) → AreFree s n x rows ⊎ FirstConflict s n x rows
free_or_conflict s n x [] = inl (All-nil (λ (row : Row). is_conflict s n x row.id ≡ false))
free_or_conflict s n x (row ∷ rows) = by (is_conflict s n x row.id) refl (free_or_conflict s n x rows)
  where
    by : (b : Bool) → is_conflict s n x row.id ≡ b → AreFree s n x rows ⊎ FirstConflict s n x rows → AreFree s n x (row ∷ rows) ⊎ FirstConflict s n x (row ∷ rows)
    by true must rest = inr (record { before = []; row = row; after = rows; is = refl; free = All-nil (λ (r : Row). is_conflict s n x r.id ≡ false); must = must })
    by false free (inl all) = inl (All-cons (λ (r : Row). is_conflict s n x r.id ≡ false) row rows free all)
    by false free (inr c) =
        inr (record { before = row ∷ c.before; row = c.row; after = c.after; is = ap (λ (l : List Row). row ∷ l) c.is; free = All-cons (λ (r : Row). is_conflict s n x r.id ≡ false) row c.before free c.free; must = c.must })
