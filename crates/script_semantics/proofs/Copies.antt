-- an open transaction's copy and marks tell the table where its view was taken
use Rattle.std.proofs.Common.{◌≡◌, ℕ, Bool, true, false, not, cond, ◌&&◌, ◌||◌, ◌==◌, inl, inr, List, [], ◌∷◌, ◌++◌, if◌then◌else◌, refl, sym, ap, subst, ◌∙◌, Option, Some, None, is_some, arith, eq-eqb, ne_eqb, append_assoc}
use Rattle.std.specs.FinMap.{get, contains_key, get-insert, get-remove}
use Rattle.std.specs.FinSet as set
use Rattle.std.specs.Ordering.{eq_by_cmp}
use Rattle.std.proofs.lemmas.Bool.{true≢false, false≢true, and_parts, cases_eq, and_from, or_left, or_right}
use Rattle.std.proofs.lemmas.List.{append-nil}
use Rattle.block_model.specs.declared.row.RowId.{RowId}
use Rattle.block_model.specs.declared.row.Row.{Row}
use Rattle.block_model.specs.declared.value.Value.{Value}
use Rattle.block_model.specs.declared.request.Entry.{Entry}
use Rattle.block_model.specs.declared.request.Request.{Request}
use Rattle.block_model.specs.declared.request.Request.TheVariants.{Begin, Put, Look, Mark, Commit, Rollback}
use Rattle.block_model.specs.declared.request.Tag.{Tag}
use Rattle.block_model.specs.declared.request.Tag.TheVariants as tags
use Rattle.block_model.specs.TableState.{TableState, id_cmp, ids_total}
use Rattle.block_model.specs.DatabaseState.{DatabaseState, OpenTransaction}
use Rattle.block_model.specs.RequestEffect.{Answer, effect_within, after_request, after_put, after_mark, next_row, is_conflict, is_own, is_legal_at, is_legal_within, is_legal_request, is_ok_tag, with_transaction, without_transaction, new_transaction}
use Rattle.block_model.specs.RequestLaws.{effect_by, others_stay, mark_effect}
use Rattle.block_model.specs.SerialRun.{serial_run, serial_run-append, is_legal, IsLegal}
use Rattle.block_model.specs.NumberMaps.{found_after_put, found_after_removal, same_Some, none_Some}
use Rattle.script_semantics.specs.Openings.{NoneOpen, RowsAreEarlier}
use Rattle.script_semantics.specs.Views.{takes_view, view_front}
use Rattle.script_semantics.specs.Copies.{IsCopyOf, HasOfOthers, CopiesAreOfTheirFronts}
use Rattle.script_semantics.proofs.Rows.{same_ids}
use Rattle.script_semantics.proofs.Commits.{rows_ended}
use Rattle.script_semantics.proofs.Fronts.{begin_takes, no_view, only_begin, others_take_none, view_here, view_stays}

-- ---- tests

own_alike : (a b own : Bool) → own ≡ true → (a && not own) ≡ (b && not own)
own_alike a b false e = absurd (false≢true e)
own_alike true true true e = refl
own_alike true false true e = refl
own_alike false true true e = refl
own_alike false false true e = refl

put_test : (b : Bool) (r : Row) (o : Option Row) (own : Bool) → (b ≡ true → own ≡ true) → (is_some o && not own) ≡ (is_some (cond b (Some r) o) && not own)
put_test true r o own mine = own_alike (is_some o) true own (mine refl)
put_test false r o own mine = refl

mark_test : (b v own mine m : Bool) → (b ≡ true → own ≡ mine) → (b ≡ true → v ≡ true) → ((v && not own) || m) ≡ ((cond b false v && not own) || (if mine then m else (b || m)))
mark_test false v own true m alike there = refl
mark_test false v own false m alike there = refl
mark_test true false own mine m alike there = absurd (false≢true (there refl))
mark_test true true true true m alike there = refl
mark_test true true false false m alike there = refl
mark_test true true true false m alike there = absurd (true≢false (alike refl))
mark_test true true false true m alike there = absurd (false≢true (alike refl))

begin_test : (v own m : Bool) → m ≡ false → (v ≡ true → own ≡ false) → v ≡ ((v && not own) || m)
begin_test v own true none apart = absurd (true≢false none)
begin_test false own false none apart = refl
begin_test true false false none apart = refl
begin_test true true false none apart = absurd (true≢false (apart refl))

removed_test : (b : Bool) (o : Option Row) → is_some (cond b None o) ≡ cond b false (is_some o)
removed_test true o = refl
removed_test false o = refl

if_contains : (mine : Bool) (marks : set.FinSet id_cmp) (id q : RowId) → set.contains (if mine then marks else set.insert marks id) q ≡ (if mine then set.contains marks q else (eq_by_cmp id_cmp q id || set.contains marks q))
if_contains true marks id q = refl
if_contains false marks id q = set.contains-insert ids_total marks id q

-- ---- copies

copy_begun : (s : DatabaseState) → RowsAreEarlier s → IsCopyOf s.table (new_transaction s)
copy_begun s earlier q = begin_test (contains_key s.table q) (q.t == s.next) (set.contains (new_transaction s).marks q) (set.contains-empty id_cmp q)
    (λ has. let low = earlier q has in ne_eqb q.t s.next (λ same. absurd (omega (arith, low, same))))

module _ (T : TableState) where
  copy_put : (x : OpenTransaction) (table : ℕ) (values : List Value) → IsCopyOf T x → IsCopyOf T (after_put x table values)
  copy_put x table values h q =
      let row = next_row x table values in
      h q ∙ ap (λ b. b || set.contains x.marks q) (put_test (eq_by_cmp id_cmp q row.id) row (get x.view q) (is_own x q) (λ e. eq-eqb q.t x.t (ap (λ (i : RowId). i.t) (same_ids q row.id e)))
      ∙ ap (λ o. is_some o && not (is_own x q)) (sym (get-insert ids_total x.view row.id row q)))

  copy_marked : (x : OpenTransaction) (id : RowId) → contains_key x.view id ≡ true → IsCopyOf T x → IsCopyOf T (after_mark x id)
  copy_marked x id there h q =
      h q ∙ mark_test (eq_by_cmp id_cmp q id) (contains_key x.view q) (is_own x q) (is_own x id) (set.contains x.marks q)
      (λ e. ap (is_own x) (same_ids q id e)) (λ e. ap (contains_key x.view) (same_ids q id e) ∙ there)
      ∙ (λ i. (sym (ap is_some (get-remove ids_total x.view id q) ∙ removed_test (eq_by_cmp id_cmp q id) (get x.view q)) i && not (is_own x q)) || sym (if_contains (is_own x id) x.marks id q) i)

  -- the session's transaction, where it has one, has such a copy
  abbrev Stays : ℕ → DatabaseState → Type 0
  Stays n s = (y : OpenTransaction) → get s.sessions n ≡ Some y → IsCopyOf T y

  stays_put : (s : DatabaseState) (n : ℕ) (z : OpenTransaction) → IsCopyOf T z → Stays n (with_transaction s n z)
  stays_put s n z h y found = elim (found_after_put s.sessions n n z y found) [
    | inl here ↦ subst (IsCopyOf T) here.1 h
    | inr there ↦ absurd (there.0 refl)
  ]

  stays_over : (s : DatabaseState) (n : ℕ) → Stays n (without_transaction s n)
  stays_over s n y found = absurd ((found_after_removal s.sessions n n y found).0 refl)

  module _ (s : DatabaseState) (n : ℕ) (x : OpenTransaction) (got : get s.sessions n ≡ Some x) (h : IsCopyOf T x) where
    stays_same : Stays n s
    stays_same y found = subst (IsCopyOf T) (same_Some x y (sym got ∙ found)) h

    mark_stays : (id : RowId) (b : Bool) → contains_key x.view id ≡ true → Stays n (mark_effect s n x id b).0
    mark_stays id true there = stays_put s n _ h
    mark_stays id false there = stays_put s n (after_mark x id) (copy_marked x id there h)

    within_stays : (table : ℕ) (request : Request) (tag : Tag) → is_legal_within x request tag ≡ true → Stays n (effect_within s n x table request tag).0
    within_stays table (Put values) tags.Ok legal = stays_put s n (after_put x table values) (copy_put x table values h)
    within_stays table (Put values) tags.Full legal = stays_put s n _ h
    within_stays table (Put values) tags.NoMemory legal = stays_put s n _ h
    within_stays table (Look q) tags.NoMemory legal = stays_put s n _ h
    within_stays table (Look q) tags.Ok legal = stays_same
    within_stays table (Look q) tags.Full legal = stays_same
    within_stays table (Mark id) tag legal = mark_stays id (is_conflict s n x id)
        (and_parts (not x.failed) (contains_key x.view id) (and_parts (not x.failed && contains_key x.view id) (is_ok_tag tag) legal).0).1
    within_stays table Commit tag legal = λ y found. stays_over s n y found
    within_stays table Rollback tag legal = stays_over s n
    within_stays table Begin tag legal = stays_same

own_copy : (T : TableState) (s : DatabaseState) (e : Entry) (x : OpenTransaction) → get s.sessions e.session ≡ Some x → is_legal_request s e ≡ true → IsCopyOf T x → Stays T e.session (after_request s e)
own_copy T s e x got legal h = subst (λ (p : DatabaseState × Answer). Stays T e.session p.0) (sym (effect_by s e (Some x) got))
    (within_stays T s e.session x got h e.table e.request e.tag (ap (λ (o : Option OpenTransaction). is_legal_at o e.request e.tag) (sym got) ∙ legal))

-- ---- over a journal

abbrev AllSo : DatabaseState → List Entry → Type 0
AllSo o journal = (n : ℕ) (x : OpenTransaction) → get (serial_run o journal).sessions n ≡ Some x → IsCopyOf (serial_run o (view_front n journal)).table x

-- within a transaction no view is taken
within_takes_none : (x : OpenTransaction) (e : Entry) → is_legal_within x e.request e.tag ≡ true → takes_view e.session e ≡ false
within_takes_none x e legal = no_view e.session e (λ begins. false≢true (ap (λ r. is_legal_within x r e.tag) (sym begins) ∙ legal))

-- from an opening on
module _ (o : DatabaseState) (none : NoneOpen o) (earlier : RowsAreEarlier o) where
  so_own : (journal : List Entry) (e : Entry) → AllSo o journal → is_legal_request (serial_run o journal) e ≡ true → (found : Option OpenTransaction) → get (serial_run o journal).sessions e.session ≡ found
      → (y : OpenTransaction) → get (after_request (serial_run o journal) e).sessions e.session ≡ Some y → IsCopyOf (serial_run o (view_front e.session (journal ++ e ∷ []))).table y
  so_own journal e all legal None idle y got =
      let s = serial_run o journal in
      let new = only_begin s e y idle got in
      subst (λ (front : List Entry). IsCopyOf (serial_run o front).table y) (sym (view_here e.session journal e (begin_takes e new.0)))
      (subst (IsCopyOf s.table) (sym new.1) (copy_begun s (λ id has. (rows_ended o journal none earlier id has).0)))
  so_own journal e all legal (Some x) was y got =
      let here : is_legal_within x e.request e.tag ≡ true = ap (λ (f : Option OpenTransaction). is_legal_at f e.request e.tag) (sym was) ∙ legal in
      subst (λ (front : List Entry). IsCopyOf (serial_run o front).table y) (sym (view_stays e.session journal (e ∷ []) (ap (λ b. b || false) (within_takes_none x e here))))
      (own_copy (serial_run o (view_front e.session journal)).table (serial_run o journal) e x was legal (all e.session x was) y got)

  so_step : (journal : List Entry) (e : Entry) → AllSo o journal → is_legal_request (serial_run o journal) e ≡ true → AllSo o (journal ++ e ∷ [])
  so_step journal e all legal n y found =
      let s = serial_run o journal in
      let got : get (after_request s e).sessions n ≡ Some y = ap (λ (s' : DatabaseState). get s'.sessions n) (sym (serial_run-append o journal (e ∷ []))) ∙ found in
      elim (cases_eq n e.session) [
        | inl own ↦ subst (λ m. IsCopyOf (serial_run o (view_front m (journal ++ e ∷ []))).table y) (sym own) (so_own journal e all legal (get s.sessions e.session) refl y (ap (get (after_request s e).sessions) (sym own) ∙ got))
        | inr apart ↦ subst (λ (front : List Entry). IsCopyOf (serial_run o front).table y) (sym (view_stays n journal (e ∷ []) (ap (λ b. b || false) (others_take_none n e apart)))) (all n y (sym (others_stay s e n apart) ∙ got))
      ]

  so_run : (done rest : List Entry) → is_legal (serial_run o done) rest ≡ true → AllSo o done → AllSo o (done ++ rest)
  so_run done [] legal all = subst (AllSo o) (sym (append-nil done)) all
  so_run done (e ∷ es) legal all =
      let s = serial_run o done in
      let parts = and_parts (is_legal_request s e) (is_legal (after_request s e) es) legal in
      subst (AllSo o) (append_assoc done (e ∷ []) es)
      (so_run (done ++ e ∷ []) es (ap (λ (s' : DatabaseState). is_legal s' es) (serial_run-append o done (e ∷ [])) ∙ parts.1) (so_step done e all parts.0))

pub copy_of_front : (o : DatabaseState) (journal : List Entry) → NoneOpen o → RowsAreEarlier o → IsLegal o journal → AllSo o journal
copy_of_front o journal none earlier legal = so_run o none earlier [] journal legal (λ m y got. absurd (none_Some y (sym (none m) ∙ got)))

-- whose rows it has
has_of_others : (T : TableState) (x : OpenTransaction) (id : RowId) → IsCopyOf T x → HasOfOthers x id → contains_key T id ≡ true
has_of_others T x id copy (inl seen) = copy id ∙ or_left (contains_key x.view id && not (is_own x id)) (set.contains x.marks id) (and_from (contains_key x.view id) (not (is_own x id)) seen.0 (ap not seen.1))
has_of_others T x id copy (inr marked) = copy id ∙ or_right (contains_key x.view id && not (is_own x id)) (set.contains x.marks id) marked

pub copies_are_of_their_fronts : CopiesAreOfTheirFronts
copies_are_of_their_fronts = record {
  copy = copy_of_front;
  ended = λ o journal none earlier legal n x found id has. rows_ended o (view_front n journal) none earlier id
      (has_of_others (serial_run o (view_front n journal)).table x id (copy_of_front o journal none earlier legal n x found) has);
}
