-- what a begin makes of the visible state
use Rattle.std.proofs.Common.{◌≡◌, ◌≢◌, Bool, true, false, not, ◌&&◌, ◌||◌, ℕ, zero, suc, ◌+◌, ◌<◌, List, [], ◌∷◌, ◌++◌, length, Option, None, Some, refl, sym, ap, ◌∙◌, inl, inr, subst, arith, eqb, eqb-true, eq-eqb, ne_eqb, length-append}
use Rattle.std.specs.List.{AllByRecursion, IsDistinct, list_any}
use Rattle.std.specs.Ordering.{nat_cmp, eq_by_cmp}
use Rattle.std.specs.FinMap.{get}
use Rattle.std.specs.FinSet as marks
use Rattle.std.proofs.lemmas.Bool.{false≢true, cases_lt, cases_eq}
use Rattle.std.proofs.lemmas.List.{get_or_past}
use Rattle.block_model.specs.declared.row.RowId.{RowId}
use Rattle.block_model.specs.declared.request.Request.TheVariants as requests
use Rattle.block_model.specs.DatabaseState.{DatabaseState, OpenTransaction}
use Rattle.block_model.specs.RequestEffect as model
use Rattle.snapshot_core.specs.declared.statuses.Status.{Status}
use Rattle.snapshot_core.specs.declared.statuses.Status.TheVariants.{Unused, Begun}
use Rattle.snapshot_core.specs.Visibility.{is_committed}
use Rattle.store_layout.specs.StatementRequests.{request_entry}
use Rattle.snapshot_core.specs.declared.table.Version.{Version}
use Rattle.snapshot_core.specs.declared.sessions.Open.{Open}
use Rattle.snapshot_core.specs.VisibleState.{status_of, is_of_commit, is_seen, is_marked, table_of, ids_of, visible_transaction, visible_state}
use Rattle.snapshot_core.specs.StoredVersions.{transaction_of, IsUnderWay, AreApart, IsStored}
use Rattle.snapshot_core.specs.SessionChanges.{numbers_of}
use Rattle.snapshot_core.specs.Marks.{holds}
use Rattle.snapshot_core.proofs.Choices.{same_number}
use Rattle.snapshot_core.proofs.Stored.{same_table, no_ids, stored_id}
use Rattle.snapshot_core.proofs.Sights.{status_before, status_new, begun_known, done, done_same, new_done, not_begun, still_active, seen_same, seen_by}
use Rattle.snapshot_core.proofs.Copies.{Becomes, OthersStay, sessions_put, which, it_has, others_have}

-- the transaction that begins as the one numbered t
abbrev pub new_open : ℕ → List (Option Open) → Open
new_open t os = record { t = t; next_k = 0; snapshot = record { next = t; active = numbers_of os }; failed = false }

or_true : (b : Bool) → (b || true) ≡ true
or_true true = refl
or_true false = refl

-- each open one is active in its snapshot
pub open_is_active : (os : List (Option Open)) (m : ℕ) (p : Open) → transaction_of os m ≡ Some p → list_any (λ u. eqb u p.t) (numbers_of os) ≡ true
open_is_active [] m p h = absurd (cc)
open_is_active (None ∷ os) zero p h = absurd (cc)
open_is_active (None ∷ os) (suc m) p h = open_is_active os m p h
open_is_active (Some o ∷ os) zero p h = let same : o ≡ p = cc in ap (λ b. b || list_any (λ u. eqb u p.t) (numbers_of os)) (eq-eqb o.t p.t (ap (λ (o : Open). o.t) same))
open_is_active (Some o ∷ os) (suc m) p h = ap (λ c. eqb o.t p.t || c) (open_is_active os m p h) ∙ or_true (eqb o.t p.t)

pub active_is_open : (os : List (Option Open)) (t : ℕ) → list_any (λ u. eqb u t) (numbers_of os) ≡ true → (m : ℕ) × (p : Open) × (transaction_of os m ≡ Some p) × (p.t ≡ t)
active_is_open [] t h = absurd (false≢true h)
active_is_open (None ∷ os) t h = let r = active_is_open os t h in (suc r.0, r.1, r.2, r.3)
active_is_open (Some o ∷ os) t h =
    elim (eqb o.t t) as (λ b. eqb o.t t ≡ b → (b || list_any (λ u. eqb u t) (numbers_of os)) ≡ true → (m : ℕ) × (p : Open) × (transaction_of (Some o ∷ os) m ≡ Some p) × (p.t ≡ t)) [
      | true ↦ λ same _. (0, o, refl, eqb-true o.t t same)
      | false ↦ λ _ later. let r = active_is_open os t later in (suc r.0, r.1, r.2, r.3)
    ] refl h

-- their numbers differ where they do
numbers_differ : (t : ℕ) (os : List (Option Open)) → ((n : ℕ) (p : Open) → transaction_of os n ≡ Some p → t ≢ p.t) → AllByRecursion (λ u. eqb t u ≡ false) (numbers_of os)
numbers_differ t [] differ = tt
numbers_differ t (None ∷ os) differ = numbers_differ t os (λ n p was. differ (suc n) p was)
numbers_differ t (Some o ∷ os) differ = (ne_eqb t o.t (differ 0 o refl), numbers_differ t os (λ n p was. differ (suc n) p was))

pub numbers_once : (os : List (Option Open)) → ((m n : ℕ) (o p : Open) → transaction_of os m ≡ Some o → transaction_of os n ≡ Some p → m ≢ n → o.t ≢ p.t) → IsDistinct eqb (numbers_of os)
unfolding IsDistinct
numbers_once [] differ = tt
numbers_once (None ∷ os) differ = numbers_once os (λ m n o p was is apart. differ (suc m) (suc n) o p was is (λ same. apart (omega (arith, same))))
numbers_once (Some o ∷ os) differ = (
  numbers_differ o.t os (λ n p was. differ 0 (suc n) o p refl was (λ same. absurd (omega (arith, same)))),
  numbers_once os (λ m n o p was is apart. differ (suc m) (suc n) o p was is (λ same. apart (omega (arith, same)))),
)

-- what is committed isn't active
committed_is_free : (vs : List Version) (ss : List Status) (os : List (Option Open)) (t : ℕ) → IsStored vs ss os → is_committed (status_of ss t) ≡ true → list_any (λ u. eqb u t) (numbers_of os) ≡ false
committed_is_free vs ss os t whole committed =
    elim (list_any (λ u. eqb u t) (numbers_of os)) as (λ b. list_any (λ u. eqb u t) (numbers_of os) ≡ b → b ≡ false) [
      | true ↦ λ h.
          let r = active_is_open os t h in
          let begun : status_of ss t ≡ Begun = ap (status_of ss) (sym r.3) ∙ (whole.under_way r.0 r.1 r.2).begun in
          absurd (false≢true (sym (ap is_committed begun) ∙ committed))
      | false ↦ λ h. refl
    ] refl

begun_table : (vs : List Version) (ss : List Status) (os : List (Option Open)) → IsStored vs ss os → table_of (is_of_commit (ss ++ Begun ∷ [])) vs ≡ table_of (is_of_commit ss) vs
begun_table vs ss os whole = same_table _ _ vs whole.ids_differ (λ q v h.
    let known = whole.known q v h in
    λ i. is_committed (status_before ss Begun v.row.id.t known.put i) && not (is_committed (status_before ss Begun v.deleter known.gone i)))

begun_view : (vs : List Version) (ss : List Status) (os : List (Option Open)) → IsStored vs ss os → table_of (is_seen (ss ++ Begun ∷ []) (new_open (length ss) os)) vs ≡ table_of (is_of_commit ss) vs
begun_view vs ss os whole = same_table _ _ vs whole.ids_differ (λ q v h.
    let known = whole.known q v h in
    let at : (t : ℕ) → t < length ss → done (ss ++ Begun ∷ []) (new_open (length ss) os) t ≡ is_committed (status_of ss t) =
    λ t low. new_done ss (ss ++ Begun ∷ []) (new_open (length ss) os) t refl low (status_before ss Begun t low) (committed_is_free vs ss os t whole) in
    seen_by (ss ++ Begun ∷ []) (new_open (length ss) os) v (is_committed (status_of ss v.row.id.t)) (is_committed (status_of ss v.deleter)) (at v.row.id.t known.put) (at v.deleter known.gone))

begun_marks : (vs : List Version) (ss : List Status) (os : List (Option Open)) → IsStored vs ss os → ids_of (is_marked (new_open (length ss) os)) vs ≡ marks.empty
begun_marks vs ss os whole = no_ids _ vs whole.ids_differ (λ q v h.
    ap (λ b. b && not (eqb v.row.id.t (length ss))) (ne_eqb v.deleter (length ss) (λ e. omega (arith, (whole.known q v h).gone, e))))

begun_others : (vs : List Version) (ss : List Status) (os : List (Option Open)) (n : ℕ) → IsStored vs ss os → OthersStay ss (ss ++ Begun ∷ []) vs vs os n
begun_others vs ss os n whole m p e h =
    let view : table_of (is_seen (ss ++ Begun ∷ []) p) vs ≡ table_of (is_seen ss p) vs =
    same_table _ _ vs whole.ids_differ (λ q v d.
    let known = whole.known q v d in
    seen_same (ss ++ Begun ∷ []) ss p v (done_same _ _ p v.row.id.t (ap is_committed (status_before ss Begun v.row.id.t known.put))) (done_same _ _ p v.deleter (ap is_committed (status_before ss Begun v.deleter known.gone)))) in
    λ i. record { t = p.t; next_k = p.next_k; view = view i; marks = ids_of (is_marked p) vs; failed = p.failed }

begun_state : (vs : List Version) (ss : List Status) (os os' : List (Option Open)) (n : ℕ) → IsStored vs ss os → Becomes os os' n (Some (new_open (length ss) os))
    → model.after_begin (visible_state vs ss os) n ≡ visible_state vs (ss ++ Begun ∷ []) os'
begun_state vs ss os os' n whole at =
    let table = begun_table vs ss os whole in
    let view = begun_view vs ss os whole in
    let marked = begun_marks vs ss os whole in
    let x : OpenTransaction = model.new_transaction (visible_state vs ss os) in
    let new : visible_transaction (ss ++ Begun ∷ []) vs (new_open (length ss) os) ≡ x = λ i. record { t = length ss; next_k = 0; view = view i; marks = marked i; failed = false } in
    let sessions = sessions_put ss (ss ++ Begun ∷ []) vs vs os os' n (new_open (length ss) os) x at new (begun_others vs ss os n whole) in
    let next : length (ss ++ Begun ∷ []) ≡ length ss + 1 = length-append ss (Begun ∷ []) in
    sym (λ i. record { next = next i; table = table i; sessions = sessions i })

longer : (ss : List Status) (t : ℕ) → t < length ss → t < length (ss ++ Begun ∷ [])
longer ss t h = omega (arith, length-append ss (Begun ∷ []))

still_under_way : (vs : List Version) (ss : List Status) (p : Open) → IsUnderWay vs ss p → IsUnderWay vs (ss ++ Begun ∷ []) p
still_under_way vs ss p h = record {
  numbered = h.numbered;
  begun = status_before ss Begun p.t (begun_known ss p.t h.begun) ∙ h.begun;
  taken = omega (arith, h.taken, length-append ss (Begun ∷ []));
  placed = h.placed;
}

new_under_way : (vs : List Version) (ss : List Status) (os : List (Option Open)) → IsStored vs ss os → IsUnderWay vs (ss ++ Begun ∷ []) (new_open (length ss) os)
new_under_way vs ss os whole = record {
  numbered = whole.some;
  begun = status_new ss Begun;
  taken = omega (arith, length-append ss (Begun ∷ []));
  placed = λ q v h e. absurd (let low : q.t < length ss = subst (λ (i : RowId). i.t < length ss) (stored_id vs q v h) (whole.known q v h).put in omega (arith, e));
}

pub begun_stored : (vs : List Version) (ss : List Status) (os os' : List (Option Open)) (n : ℕ) → IsStored vs ss os → transaction_of os n ≡ None → Becomes os os' n (Some (new_open (length ss) os)) → IsStored vs (ss ++ Begun ∷ []) os'
begun_stored vs ss os os' n whole idle at = record {
  nobody = status_before ss Begun 0 whole.some ∙ whole.nobody;
  some = longer ss 0 whole.some;
  ids_differ = whole.ids_differ;
  known = λ q v h. let known = whole.known q v h in record {
    put = longer ss v.row.id.t known.put;
    gone = longer ss v.deleter known.gone;
    own = λ is. known.own (sym (status_before ss Begun v.row.id.t known.put) ∙ is);
    marked = λ is other. ap is_committed (status_before ss Begun v.row.id.t known.put) ∙ known.marked (sym (status_before ss Begun v.deleter known.gone) ∙ is) other;
  };
  under_way = λ m p h. elim (which os os' n o at m p h) [
    | inl a ↦ subst (IsUnderWay vs (ss ++ Begun ∷ [])) a.1 (new_under_way vs ss os whole)
    | inr d ↦ still_under_way vs ss p (whole.under_way m p d.1)
  ];
  apart = λ m k p q h g ne. elim (which os os' n o at m p h) [
    | inl a ↦ elim (which os os' n o at k q g) [
      | inl c ↦ absurd (ne (a.0 ∙ sym c.0))
      | inr d ↦ subst (λ (p : Open). AreApart p q) a.1 (new_from_old k q d.1)
    ]
    | inr d ↦ elim (which os os' n o at k q g) [
      | inl a ↦ subst (AreApart p) a.1 (old_from_new m p d.1)
      | inr f ↦ whole.apart m k p q d.1 f.1 ne
    ]
  ];
  begun = λ t nobody_has is_begun. absurd (elim (cases_lt t (length ss)) [
    | inl low ↦ whole.begun t (λ m p h same. absurd (old_has t nobody_has m p h same)) (sym (status_before ss Begun t low) ∙ is_begun)
    | inr high ↦ elim (cases_eq t (length ss)) [
      | inl new ↦ nobody_has n o (it_has os os' n (Some o) at) (sym new)
      | inr ne ↦ false≢true (ap holds (sym (get_or_past (ss ++ Begun ∷ []) t Unused (omega (arith, high, ne, length-append ss (Begun ∷ [])))) ∙ is_begun))
    ]
  ]);
}
  where
    o : Open
    o = new_open (length ss) os

    new_from_old : (k : ℕ) (q : Open) → transaction_of os k ≡ Some q → AreApart (new_open (length ss) os) q
    new_from_old k q h = record {
      differ = λ e. let low = begun_known ss q.t (whole.under_way k q h).begun in omega (arith, e);
      unfinished = not_begun q.snapshot (length ss) (whole.under_way k q h).taken;
    }

    old_from_new : (m : ℕ) (p : Open) → transaction_of os m ≡ Some p → AreApart p (new_open (length ss) os)
    old_from_new m p h = record {
      differ = λ e. let low = begun_known ss p.t (whole.under_way m p h).begun in omega (arith, e);
      unfinished = still_active (new_open (length ss) os).snapshot p.t (open_is_active os m p h);
    }

    -- one of before is one of now
    old_has : (t : ℕ) → ((m : ℕ) (p : Open) → transaction_of os' m ≡ Some p → p.t ≢ t) → (m : ℕ) (p : Open) → transaction_of os m ≡ Some p → p.t ≡ t → ⊥
    old_has t nobody_has m p h same =
        elim (eq_by_cmp nat_cmp m n) as (λ b. eq_by_cmp nat_cmp m n ≡ b → ⊥) [
          | true ↦ λ e. absurd (let none : None ≡ Some p = sym idle ∙ ap (transaction_of os) (sym (same_number m n e)) ∙ h in cc)
          | false ↦ λ e. nobody_has m p (others_have os os' n m (Some o) at e ∙ h) same
        ] refl

pub begun_effect : (vs : List Version) (ss : List Status) (os os' : List (Option Open)) (n : ℕ) (s : DatabaseState) → visible_state vs ss os ≡ s → get s.sessions n ≡ None
    → IsStored vs ss os → Becomes os os' n (Some (new_open (length ss) os))
    → model.effect s (request_entry n 0 requests.Begin) ≡ (visible_state vs (ss ++ Begun ∷ []) os', model.Begun (length ss))
begun_effect vs ss os os' n s view none whole at =
    model.effect_is s (request_entry n 0 requests.Begin)
    ∙ ap (λ o. model.effect_at o s (request_entry n 0 requests.Begin)) none
    ∙ (λ i. ((ap (λ (s : DatabaseState). model.after_begin s n) (sym view) ∙ begun_state vs ss os os' n whole at) i, model.Begun ((sym view i).next)))
