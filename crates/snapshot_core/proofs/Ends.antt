-- what the end of a transaction makes of the visible state
use Rattle.std.proofs.Common.{◌≡◌, ◌≢◌, Bool, true, false, cond, not, ◌&&◌, ℕ, List, [], ◌∷◌, length, set, Option, None, Some, refl, sym, ap, ◌∙◌, inl, inr, arith, eqb, eqb-true, length-set}
use Rattle.std.proofs.Math.Bool.{and-false}
use Rattle.std.specs.declared.cmp.Ordering.TheVariants.{Equal}
use Rattle.std.specs.Option.{is_some}
use Rattle.std.specs.Ordering.{nat_cmp, eq_by_cmp}
use Rattle.std.specs.FinMap.{get, retain_keys, entries, find, get-insert, get-entries, get-retain_keys, same_map}
use Rattle.std.specs.FinSet as marks
use Rattle.std.proofs.lemmas.Bool.{false≢true, true≢false, cases_eq}
use Rattle.std.proofs.lemmas.Map.Entries.{option_filter}
use Rattle.block_model.specs.declared.row.RowId.{RowId}
use Rattle.block_model.specs.declared.row.Row.{Row}
use Rattle.block_model.specs.declared.request.Request.TheVariants as requests
use Rattle.block_model.specs.TableState.{TableState, id_cmp, ids_total, ids_exact}
use Rattle.block_model.specs.DatabaseState.{DatabaseState, OpenTransaction}
use Rattle.block_model.specs.RequestEffect as model
use Rattle.snapshot_core.specs.declared.statuses.Status.{Status}
use Rattle.snapshot_core.specs.declared.statuses.Status.TheVariants.{Begun, Committed, RolledBack}
use Rattle.snapshot_core.specs.Visibility.{is_committed}
use Rattle.store_layout.specs.StatementRequests.{request_entry}
use Rattle.snapshot_core.specs.declared.table.Version.{Version}
use Rattle.snapshot_core.specs.declared.sessions.Open.{Open}
use Rattle.snapshot_core.specs.VisibleState.{status_of, is_of_commit, is_seen, is_marked, table_of, ids_of, visible_transaction, visible_state}
use Rattle.snapshot_core.specs.StoredVersions.{stored, transaction_of, IsKnown, IsUnderWay, AreApart, IsStored}
use Rattle.snapshot_core.specs.SessionChanges.{ended}
use Rattle.snapshot_core.specs.Marks.{holds}
use Rattle.snapshot_core.proofs.Choices.{chosen_none, same_number, other_number, other_number_eqb}
use Rattle.snapshot_core.proofs.Stored.{row_of, stored_id, get-table_of, contains-ids_of, same_table}
use Rattle.snapshot_core.proofs.Sights.{status_own, status_other, done, done_same, done_own, done_not, done_uncommitted, seen_by, seen_same, deleted}
use Rattle.snapshot_core.proofs.Copies.{Becomes, OthersStay, sessions_taken, get_open, others_have}

-- ---- what the others see

ended_others : (vs : List Version) (ss : List Status) (os : List (Option Open)) (n : ℕ) (o : Open) (e : Status) → IsStored vs ss os → transaction_of os n ≡ Some o → OthersStay ss (set ss o.t e) vs vs os n
ended_others vs ss os n o e whole was m p other h =
    let view : table_of (is_seen (set ss o.t e) p) vs ≡ table_of (is_seen ss p) vs = same_table _ _ vs whole.ids_differ (λ q v d. seen_same (set ss o.t e) ss p v (at v.row.id.t) (at v.deleter)) in
    λ i. record { t = p.t; next_k = p.next_k; view = view i; marks = ids_of (is_marked p) vs; failed = p.failed }
  where
    far : AreApart o p
    far = whole.apart n m o p was h (λ d. other_number m n other (sym d))

    at : (t : ℕ) → done (set ss o.t e) p t ≡ done ss p t
    at t = elim (cases_eq t o.t) [
      | inl same ↦ ap (done (set ss o.t e) p) same ∙ done_not (set ss o.t e) p o.t far.differ far.unfinished ∙ sym (ap (done ss p) same ∙ done_not ss p o.t far.differ far.unfinished)
      | inr ne ↦ done_same (set ss o.t e) ss p t (ap is_committed (status_other ss o.t t e ne))
    ]

-- ---- nothing is merged

rolled_table : (vs : List Version) (ss : List Status) (t : ℕ) (e : Status) → status_of ss t ≡ Begun → is_committed e ≡ false → table_of (is_of_commit (set ss t e)) vs ≡ table_of (is_of_commit ss) vs
rolled_table vs ss t e begun not_committed = ap (λ (p : Version → Bool). table_of p vs) (λ i v. at v.row.id.t i && not (at v.deleter i))
  where
    at : (u : ℕ) → is_committed (status_of (set ss t e) u) ≡ is_committed (status_of ss u)
    at u = elim (cases_eq u t) [
      | inl same ↦ ap (λ u. is_committed (status_of (set ss t e) u)) same ∙ ap is_committed (status_own ss t e begun) ∙ not_committed ∙ sym (ap (λ u. is_committed (status_of ss u)) same ∙ ap is_committed begun)
      | inr ne ↦ ap is_committed (status_other ss t u e ne)
    ]

-- ---- what a commit merges

get-with_rows : (table : TableState) (es : List (RowId × Row)) (q : RowId) → get (model.with_rows table es) q ≡ cond (is_some (find id_cmp q es)) (find id_cmp q es) (get table q)
get-with_rows table [] q = refl
get-with_rows table (e ∷ es) q =
    get-insert ids_total (model.with_rows table es) e.0 e.1 q ∙ ap (cond (eq_by_cmp id_cmp q e.0) (Some e.1)) (get-with_rows table es q) ∙ nested (eq_by_cmp id_cmp q e.0) (find id_cmp q es)
  where
    nested : (b : Bool) (o : Option Row) → cond b (Some e.1) (cond (is_some o) o (get table q)) ≡ cond (is_some (cond b (Some e.1) o)) (cond b (Some e.1) o) (get table q)
    nested true o = refl
    nested false o = refl

same_test : (p : RowId → Bool) (q x : RowId) → id_cmp q x ≡ Equal → p x ≡ p q
same_test p q x e = ap p (sym (ids_exact q x e))

-- the first where it is there, and else the second
abbrev over : Option Row → Option Row → Option Row
over a b = cond (is_some a) a b

-- the transaction's own rows lie over the unmarked ones of the table
get-merged : (table : TableState) (x : OpenTransaction) (q : RowId)
    → get (model.merged table x) q ≡ over (cond (eqb q.t x.t) (get x.view q) None) (cond (not (marks.contains x.marks q)) (get table q) None)
get-merged table x q =
    get-with_rows (retain_keys table (λ id. not (marks.contains x.marks id))) (entries (retain_keys x.view (λ id. eqb id.t x.t))) q ∙ (λ i. over (own i) (kept i))
  where
    own : find id_cmp q (entries (retain_keys x.view (λ id. eqb id.t x.t))) ≡ cond (eqb q.t x.t) (get x.view q) None
    own = sym (get-entries (retain_keys x.view (λ id. eqb id.t x.t)) q) ∙ get-retain_keys x.view (λ id. eqb id.t x.t) q (λ y e. same_test (λ id. eqb id.t x.t) q y e)

    kept : get (retain_keys table (λ id. not (marks.contains x.marks id))) q ≡ cond (not (marks.contains x.marks q)) (get table q) None
    kept = get-retain_keys table (λ id. not (marks.contains x.marks id)) q (λ y e. same_test (λ id. not (marks.contains x.marks id)) q y e)

-- the row where the test says so
abbrev shown : Version → Bool → Option Row
shown v b = row_of (cond b (Some v) None)

-- of a version, by whether its row is own, whether its deleter is, and what has committed before and after
merged_version : (v : Version) (own gone c d c' d' seen : Bool)
    → (own ≡ true → gone ≡ true → (c ≡ false) × (d' ≡ true) × (seen ≡ false))
    → (own ≡ true → gone ≡ false → (c' ≡ true) × (d' ≡ false) × (seen ≡ true))
    → (own ≡ false → gone ≡ true → d' ≡ true)
    → (own ≡ false → gone ≡ false → (c' ≡ c) × (d' ≡ d))
    → shown v (c' && not d') ≡ over (cond own (shown v seen) None) (cond (not (is_some (cond (gone && not own) (Some v) None))) (shown v (c && not d)) None)
merged_version v true true c d c' d' seen f g h k = let s = f refl refl in (λ i. shown v (c' && not (s.1 i))) ∙ ap (shown v) (and-false c') ∙ sym (λ i. over (shown v (s.2 i)) (shown v (s.0 i && not d)))
merged_version v true false c d c' d' seen f g h k = let s = g refl refl in (λ i. shown v (s.0 i && not (s.1 i))) ∙ sym (λ i. over (shown v (s.2 i)) (shown v (c && not d)))
merged_version v false true c d c' d' seen f g h k = (λ i. shown v (c' && not (h refl refl i))) ∙ ap (shown v) (and-false c')
merged_version v false false c d c' d' seen f g h k = let s = k refl refl in λ i. shown v (s.0 i && not (s.1 i))

committed_table : (vs : List Version) (ss : List Status) (os : List (Option Open)) (n : ℕ) (o : Open) → IsStored vs ss os → transaction_of os n ≡ Some o
    → model.merged (table_of (is_of_commit ss) vs) (visible_transaction ss vs o) ≡ table_of (is_of_commit (set ss o.t Committed)) vs
committed_table vs ss os n o whole was = same_map ids_total ids_exact _ _ (λ q.
    get-merged (table_of (is_of_commit ss) vs) (visible_transaction ss vs o) q
    ∙ (λ i. over (cond (eqb q.t o.t) (get-table_of (is_seen ss o) vs q whole.ids_differ i) None) (cond (not (contains-ids_of (is_marked o) vs q whole.ids_differ i)) (get-table_of (is_of_commit ss) vs q whole.ids_differ i) None))
    ∙ sym (at q (stored vs q) refl)
    ∙ sym (get-table_of (is_of_commit (set ss o.t Committed)) vs q whole.ids_differ))
  where
    begun : status_of ss o.t ≡ Begun
    begun = (whole.under_way n o was).begun

    not_yet : (t : ℕ) → t ≡ o.t → is_committed (status_of ss t) ≡ false
    not_yet t same = ap (λ t. is_committed (status_of ss t)) same ∙ ap is_committed begun

    now : (t : ℕ) → t ≡ o.t → is_committed (status_of (set ss o.t Committed) t) ≡ true
    now t same = ap (λ t. is_committed (status_of (set ss o.t Committed) t)) same ∙ ap is_committed (status_own ss o.t Committed begun)

    as_before : (t : ℕ) → eqb t o.t ≡ false → is_committed (status_of (set ss o.t Committed) t) ≡ is_committed (status_of ss t)
    as_before t ne = ap is_committed (status_other ss o.t t Committed (other_number_eqb t o.t ne))

    -- nobody has deleted an own row that the transaction hasn't
    no_deleter : (v : Version) → IsKnown ss v → v.row.id.t ≡ o.t → eqb v.deleter o.t ≡ false → is_committed (status_of ss v.deleter) ≡ false
    no_deleter v known own ne = elim (cases_eq v.deleter 0) [
      | inl zero ↦ ap (λ t. is_committed (status_of ss t)) zero ∙ ap is_committed whole.nobody
      | inr some ↦ absurd (other_number_eqb v.deleter o.t ne (known.own (ap (status_of ss) own ∙ begun) some ∙ own))
    ]

    of_version : (v : Version) → IsKnown ss v
        → shown v (is_of_commit (set ss o.t Committed) v) ≡ over (cond (eqb v.row.id.t o.t) (shown v (is_seen ss o v)) None) (cond (not (is_some (cond (is_marked o v) (Some v) None))) (shown v (is_of_commit ss v)) None)
    of_version v known = merged_version v (eqb v.row.id.t o.t) (eqb v.deleter o.t) _ _ _ _ (is_seen ss o v)
        (λ own gone. (not_yet v.row.id.t (eqb-true _ _ own), now v.deleter (eqb-true _ _ gone), deleted ss o v (ap (done ss o) (eqb-true _ _ gone) ∙ done_own ss o)))
        (λ own gone.
        let none = no_deleter v known (eqb-true _ _ own) gone in (
          now v.row.id.t (eqb-true _ _ own),
          as_before v.deleter gone ∙ none,
          seen_by ss o v true false (ap (done ss o) (eqb-true _ _ own) ∙ done_own ss o) (done_uncommitted ss o v.deleter (other_number_eqb _ _ gone) none),
        ))
        (λ own gone. now v.deleter (eqb-true _ _ gone))
        (λ own gone. (as_before v.row.id.t own, as_before v.deleter gone))

    at : (q : RowId) (s : Option Version) → stored vs q ≡ s
        → row_of (option_filter (is_of_commit (set ss o.t Committed)) s)
        ≡ over (cond (eqb q.t o.t) (row_of (option_filter (is_seen ss o) s)) None) (cond (not (is_some (option_filter (is_marked o) s))) (row_of (option_filter (is_of_commit ss) s)) None)
    at q None h = elim (eqb q.t o.t) as (λ b. None ≡ over (cond b None None) None) [ true ↦ refl | false ↦ refl ]
    at q (Some v) h = of_version v (whole.known q v h) ∙ ap (λ (id : RowId). over (cond (eqb id.t o.t) (shown v (is_seen ss o v)) None) (cond (not (is_some (cond (is_marked o v) (Some v) None))) (shown v (is_of_commit ss v)) None)) (stored_id vs q v h)

-- ---- the states

rolled_state : (vs : List Version) (ss : List Status) (os os' : List (Option Open)) (n : ℕ) (o : Open) → IsStored vs ss os → transaction_of os n ≡ Some o → Becomes os os' n None
    → model.without_transaction (visible_state vs ss os) n ≡ visible_state vs (set ss o.t RolledBack) os'
rolled_state vs ss os os' n o whole was at =
    let table = rolled_table vs ss o.t RolledBack (whole.under_way n o was).begun refl in
    let sessions = sessions_taken ss (set ss o.t RolledBack) vs vs os os' n at (ended_others vs ss os n o RolledBack whole was) in
    let next : length (set ss o.t RolledBack) ≡ length ss = length-set ss o.t RolledBack in
    sym (λ i. record { next = next i; table = table i; sessions = sessions i })

-- a failed transaction merges nothing
ended_table : (vs : List Version) (ss : List Status) (os : List (Option Open)) (n : ℕ) (o : Open) (failed : Bool) → IsStored vs ss os → transaction_of os n ≡ Some o
    → cond failed (table_of (is_of_commit ss) vs) (model.merged (table_of (is_of_commit ss) vs) (visible_transaction ss vs o)) ≡ table_of (is_of_commit (set ss o.t (ended failed))) vs
ended_table vs ss os n o true whole was = sym (rolled_table vs ss o.t RolledBack (whole.under_way n o was).begun refl)
ended_table vs ss os n o false whole was = committed_table vs ss os n o whole was

committed_state : (vs : List Version) (ss : List Status) (os os' : List (Option Open)) (n : ℕ) (o : Open) → IsStored vs ss os → transaction_of os n ≡ Some o → Becomes os os' n None
    → model.after_commit (visible_state vs ss os) n (visible_transaction ss vs o) ≡ visible_state vs (set ss o.t (ended o.failed)) os'
committed_state vs ss os os' n o whole was at =
    let table = ended_table vs ss os n o o.failed whole was in
    let sessions = sessions_taken ss (set ss o.t (ended o.failed)) vs vs os os' n at (ended_others vs ss os n o (ended o.failed) whole was) in
    let next : length (set ss o.t (ended o.failed)) ≡ length ss = length-set ss o.t (ended o.failed) in
    λ i. record { next = sym next i; table = table i; sessions = sym sessions i }

pub ended_not_begun : (failed : Bool) → ended failed ≢ Begun
ended_not_begun true e = false≢true (ap holds e)
ended_not_begun false e = true≢false (ap is_committed e)

pub ended_stored : (vs : List Version) (ss : List Status) (os os' : List (Option Open)) (n : ℕ) (o : Open) (e : Status) → IsStored vs ss os → transaction_of os n ≡ Some o → Becomes os os' n None → e ≢ Begun
    → IsStored vs (set ss o.t e) os'
ended_stored vs ss os os' n o e whole was at ends = record {
  nobody = status_other ss o.t 0 e (λ d. omega (arith, d, (whole.under_way n o was).numbered)) ∙ whole.nobody;
  some = omega (arith, whole.some, length-set ss o.t e);
  ids_differ = whole.ids_differ;
  known = λ q v h. let known = whole.known q v h in record {
    put = omega (arith, known.put, length-set ss o.t e);
    gone = omega (arith, known.gone, length-set ss o.t e);
    own = λ is. known.own (before v.row.id.t is);
    marked = λ is other. still_committed v.row.id.t (known.marked (before v.deleter is) other);
  };
  under_way = λ m p h. let d = left m p h in still m p d.0 d.1 (whole.under_way m p d.1);
  apart = λ m k p q h g ne. whole.apart m k p q (left m p h).1 (left k q g).1 ne;
  begun = λ t nobody_has is_begun. elim (cases_eq t o.t) [
    | inl same ↦ ends (sym (status_own ss o.t e (whole.under_way n o was).begun) ∙ ap (status_of (set ss o.t e)) (sym same) ∙ is_begun)
    | inr ne ↦ whole.begun t (λ m p h. had t ne nobody_has m p h) (sym (status_other ss o.t t e ne) ∙ is_begun)
  ];
}
  where
    left : (m : ℕ) (p : Open) → transaction_of os' m ≡ Some p → (eq_by_cmp nat_cmp m n ≡ false) × (transaction_of os m ≡ Some p)
    left m p h = chosen_none (eq_by_cmp nat_cmp m n) p (transaction_of os m) (sym (at m) ∙ h)

    apart_from : (m : ℕ) (p : Open) → eq_by_cmp nat_cmp m n ≡ false → transaction_of os m ≡ Some p → p.t ≢ o.t
    apart_from m p other was_p d = (whole.apart n m o p was was_p (λ k. other_number m n other (sym k))).differ (sym d)

    -- what is begun now was, and what had committed has
    before : (t : ℕ) → status_of (set ss o.t e) t ≡ Begun → status_of ss t ≡ Begun
    before t h = elim (cases_eq t o.t) [ inl same ↦ ap (status_of ss) same ∙ (whole.under_way n o was).begun | inr ne ↦ sym (status_other ss o.t t e ne) ∙ h ]

    still_committed : (t : ℕ) → is_committed (status_of ss t) ≡ true → is_committed (status_of (set ss o.t e) t) ≡ true
    still_committed t h = elim (cases_eq t o.t) [
      | inl same ↦ absurd (true≢false (sym h ∙ ap is_committed (ap (status_of ss) same ∙ (whole.under_way n o was).begun)))
      | inr ne ↦ ap is_committed (status_other ss o.t t e ne) ∙ h
    ]

    still : (m : ℕ) (p : Open) → eq_by_cmp nat_cmp m n ≡ false → transaction_of os m ≡ Some p → IsUnderWay vs ss p → IsUnderWay vs (set ss o.t e) p
    still m p other was_p h = record {
      numbered = h.numbered;
      begun = status_other ss o.t p.t e (apart_from m p other was_p) ∙ h.begun;
      taken = omega (arith, h.taken, length-set ss o.t e);
      placed = h.placed;
    }

    had : (t : ℕ) → t ≢ o.t → ((m : ℕ) (p : Open) → transaction_of os' m ≡ Some p → p.t ≢ t) → (m : ℕ) (p : Open) → transaction_of os m ≡ Some p → p.t ≢ t
    had t ne nobody_has m p h same =
        elim (eq_by_cmp nat_cmp m n) as (λ b. eq_by_cmp nat_cmp m n ≡ b → ⊥) [
          | true ↦ λ d. ne (sym same ∙ ap (λ (o : Open). o.t) (its m p d h))
          | false ↦ λ d. nobody_has m p (others_have os os' n m None at d ∙ h) same
        ] refl
      where
        its : (m : ℕ) (p : Open) → eq_by_cmp nat_cmp m n ≡ true → transaction_of os m ≡ Some p → p ≡ o
        its m p d h = let same : Some p ≡ Some o = sym h ∙ ap (transaction_of os) (same_number m n d) ∙ was in cc

pub committed_effect : (vs : List Version) (ss : List Status) (os os' : List (Option Open)) (n : ℕ) (o : Open) (s : DatabaseState) → visible_state vs ss os ≡ s
    → IsStored vs ss os → transaction_of os n ≡ Some o → Becomes os os' n None
    → model.effect s (request_entry n 0 requests.Commit) ≡ (visible_state vs (set ss o.t (ended o.failed)) os', cond (not o.failed) model.Committed model.RolledBack)
committed_effect vs ss os os' n o s view whole was at =
    model.effect_is s (request_entry n 0 requests.Commit)
    ∙ ap (λ x. model.effect_at x s (request_entry n 0 requests.Commit)) (get_open vs ss os n o s view was)
    ∙ (λ i. ((ap (λ (s : DatabaseState). model.after_commit s n (visible_transaction ss vs o)) (sym view) ∙ committed_state vs ss os os' n o whole was at) i, answer o.failed i))
  where
    answer : (b : Bool) → cond b model.RolledBack model.Committed ≡ cond (not b) model.Committed model.RolledBack
    answer true = refl
    answer false = refl

pub rolled_effect : (vs : List Version) (ss : List Status) (os os' : List (Option Open)) (n : ℕ) (o : Open) (s : DatabaseState) → visible_state vs ss os ≡ s
    → IsStored vs ss os → transaction_of os n ≡ Some o → Becomes os os' n None
    → model.effect s (request_entry n 0 requests.Rollback) ≡ (visible_state vs (set ss o.t RolledBack) os', model.RolledBack)
rolled_effect vs ss os os' n o s view whole was at =
    model.effect_is s (request_entry n 0 requests.Rollback)
    ∙ ap (λ x. model.effect_at x s (request_entry n 0 requests.Rollback)) (get_open vs ss os n o s view was)
    ∙ (λ i. ((ap (λ (s : DatabaseState). model.without_transaction s n) (sym view) ∙ rolled_state vs ss os os' n o whole was at) i, model.RolledBack))
