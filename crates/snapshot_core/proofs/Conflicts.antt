-- when a row conflicts
use Rattle.std.proofs.Common.{◌≡◌, ◌≢◌, Bool, true, false, cond, not, ◌&&◌, ◌||◌, T, ℕ, List, [], ◌∷◌, Option, None, Some, refl, sym, ap, ◌∙◌, inl, inr, eqb, eq-eqb, ne_eqb}
use Rattle.std.proofs.Math.Bool.{and-false}
use Rattle.std.specs.List.{list_any}
use Rattle.std.specs.Option.{is_some, option_map}
use Rattle.std.specs.Ordering.{nat_cmp, eq_by_cmp, is_lt}
use Rattle.std.specs.Cmp.{nat_cmp_total, eq_by_cmp_equiv}
use Rattle.std.specs.FinMap.{FinMap, get, entries, find, is_sorted, contains_key, get-entries, entries_sorted}
use Rattle.std.specs.FinMap.Entries.{below_all}
use Rattle.std.specs.FinSet as set
use Rattle.std.proofs.lemmas.Bool.{false≢true, true≢false, cases_eq}
use Rattle.std.proofs.lemmas.Map.Entries.{option_filter}
use Rattle.block_model.specs.DatabaseState.{OpenTransaction}
use Rattle.block_model.specs.RequestEffect as model
use Rattle.snapshot_core.specs.declared.statuses.Status.{Status}
use Rattle.snapshot_core.specs.declared.statuses.Status.TheVariants.{Unused, Begun, Committed, RolledBack}
use Rattle.snapshot_core.specs.Visibility.{is_committed, had_ended}
use Rattle.snapshot_core.specs.declared.table.Version.{Version}
use Rattle.snapshot_core.specs.declared.sessions.Open.{Open}
use Rattle.snapshot_core.specs.VisibleState.{status_of, is_of_commit, is_seen, is_marked, visible_transaction, visible_sessions, visible_state}
use Rattle.snapshot_core.specs.StoredVersions.{stored, transaction_of, IsStored}
use Rattle.snapshot_core.specs.Marks.{holds, conflicts}
use Rattle.snapshot_core.proofs.Choices.{chosen, same_number, other_number_eqb, lesser_apart, first_of_both, second_of_both}
use Rattle.snapshot_core.proofs.Stored.{row_of, get-table_of, contains-ids_of}
use Rattle.snapshot_core.proofs.Sights.{done, done_own}
use Rattle.snapshot_core.proofs.Copies.{get_visible, same_numbers}

-- ---- some entry of a map

any_found : {X : Type 0} (f : ℕ × X → Bool) (es : List (ℕ × X)) (k : ℕ) (x : X) → find nat_cmp k es ≡ Some x → f (k, x) ≡ true → list_any f es ≡ true
any_found f [] k x h passes = absurd (cc)
any_found f (e ∷ es) k x h passes =
    elim (chosen (eq_by_cmp nat_cmp k e.0) e.1 x (find nat_cmp k es) h) [
      | inl a ↦ ap (λ b. b || list_any f es) ((λ i. f (sym (same_number k e.0 a.0) i, a.1 i)) ∙ passes)
      | inr b ↦ ap (λ c. f e || c) (any_found f es k x b.1 passes) ∙ or_true (f e)
    ]
  where
    or_true : (b : Bool) → (b || true) ≡ true
    or_true true = refl
    or_true false = refl

-- what is found behind lower keys isn't found at them
found_above : {X : Type 0} (y : ℕ) (es : List (ℕ × X)) (k : ℕ) (x : X) → T (below_all nat_cmp y es) → find nat_cmp k es ≡ Some x → eq_by_cmp nat_cmp k y ≡ false
found_above y [] k x h there = absurd (cc)
found_above y (e ∷ es) k x h there =
    elim (chosen (eq_by_cmp nat_cmp k e.0) e.1 x (find nat_cmp k es) there) [
      | inl a ↦ ap (λ m. eq_by_cmp nat_cmp m y) (same_number k e.0 a.0) ∙ (eq_by_cmp_equiv nat_cmp_total).symm e.0 y ∙ lesser_apart (nat_cmp y e.0) (first_of_both (is_lt (nat_cmp y e.0)) (below_all nat_cmp y es) h)
      | inr b ↦ found_above y es k x (second_of_both (is_lt (nat_cmp y e.0)) (below_all nat_cmp y es) h) b.1
    ]

none_found : {X : Type 0} (f : ℕ × X → Bool) (es : List (ℕ × X)) → T (is_sorted nat_cmp es) → ((k : ℕ) (x : X) → find nat_cmp k es ≡ Some x → f (k, x) ≡ false) → list_any f es ≡ false
none_found f [] h each = refl
none_found f (e ∷ es) h each =
    (λ i. each e.0 e.1 (ap (λ b. cond b (Some e.1) (find nat_cmp e.0 es)) (same_numbers e.0)) i
    || none_found f es (second_of_both (below_all nat_cmp e.0 es) (is_sorted nat_cmp es) h) (λ k x there.
    each k x (ap (λ b. cond b (Some e.1) (find nat_cmp k es)) (found_above e.0 es k x (first_of_both (below_all nat_cmp e.0 es) (is_sorted nat_cmp es) h) there) ∙ there)) i)

any_entry : {X : Type 0} (f : ℕ × X → Bool) (m : FinMap nat_cmp X) (k : ℕ) (x : X) → get m k ≡ Some x → f (k, x) ≡ true → list_any f (entries m) ≡ true
any_entry f m k x there passes = any_found f (entries m) k x (sym (get-entries m k) ∙ there) passes

no_entry : {X : Type 0} (f : ℕ × X → Bool) (m : FinMap nat_cmp X) → ((k : ℕ) (x : X) → get m k ≡ Some x → f (k, x) ≡ false) → list_any f (entries m) ≡ false
no_entry f m each = none_found f (entries m) (entries_sorted m) (λ k x there. each k x (get-entries m k ∙ there))

-- ---- what is known of a row that is seen

seen_parts : (a b : Bool) → (a && not b) ≡ true → (a ≡ true) × (b ≡ false)
seen_parts true true e = absurd (false≢true e)
seen_parts true false e = (refl, refl)
seen_parts false b e = absurd (false≢true e)

-- its transaction is own, or has committed
pub put_committed : (ss : List Status) (o : Open) (v : Version) → is_seen ss o v ≡ true → v.row.id.t ≢ o.t → is_committed (status_of ss v.row.id.t) ≡ true
put_committed ss o v seen ne =
    let put = (seen_parts (done ss o v.row.id.t) (done ss o v.deleter) seen).0 in
    first (is_committed (status_of ss v.row.id.t)) (had_ended o.snapshot v.row.id.t) (sym (ap (λ b. b || (is_committed (status_of ss v.row.id.t) && had_ended o.snapshot v.row.id.t)) (ne_eqb v.row.id.t o.t ne)) ∙ put)
  where
    first : (a b : Bool) → (a && b) ≡ true → a ≡ true
    first true b e = refl
    first false b e = e

-- its deleter isn't own
pub deleter_other : (ss : List Status) (o : Open) (v : Version) → is_seen ss o v ≡ true → v.deleter ≢ o.t
deleter_other ss o v seen same =
    false≢true (sym (seen_parts (done ss o v.row.id.t) (done ss o v.deleter) seen).1 ∙ ap (done ss o) same ∙ done_own ss o)

pub unheld_uncommitted : (s : Status) → holds s ≡ false → is_committed s ≡ false
unheld_uncommitted Unused e = refl
unheld_uncommitted Begun e = refl
unheld_uncommitted Committed e = absurd (true≢false e)
unheld_uncommitted RolledBack e = refl

-- a deleter that holds nothing isn't an open transaction
pub not_open : (ss : List Status) (p : Open) (t : ℕ) → status_of ss p.t ≡ Begun → holds (status_of ss t) ≡ false → t ≢ p.t
not_open ss p t begun unheld same = true≢false (sym (ap (λ t. holds (status_of ss t)) same ∙ ap holds begun) ∙ unheld)

-- without a conflict, the deleter holds nothing
pub unheld : (vs : List Version) (ss : List Status) (os : List (Option Open)) (n : ℕ) (o : Open) (v : Version) → IsStored vs ss os → transaction_of os n ≡ Some o → stored vs v.row.id ≡ Some v → is_seen ss o v ≡ true → conflicts ss o.t v ≡ false
    → holds (status_of ss v.deleter) ≡ false
unheld vs ss os n o v whole was there seen free = elim (cases_eq v.row.id.t o.t) [
  | inl own ↦ elim (cases_eq v.deleter 0) [
    | inl zero ↦ ap (λ t. holds (status_of ss t)) zero ∙ ap holds whole.nobody
    | inr some ↦ absurd (deleter_other ss o v seen ((whole.known v.row.id v there).own (ap (status_of ss) own ∙ (whole.under_way n o was).begun) some ∙ own))
  ]
  | inr ne ↦ sym (λ i. not (ne_eqb v.row.id.t o.t ne i) && (not (ne_eqb v.deleter o.t (deleter_other ss o v seen) i) && holds (status_of ss v.deleter))) ∙ free
]

-- ---- marks of other sessions

pub its_open : (ss : List Status) (vs : List Version) (o : Option Open) (x : OpenTransaction) → option_map (visible_transaction ss vs) o ≡ Some x → (p : Open) × (o ≡ Some p) × (visible_transaction ss vs p ≡ x)
its_open ss vs None x h = absurd (cc)
its_open ss vs (Some p) x h = (p, refl, cc)

-- whether an open transaction's marks have the row
marks_have : (vs : List Version) (ss : List Status) (os : List (Option Open)) (p : Open) (v : Version) → IsStored vs ss os → stored vs v.row.id ≡ Some v → set.contains (visible_transaction ss vs p).marks v.row.id ≡ is_marked p v
marks_have vs ss os p v whole there = contains-ids_of (is_marked p) vs v.row.id whole.ids_differ ∙ ap (λ (o : Option Version). is_some (option_filter (is_marked p) o)) there ∙ test (is_marked p v)
  where
    test : (b : Bool) → is_some (cond b (Some v) None) ≡ b
    test true = refl
    test false = refl

nobody_marked : (vs : List Version) (ss : List Status) (os : List (Option Open)) (n : ℕ) (v : Version) → IsStored vs ss os → stored vs v.row.id ≡ Some v → holds (status_of ss v.deleter) ≡ false
    → model.marked_elsewhere (visible_state vs ss os) n v.row.id ≡ false
nobody_marked vs ss os n v whole there quiet = no_entry (λ e. not (eqb e.0 n) && set.contains e.1.marks v.row.id) (visible_sessions ss vs os) (λ m x has.
    let p = its_open ss vs (transaction_of os m) x (sym (get_visible ss vs os m) ∙ has) in
    let unmarked : is_marked p.0 v ≡ false = ap (λ b. b && not (eqb v.row.id.t p.0.t)) (ne_eqb v.deleter p.0.t (not_open ss p.0 v.deleter (whole.under_way m p.0 p.1).begun quiet)) in
    ap (λ b. not (eqb m n) && b) (ap (λ (x : OpenTransaction). set.contains x.marks v.row.id) (sym p.2) ∙ marks_have vs ss os p.0 v whole there ∙ unmarked) ∙ and-false (not (eqb m n)))

somebody_marked : (vs : List Version) (ss : List Status) (os : List (Option Open)) (n : ℕ) (o : Open) (v : Version) → IsStored vs ss os → transaction_of os n ≡ Some o → stored vs v.row.id ≡ Some v → is_committed (status_of ss v.row.id.t) ≡ true → v.deleter ≢ o.t
    → status_of ss v.deleter ≡ Begun → model.marked_elsewhere (visible_state vs ss os) n v.row.id ≡ true
somebody_marked vs ss os n o v whole was there committed other begun =
    elim (model.marked_elsewhere (visible_state vs ss os) n v.row.id) as (λ b. model.marked_elsewhere (visible_state vs ss os) n v.row.id ≡ b → b ≡ true) [
      | true ↦ λ e. refl
      | false ↦ λ e. absurd (whole.begun v.deleter (λ m p h same. not_it e m p h same) begun)
    ] refl
  where
    not_it : model.marked_elsewhere (visible_state vs ss os) n v.row.id ≡ false → (m : ℕ) (p : Open) → transaction_of os m ≡ Some p → p.t ≡ v.deleter → ⊥
    not_it none m p h same = elim (cases_eq m n) [
      | inl own ↦ other (sym same ∙ ap (λ (o : Open). o.t) (let e : Some p ≡ Some o = sym h ∙ ap (transaction_of os) own ∙ was in let it : p ≡ o = cc in it))
      | inr ne ↦
          let apart : v.row.id.t ≢ p.t = λ e. false≢true (sym (ap (λ t. is_committed (status_of ss t)) e ∙ ap is_committed (whole.under_way m p h).begun) ∙ committed) in
          let marked : is_marked p v ≡ true = λ i. eq-eqb v.deleter p.t (sym same) i && not (ne_eqb v.row.id.t p.t apart i) in
          let passes : (not (eqb m n) && set.contains (visible_transaction ss vs p).marks v.row.id) ≡ true = λ i. not (ne_eqb m n ne i) && (marks_have vs ss os p v whole there ∙ marked) i in
          false≢true (sym none ∙ any_entry (λ e. not (eqb e.0 n) && set.contains e.1.marks v.row.id) (visible_sessions ss vs os) m (visible_transaction ss vs p) (get_visible ss vs os m ∙ ap (option_map (visible_transaction ss vs)) h) passes)
    ]

-- ---- the conflicts are those of the model

pub conflict_is : (vs : List Version) (ss : List Status) (os : List (Option Open)) (n : ℕ) (o : Open) (v : Version) → IsStored vs ss os → transaction_of os n ≡ Some o → stored vs v.row.id ≡ Some v → is_seen ss o v ≡ true
    → model.is_conflict (visible_state vs ss os) n (visible_transaction ss vs o) v.row.id ≡ conflicts ss o.t v
conflict_is vs ss os n o v whole was there seen = by_owner (eqb v.row.id.t o.t) refl
  where
    in_table : v.row.id.t ≢ o.t → contains_key (visible_state vs ss os).table v.row.id ≡ not (is_committed (status_of ss v.deleter))
    in_table ne =
        ap is_some (get-table_of (is_of_commit ss) vs v.row.id whole.ids_differ ∙ ap (λ (o : Option Version). row_of (option_filter (is_of_commit ss) o)) there)
        ∙ test (is_of_commit ss v)
        ∙ ap (λ c. c && not (is_committed (status_of ss v.deleter))) (put_committed ss o v seen ne)
      where
        test : (b : Bool) → is_some (row_of (cond b (Some v) None)) ≡ b
        test true = refl
        test false = refl

    by_status : v.row.id.t ≢ o.t → (s : Status) → status_of ss v.deleter ≡ s → (not (not (is_committed s)) || model.marked_elsewhere (visible_state vs ss os) n v.row.id) ≡ holds s
    by_status ne Unused e = nobody_marked vs ss os n v whole there (ap holds e)
    by_status ne Begun e = somebody_marked vs ss os n o v whole was there (put_committed ss o v seen ne) (deleter_other ss o v seen) e
    by_status ne Committed e = refl
    by_status ne RolledBack e = nobody_marked vs ss os n v whole there (ap holds e)

    by_owner : (b : Bool) → eqb v.row.id.t o.t ≡ b
        → (not b && (not (contains_key (visible_state vs ss os).table v.row.id) || model.marked_elsewhere (visible_state vs ss os) n v.row.id)) ≡ (not b && (not (eqb v.deleter o.t) && holds (status_of ss v.deleter)))
    by_owner true e = refl
    by_owner false e =
        let ne : v.row.id.t ≢ o.t = other_number_eqb v.row.id.t o.t e in
        ap (λ b. not b || model.marked_elsewhere (visible_state vs ss os) n v.row.id) (in_table ne)
        ∙ by_status ne (status_of ss v.deleter) refl
        ∙ sym (ap (λ b. not b && holds (status_of ss v.deleter)) (ne_eqb v.deleter o.t (deleter_other ss o v seen)))
