-- what a put makes of the visible state
use Rattle.std.proofs.Common.{◌≡◌, ◌≢◌, Bool, true, false, cond, not, ◌&&◌, ℕ, ◌+◌, ◌<◌, List, length, Option, None, Some, refl, sym, ap, ◌∙◌, inl, inr, subst, arith, eqb, ne_eqb}
use Rattle.std.specs.Option.{is_some, IfSome}
use Rattle.std.specs.Ordering.{nat_cmp, eq_by_cmp}
use Rattle.std.specs.FinMap.{get}
use Rattle.std.proofs.lemmas.Map.Entries.{option_filter}
use Rattle.block_model.specs.declared.value.Value.{Value}
use Rattle.block_model.specs.declared.row.RowId.{RowId}
use Rattle.block_model.specs.declared.row.Row.{Row}
use Rattle.block_model.specs.declared.request.Request.TheVariants as requests
use Rattle.block_model.specs.DatabaseState.{DatabaseState, OpenTransaction}
use Rattle.block_model.specs.RequestEffect as model
use Rattle.snapshot_core.specs.declared.statuses.Status.{Status}
use Rattle.snapshot_core.specs.declared.statuses.Status.TheVariants.{Unused, Begun}
use Rattle.snapshot_core.specs.Visibility.{is_committed, had_ended}
use Rattle.store_layout.specs.StatementRequests.{request_entry}
use Rattle.snapshot_core.specs.declared.table.Version.{Version}
use Rattle.snapshot_core.specs.declared.sessions.Open.{Open}
use Rattle.snapshot_core.specs.VisibleState.{status_of, is_of_commit, is_seen, is_marked, table_of, visible_transaction, visible_state}
use Rattle.snapshot_core.specs.StoredVersions.{stored, transaction_of, IsKnown, IsUnderWay, AreApart, IsStored}
use Rattle.snapshot_core.specs.SessionChanges.{with_next_k, failed_open}
use Rattle.snapshot_core.proofs.Choices.{none_of, same_number, other_number}
use Rattle.snapshot_core.proofs.Stored.{row_of, AreDistinct, Puts, table-insert, table-kept, ids-kept, stored_after}
use Rattle.snapshot_core.proofs.Sights.{begun_known, done_own, done_not, done_uncommitted, seen_by, unseen}
use Rattle.snapshot_core.proofs.Copies.{Becomes, OthersStay, sessions_put, which, it_has, others_have, get_open}

-- ---- a session's transaction changes, but for its number and its snapshot

pub changed_stored : (vs ws : List Version) (ss : List Status) (os os' : List (Option Open)) (n : ℕ) (o o' : Open) → IsStored vs ss os → transaction_of os n ≡ Some o → Becomes os os' n (Some o')
    → AreDistinct ws → ((q : RowId) (v : Version) → stored ws q ≡ Some v → IsKnown ss v) → o'.t ≡ o.t → o'.snapshot ≡ o.snapshot → IsUnderWay ws ss o'
    → ((m : ℕ) (p : Open) → transaction_of os m ≡ Some p → AreApart o p → IsUnderWay ws ss p) → IsStored ws ss os'
changed_stored vs ws ss os os' n o o' whole was at distinct known same_t same_snapshot under_way others = record {
  nobody = whole.nobody;
  some = whole.some;
  ids_differ = distinct;
  known = known;
  under_way = λ m p h. elim (which os os' n o' at m p h) [
    | inl a ↦ subst (IsUnderWay ws ss) a.1 under_way
    | inr d ↦ others m p d.1 (whole.apart n m o p was d.1 (λ k. other_number m n d.0 (sym k)))
  ];
  apart = λ m k p q h g ne. elim (which os os' n o' at m p h) [
    | inl a ↦ elim (which os os' n o' at k q g) [
      | inl c ↦ absurd (ne (a.0 ∙ sym c.0))
      | inr d ↦ subst (λ (p : Open). AreApart p q) a.1 (from_old q (whole.apart n k o q was d.1 (λ e. ne (a.0 ∙ e))))
    ]
    | inr d ↦ elim (which os os' n o' at k q g) [
      | inl a ↦ subst (AreApart p) a.1 (to_old p (whole.apart m n p o d.1 was (λ e. ne (e ∙ sym a.0))))
      | inr f ↦ whole.apart m k p q d.1 f.1 ne
    ]
  ];
  begun = λ t nobody_has. whole.begun t (λ m p h same. had t nobody_has m p h same);
}
  where
    from_old : (q : Open) → AreApart o q → AreApart o' q
    from_old q h = record { differ = λ e. h.differ (sym same_t ∙ e); unfinished = ap (had_ended q.snapshot) same_t ∙ h.unfinished }

    to_old : (p : Open) → AreApart p o → AreApart p o'
    to_old p h = record { differ = λ e. h.differ (e ∙ same_t); unfinished = ap (λ s. had_ended s p.t) same_snapshot ∙ h.unfinished }

    had : (t : ℕ) → ((m : ℕ) (p : Open) → transaction_of os' m ≡ Some p → p.t ≢ t) → (m : ℕ) (p : Open) → transaction_of os m ≡ Some p → p.t ≡ t → ⊥
    had t nobody_has m p h same =
        elim (eq_by_cmp nat_cmp m n) as (λ b. eq_by_cmp nat_cmp m n ≡ b → ⊥) [
          | true ↦ λ d. nobody_has n o' (it_has os os' n (Some o') at) (same_t ∙ sym (its m p d h) ∙ same)
          | false ↦ λ d. nobody_has m p (others_have os os' n m (Some o') at d ∙ h) same
        ] refl
      where
        its : (m : ℕ) (p : Open) → eq_by_cmp nat_cmp m n ≡ true → transaction_of os m ≡ Some p → p.t ≡ o.t
        its m p d h = let same : Some p ≡ Some o = sym h ∙ ap (transaction_of os) (same_number m n d) ∙ was in ap (λ (o : Open). o.t) (let e : p ≡ o = cc in e)

-- ---- failure

pub failed_stored : (vs : List Version) (ss : List Status) (os os' : List (Option Open)) (n : ℕ) (o : Open) → IsStored vs ss os → transaction_of os n ≡ Some o → Becomes os os' n (Some (failed_open o)) → IsStored vs ss os'
failed_stored vs ss os os' n o whole was at =
    let h = whole.under_way n o was in
    changed_stored vs vs ss os os' n o (failed_open o) whole was at whole.ids_differ whole.known refl refl
    (record { numbered = h.numbered; begun = h.begun; taken = h.taken; placed = h.placed }) (λ m p was_p far. whole.under_way m p was_p)

pub failed_state : (vs : List Version) (ss : List Status) (os os' : List (Option Open)) (n : ℕ) (o : Open) → Becomes os os' n (Some (failed_open o))
    → visible_state vs ss os' ≡ model.after_failure (visible_state vs ss os) n (visible_transaction ss vs o)
failed_state vs ss os os' n o at =
    let sessions = sessions_put ss ss vs vs os os' n (failed_open o) (model.failed_transaction (visible_transaction ss vs o)) at refl (λ m p e h. refl) in
    λ i. record { next = length ss; table = table_of (is_of_commit ss) vs; sessions = sessions i }

-- of the session's transaction in a state s that the parts show
pub failed_shown : (vs : List Version) (ss : List Status) (os os' : List (Option Open)) (n : ℕ) (o : Open) (s : DatabaseState) → visible_state vs ss os ≡ s → transaction_of os n ≡ Some o → Becomes os os' n (Some (failed_open o))
    → IfSome (get s.sessions n) (λ x. visible_state vs ss os' ≡ model.after_failure s n x)
failed_shown vs ss os os' n o s view was at =
    subst (λ (x : Option OpenTransaction). IfSome x (λ x. visible_state vs ss os' ≡ model.after_failure s n x)) (sym (get_open vs ss os n o s view was))
    (failed_state vs ss os os' n o at ∙ ap (λ (s : DatabaseState). model.after_failure s n (visible_transaction ss vs o)) view)

-- ---- a put

-- the row that an open transaction puts
abbrev pub new_row : Open → ℕ → List Value → Row
new_row o table values = record { table = table; id = record { t = o.t; k = o.next_k }; values = values }

abbrev pub new_version : Open → ℕ → List Value → Version
new_version o table values = record { row = new_row o table values; deleter = 0 }

pub new_is_absent : (vs : List Version) (ss : List Status) (o : Open) → IsUnderWay vs ss o → stored vs (record { t = o.t; k = o.next_k }) ≡ None
new_is_absent vs ss o h = none_of (stored vs (record { t = o.t; k = o.next_k })) (λ x e. let low : o.next_k < o.next_k = h.placed (record { t = o.t; k = o.next_k }) x e refl in omega arith)

-- where nothing stood and what comes doesn't pass, nothing is shown before and after
nothing_shown : (p : Version → Bool) (vs : List Version) (v : Version) → stored vs v.row.id ≡ None → p v ≡ false → row_of (option_filter p (Some v)) ≡ row_of (option_filter p (stored vs v.row.id))
nothing_shown p vs v none e = ap (λ b. row_of (cond b (Some v) None)) e ∙ sym (ap (λ (o : Option Version). row_of (option_filter p o)) none)

nothing_there : (p : Version → Bool) (vs : List Version) (v : Version) → stored vs v.row.id ≡ None → p v ≡ false → is_some (option_filter p (Some v)) ≡ is_some (option_filter p (stored vs v.row.id))
nothing_there p vs v none e = ap (λ b. is_some (cond b (Some v) None)) e ∙ sym (ap (λ (o : Option Version). is_some (option_filter p o)) none)

-- nobody's number is 0
unmarked : (p : Open) (v : Version) → 0 < p.t → v.deleter ≡ 0 → is_marked p v ≡ false
unmarked p v some zero = ap (λ b. b && not (eqb v.row.id.t p.t)) (ne_eqb v.deleter p.t (λ e. omega arith))

put_others : (vs ws : List Version) (ss : List Status) (os : List (Option Open)) (n : ℕ) (o : Open) (v : Version) → IsStored vs ss os → transaction_of os n ≡ Some o → Puts vs ws v → stored vs v.row.id ≡ None → v.row.id.t ≡ o.t → v.deleter ≡ 0 → OthersStay ss ss vs ws os n
put_others vs ws ss os n o v whole was put none own zero m p e h =
    let far = whole.apart n m o p was h (λ d. other_number m n e (sym d)) in
    let hidden = unseen ss p v (done_not ss p v.row.id.t (λ d. far.differ (sym own ∙ d)) (ap (had_ended p.snapshot) own ∙ far.unfinished)) in
    let view = table-kept (is_seen ss p) vs ws v put (nothing_shown (is_seen ss p) vs v none hidden) in
    let marks = ids-kept (is_marked p) vs ws v put (nothing_there (is_marked p) vs v none (unmarked p v (whole.under_way m p h).numbered zero)) in
    λ i. record { t = p.t; next_k = p.next_k; view = view i; marks = marks i; failed = p.failed }

put_state : (vs ws : List Version) (ss : List Status) (os os' : List (Option Open)) (n table : ℕ) (values : List Value) (o : Open) → IsStored vs ss os → transaction_of os n ≡ Some o → Becomes os os' n (Some (with_next_k o (o.next_k + 1))) → Puts vs ws (new_version o table values)
    → model.with_transaction (visible_state vs ss os) n (model.after_put (visible_transaction ss vs o) table values) ≡ visible_state ws ss os'
put_state vs ws ss os os' n table values o whole was at put =
    let v = new_version o table values in
    let h = whole.under_way n o was in
    let none = new_is_absent vs ss o h in
    let committed = table-kept (is_of_commit ss) vs ws v put (nothing_shown (is_of_commit ss) vs v none (ap (λ s. is_committed s && not (is_committed (status_of ss 0))) h.begun)) in
    let sees = seen_by ss o v true false (done_own ss o) (done_uncommitted ss o 0 (λ e. omega (arith, e, h.numbered)) (ap is_committed whole.nobody)) in
    let seen = table-insert (is_seen ss o) vs ws v put sees in
    let marks = ids-kept (is_marked o) vs ws v put (nothing_there (is_marked o) vs v none (unmarked o v h.numbered refl)) in
    let x : OpenTransaction = model.after_put (visible_transaction ss vs o) table values in
    let shown : visible_transaction ss ws (with_next_k o (o.next_k + 1)) ≡ x = λ i. record { t = o.t; next_k = o.next_k + 1; view = seen i; marks = marks i; failed = o.failed } in
    let sessions = sessions_put ss ss vs ws os os' n (with_next_k o (o.next_k + 1)) x at shown (put_others vs ws ss os n o v whole was put none refl refl) in
    sym (λ i. record { next = length ss; table = committed i; sessions = sessions i })

pub put_stored : (vs ws : List Version) (ss : List Status) (os os' : List (Option Open)) (n table : ℕ) (values : List Value) (o : Open) → IsStored vs ss os → transaction_of os n ≡ Some o → Becomes os os' n (Some (with_next_k o (o.next_k + 1))) → Puts vs ws (new_version o table values)
    → IsStored ws ss os'
put_stored vs ws ss os os' n table values o whole was at put =
    changed_stored vs ws ss os os' n o (with_next_k o (o.next_k + 1)) whole was at put.after known refl refl own others
  where
    v : Version
    v = new_version o table values

    h : IsUnderWay vs ss o
    h = whole.under_way n o was

    new_known : IsKnown ss (new_version o table values)
    new_known = record { put = begun_known ss o.t (whole.under_way n o was).begun; gone = whole.some; own = λ is some. absurd (some refl); marked = λ is. absurd (let none : Unused ≡ Begun = sym whole.nobody ∙ is in cc) }

    known : (q : RowId) (x : Version) → stored ws q ≡ Some x → IsKnown ss x
    known q x g = elim (stored_after vs ws (new_version o table values) q x put g) [
      | inl d ↦ subst (IsKnown ss) d.1 new_known
      | inr d ↦ whole.known q x d
    ]

    own : IsUnderWay ws ss (with_next_k o (o.next_k + 1))
    own =
        let was_placed = (whole.under_way n o was).placed in record {
          numbered = (whole.under_way n o was).numbered;
          begun = (whole.under_way n o was).begun;
          taken = (whole.under_way n o was).taken;
          placed = λ q x g e. elim (stored_after vs ws (new_version o table values) q x put g) [
            | inl d ↦ let same : q.k ≡ o.next_k = ap (λ (i : RowId). i.k) d.0 in omega arith
            | inr d ↦ let low : q.k < o.next_k = was_placed q x d e in omega arith
          ];
        }

    others : (m : ℕ) (p : Open) → transaction_of os m ≡ Some p → AreApart o p → IsUnderWay ws ss p
    others m p was_p far =
        let was_under_way = whole.under_way m p was_p in record {
          numbered = was_under_way.numbered;
          begun = was_under_way.begun;
          taken = was_under_way.taken;
          placed = λ q x g same. elim (stored_after vs ws (new_version o table values) q x put g) [
            | inl d ↦ absurd (far.differ (sym (ap (λ (i : RowId). i.t) d.0) ∙ same))
            | inr d ↦ was_under_way.placed q x d same
          ];
        }

pub put_effect : (vs ws : List Version) (ss : List Status) (os os' : List (Option Open)) (n table : ℕ) (values : List Value) (o : Open) (s : DatabaseState) → visible_state vs ss os ≡ s
    → IsStored vs ss os → transaction_of os n ≡ Some o → Becomes os os' n (Some (with_next_k o (o.next_k + 1))) → Puts vs ws (new_version o table values)
    → model.effect s (request_entry n table (requests.Put values)) ≡ (visible_state ws ss os', model.Inserted (record { t = o.t; k = o.next_k }))
put_effect vs ws ss os os' n table values o s view whole was at put =
    model.effect_is s (request_entry n table (requests.Put values))
    ∙ ap (λ x. model.effect_at x s (request_entry n table (requests.Put values))) (get_open vs ss os n o s view was)
    ∙ ap (λ (s : DatabaseState). (s, model.Inserted (record { t = o.t; k = o.next_k })))
    (ap (λ (s : DatabaseState). model.with_transaction s n (model.after_put (visible_transaction ss vs o) table values)) (sym view) ∙ put_state vs ws ss os os' n table values o whole was at put)
