-- what marks make of the visible state
use Rattle.std.proofs.Common.{◌≡◌, Bool, true, false, cond, not, ◌&&◌, ℕ, List, length, Option, None, Some, refl, sym, ap, ◌∙◌, inl, inr, subst, eqb, eq-eqb, ne_eqb}
use Rattle.std.specs.Option.{is_some}
use Rattle.std.specs.Ordering.{nat_cmp, eq_by_cmp}
use Rattle.std.specs.FinSet as marks
use Rattle.std.proofs.lemmas.Bool.{true≢false, cases_eq}
use Rattle.std.proofs.lemmas.Map.Entries.{option_filter}
use Rattle.block_model.specs.declared.request.Request.TheVariants as requests
use Rattle.block_model.specs.DatabaseState.{DatabaseState, OpenTransaction}
use Rattle.block_model.specs.RequestEffect as model
use Rattle.snapshot_core.specs.declared.statuses.Status.{Status}
use Rattle.snapshot_core.specs.Visibility.{is_committed}
use Rattle.store_layout.specs.StatementRequests.{request_entry}
use Rattle.snapshot_core.specs.declared.table.Version.{Version}
use Rattle.snapshot_core.specs.declared.sessions.Open.{Open}
use Rattle.snapshot_core.specs.VisibleState.{status_of, is_of_commit, is_seen, is_marked, ids_of, visible_transaction, visible_state}
use Rattle.snapshot_core.specs.StoredVersions.{stored, transaction_of, IsKnown, IsUnderWay, IsStored}
use Rattle.snapshot_core.specs.Marks.{holds, conflicts, with_deleter}
use Rattle.snapshot_core.proofs.Choices.{same_number, other_number}
use Rattle.snapshot_core.proofs.Stored.{row_of, Puts, table-remove, table-kept, ids-insert, ids-kept, stored_after}
use Rattle.snapshot_core.proofs.Sights.{begun_known, done, done_own, done_not, done_uncommitted, deleted}
use Rattle.snapshot_core.proofs.Copies.{Becomes, OthersStay, sessions_put, get_open}
use Rattle.snapshot_core.proofs.Conflicts.{put_committed, deleter_other, unheld_uncommitted, not_open, unheld, conflict_is}

-- ---- one mark that doesn't conflict

-- a version and the same one with another deleter show alike where they pass alike
alike_shown : (p : Version → Bool) (vs : List Version) (v : Version) (t : ℕ) → stored vs v.row.id ≡ Some v → p (with_deleter v t) ≡ p v → row_of (option_filter p (Some (with_deleter v t))) ≡ row_of (option_filter p (stored vs v.row.id))
alike_shown p vs v t there same = ap (λ b. row_of (cond b (Some (with_deleter v t)) None)) same ∙ either (p v) ∙ sym (ap (λ (o : Option Version). row_of (option_filter p o)) there)
  where
    either : (b : Bool) → row_of (cond b (Some (with_deleter v t)) None) ≡ row_of (cond b (Some v) None)
    either true = refl
    either false = refl

alike_there : (p : Version → Bool) (vs : List Version) (v : Version) (t : ℕ) → stored vs v.row.id ≡ Some v → p (with_deleter v t) ≡ p v → is_some (option_filter p (Some (with_deleter v t))) ≡ is_some (option_filter p (stored vs v.row.id))
alike_there p vs v t there same = ap (λ b. is_some (cond b (Some (with_deleter v t)) None)) same ∙ either (p v) ∙ sym (ap (λ (o : Option Version). is_some (option_filter p o)) there)
  where
    either : (b : Bool) → is_some (cond b (Some (with_deleter v t)) None) ≡ is_some (cond b (Some v) None)
    either true = refl
    either false = refl

still_has : (os : List (Option Open)) (n : ℕ) (o : Open) → transaction_of os n ≡ Some o → Becomes os os n (Some o)
still_has os n o was m = go (eq_by_cmp nat_cmp m n) refl
  where
    go : (b : Bool) → eq_by_cmp nat_cmp m n ≡ b → transaction_of os m ≡ cond b (Some o) (transaction_of os m)
    go true e = ap (transaction_of os) (same_number m n e) ∙ was
    go false e = refl

marked_others : (vs ws : List Version) (ss : List Status) (os : List (Option Open)) (n : ℕ) (o : Open) (v : Version) → IsStored vs ss os → transaction_of os n ≡ Some o → stored vs v.row.id ≡ Some v → holds (status_of ss v.deleter) ≡ false → Puts vs ws (with_deleter v o.t) → OthersStay ss ss vs ws os n
marked_others vs ws ss os n o v whole was there quiet put m p e h =
    let far = whole.apart n m o p was h (λ d. other_number m n e (sym d)) in
    let apart = not_open ss p v.deleter (whole.under_way m p h).begun quiet in
    let seen : is_seen ss p (with_deleter v o.t) ≡ is_seen ss p v = ap (λ b. done ss p v.row.id.t && not b) (done_not ss p o.t far.differ far.unfinished ∙ sym (done_uncommitted ss p v.deleter apart (unheld_uncommitted (status_of ss v.deleter) quiet))) in
    let marked : is_marked p (with_deleter v o.t) ≡ is_marked p v = ap (λ b. b && not (eqb v.row.id.t p.t)) (ne_eqb o.t p.t far.differ ∙ sym (ne_eqb v.deleter p.t apart)) in
    let view = table-kept (is_seen ss p) vs ws (with_deleter v o.t) put (alike_shown (is_seen ss p) vs v o.t there seen) in
    let marks = ids-kept (is_marked p) vs ws (with_deleter v o.t) put (alike_there (is_marked p) vs v o.t there marked) in
    λ i. record { t = p.t; next_k = p.next_k; view = view i; marks = marks i; failed = p.failed }

mark_state : (vs ws : List Version) (ss : List Status) (os : List (Option Open)) (n : ℕ) (o : Open) (v : Version) → IsStored vs ss os → transaction_of os n ≡ Some o → stored vs v.row.id ≡ Some v → is_seen ss o v ≡ true → conflicts ss o.t v ≡ false → Puts vs ws (with_deleter v o.t)
    → model.with_transaction (visible_state vs ss os) n (model.after_mark (visible_transaction ss vs o) v.row.id) ≡ visible_state ws ss os
mark_state vs ws ss os n o v whole was there seen free put =
    let begun = (whole.under_way n o was).begun in
    let quiet = unheld vs ss os n o v whole was there seen free in
    let committed : is_of_commit ss (with_deleter v o.t) ≡ is_of_commit ss v = ap (λ b. is_committed (status_of ss v.row.id.t) && not b) (ap is_committed begun ∙ sym (unheld_uncommitted (status_of ss v.deleter) quiet)) in
    let table = table-kept (is_of_commit ss) vs ws (with_deleter v o.t) put (alike_shown (is_of_commit ss) vs v o.t there committed) in
    let view = table-remove (is_seen ss o) vs ws (with_deleter v o.t) put (deleted ss o (with_deleter v o.t) (done_own ss o)) in
    let marks = its_marks (eqb v.row.id.t o.t) refl in
    let x : OpenTransaction = model.after_mark (visible_transaction ss vs o) v.row.id in
    let shown : visible_transaction ss ws o ≡ x = λ i. record { t = o.t; next_k = o.next_k; view = view i; marks = marks i; failed = o.failed } in
    let sessions = sessions_put ss ss vs ws os os n o x (still_has os n o was) shown (marked_others vs ws ss os n o v whole was there quiet put) in
    sym (λ i. record { next = length ss; table = table i; sessions = sessions i })
  where
    -- an own row is no mark
    its_marks : (b : Bool) → eqb v.row.id.t o.t ≡ b → ids_of (is_marked o) ws ≡ cond b (ids_of (is_marked o) vs) (marks.insert (ids_of (is_marked o) vs) v.row.id)
    its_marks true e = ids-kept (is_marked o) vs ws (with_deleter v o.t) put (alike_there (is_marked o) vs v o.t there (
        ap (λ b. eqb o.t o.t && not b) e ∙ and_false (eqb o.t o.t) ∙ sym (ap (λ b. b && not (eqb v.row.id.t o.t)) (ne_eqb v.deleter o.t (deleter_other ss o v seen)))))
      where
        and_false : (b : Bool) → (b && false) ≡ false
        and_false true = refl
        and_false false = refl
    its_marks false e = ids-insert (is_marked o) vs ws (with_deleter v o.t) put (λ i. eq-eqb o.t o.t refl i && not (e i))

pub marked_stored : (vs ws : List Version) (ss : List Status) (os : List (Option Open)) (n : ℕ) (o : Open) (v : Version) → IsStored vs ss os → transaction_of os n ≡ Some o → stored vs v.row.id ≡ Some v → is_seen ss o v ≡ true → Puts vs ws (with_deleter v o.t) → IsStored ws ss os
marked_stored vs ws ss os n o v whole was there seen put = record {
  nobody = whole.nobody;
  some = whole.some;
  ids_differ = put.after;
  known = λ q x h. elim (stored_after vs ws (with_deleter v o.t) q x put h) [
    | inl d ↦ subst (IsKnown ss) d.1 marked_known
    | inr d ↦ whole.known q x d
  ];
  under_way = λ m p h. still p (whole.under_way m p h);
  apart = whole.apart;
  begun = whole.begun;
}
  where
    marked_known : IsKnown ss (with_deleter v o.t)
    marked_known = record {
      put = (whole.known v.row.id v there).put;
      gone = begun_known ss o.t (whole.under_way n o was).begun;
      own = λ is some. elim (cases_eq v.row.id.t o.t) [
        | inl own ↦ sym own
        | inr ne ↦ absurd (true≢false (sym (put_committed ss o v seen ne) ∙ ap is_committed is))
      ];
      marked = λ is other. put_committed ss o v seen (λ own. other (sym own));
    }

    still : (p : Open) → IsUnderWay vs ss p → IsUnderWay ws ss p
    still p h = record {
      numbered = h.numbered;
      begun = h.begun;
      taken = h.taken;
      placed = λ q x g same. elim (stored_after vs ws (with_deleter v o.t) q x put g) [
        | inl d ↦ h.placed q v (ap (stored vs) d.0 ∙ there) same
        | inr d ↦ h.placed q x d same
      ];
    }

-- ---- the effect of one mark

pub free_effect : (vs ws : List Version) (ss : List Status) (os : List (Option Open)) (n table : ℕ) (o : Open) (v : Version) → IsStored vs ss os → transaction_of os n ≡ Some o → stored vs v.row.id ≡ Some v → is_seen ss o v ≡ true → conflicts ss o.t v ≡ false → Puts vs ws (with_deleter v o.t)
    → model.effect (visible_state vs ss os) (request_entry n table (requests.Mark v.row.id)) ≡ (visible_state ws ss os, model.Marked)
free_effect vs ws ss os n table o v whole was there seen free put =
    let s : DatabaseState = visible_state vs ss os in
    let x : OpenTransaction = visible_transaction ss vs o in
    model.effect_is s (request_entry n table (requests.Mark v.row.id))
    ∙ ap (λ x. model.effect_at x s (request_entry n table (requests.Mark v.row.id))) (get_open vs ss os n o s refl was)
    ∙ ap (λ b. cond b (model.after_failure s n x, model.Conflict v.row.id) (model.with_transaction s n (model.after_mark x v.row.id), model.Marked)) (conflict_is vs ss os n o v whole was there seen ∙ free)
    ∙ ap (λ (s : DatabaseState). (s, model.Marked)) (mark_state vs ws ss os n o v whole was there seen free put)

pub conflict_effect : (vs : List Version) (ss : List Status) (os : List (Option Open)) (n table : ℕ) (o : Open) (v : Version) → IsStored vs ss os → transaction_of os n ≡ Some o → stored vs v.row.id ≡ Some v → is_seen ss o v ≡ true → conflicts ss o.t v ≡ true
    → model.effect (visible_state vs ss os) (request_entry n table (requests.Mark v.row.id)) ≡ (model.after_failure (visible_state vs ss os) n (visible_transaction ss vs o), model.Conflict v.row.id)
conflict_effect vs ss os n table o v whole was there seen conflict =
    let s : DatabaseState = visible_state vs ss os in
    let x : OpenTransaction = visible_transaction ss vs o in
    model.effect_is s (request_entry n table (requests.Mark v.row.id))
    ∙ ap (λ x. model.effect_at x s (request_entry n table (requests.Mark v.row.id))) (get_open vs ss os n o s refl was)
    ∙ ap (λ b. cond b (model.after_failure s n x, model.Conflict v.row.id) (model.with_transaction s n (model.after_mark x v.row.id), model.Marked)) (conflict_is vs ss os n o v whole was there seen ∙ conflict)
