-- snapshots of open transactions, and the fronts where they were taken
use Rattle.std.proofs.Common.{◌≡◌, ◌≢◌, ◌⊎◌, inl, inr, ℕ, ◌<◌, eqb, false, not, List, length, set, get_or, Option, None, Some, refl, sym, ap, subst, ◌∙◌, arith}
use Rattle.std.specs.Prelude.{IsTrue, nat_lt, ◌↔◌}
use Rattle.std.specs.List.{list_any}
use Rattle.std.proofs.lemmas.Bool.{and_from, and_parts, cases_eq, cases_lt, false_from_ne_true, lt-ltb, ltb-true, not_from_false, true≢false}
use Rattle.std.proofs.lemmas.List.{get_or_past, get_or-set_other, get_or-set_same, length-set}
use Rattle.block_model.specs.declared.request.Entry.{Entry}
use Rattle.block_model.specs.DatabaseState.{DatabaseState}
use Rattle.block_model.specs.NumberMaps.{none_Some}
use Rattle.block_model.specs.SerialRun.{serial_run}
use Rattle.store_layout.specs.DiskLayout.{DiskLayout}
use Rattle.page_map.specs.PageMap.{PageMap}
use Rattle.snapshot_core.specs.declared.snapshots.Snapshot.{Snapshot}
use Rattle.snapshot_core.specs.declared.statuses.Status.{Status}
use Rattle.snapshot_core.specs.Visibility.{had_ended, was_active}
use Rattle.snapshot_core.specs.declared.sessions.Open.{Open}
use Rattle.snapshot_core.specs.SessionChanges.{numbers_of}
use Rattle.snapshot_core.specs.StoredVersions.{transaction_of}
use Rattle.snapshot_core.proofs.Begins.{active_is_open, numbers_once, open_is_active}
use Rattle.transactions.specs.Sessions.{HaveTransactions}
use Rattle.transactions.specs.ShowsDatabase.{ShowsDatabase}
use Rattle.transactions.specs.TransactionsState.{TransactionsState, next_open}
use Rattle.transactions.proofs.Copies.{sessions_shown}
use Rattle.transactions.proofs.Shown.{whole}
use Rattle.script_semantics.specs.DeadRows.{HasEnded, IsOpen}
use Rattle.script_semantics.specs.Place.{Place, database_at}
use Rattle.script_semantics.specs.Views.{takes_view, view_front}
use Rattle.script_semantics.proofs.Fronts.{ended_since, view_stays}
use Rattle.session_parts.specs.FrontsStand.{FrontsStand, IsTakenOf}
use Rattle.session_parts.specs.RowsFollow.{IsOfOpen}
use Rattle.session_parts.specs.FrontLaws.{GoesOn}

-- ---- the sessions' transactions

-- whose transaction it is where one session's has changed
pub which : (os : List (Option Open)) (n m : ℕ) (x : Option Open) (o : Open) → transaction_of (set os n x) m ≡ Some o → ((m ≡ n) × (x ≡ Some o)) ⊎ ((m ≢ n) × (transaction_of os m ≡ Some o))
which os n m x o was = elim (cases_eq m n) [
  | inl same ↦
      let here : get_or (set os n x) n None ≡ Some o = ap (λ k. get_or (set os n x) k None) (sym same) ∙ was in
      elim (cases_lt n (length os)) [
        | inl low ↦ inl (same, sym (get_or-set_same os n x None low) ∙ here)
        | inr past ↦ absurd (none_Some o (sym (get_or_past (set os n x) n None (let long = length-set os n x in omega (arith, past, long))) ∙ here))
      ]
  | inr apart ↦ inr (apart, sym (get_or-set_other os n m x None apart) ∙ was)
]

-- ---- what a snapshot has

-- exactly what had ended
pub has_ended : (snapshot : Snapshot) (s : DatabaseState) → IsTakenOf snapshot s → (u : ℕ) → IsTrue (had_ended snapshot u) ↔ HasEnded s u
has_ended snapshot s taken u = (
  λ had.
      let parts = and_parts (nat_lt u snapshot.next) (not (was_active snapshot u)) had in
      let low : u < snapshot.next = ltb-true u snapshot.next parts.0 in
      let next = taken.next in
      (omega (arith, low, next), λ under_way. true≢false (sym parts.1 ∙ ap not ((taken.active u).1 under_way))),
  λ ended.
      let low : u < s.next = ended.0 in
      let next = taken.next in
      and_from (nat_lt u snapshot.next) (not (was_active snapshot u)) (lt-ltb u snapshot.next (omega (arith, low, next)))
      (not_from_false (was_active snapshot u) (false_from_ne_true (was_active snapshot u) (λ is. ended.1 ((taken.active u).0 is)))),
)

module _ (t : TransactionsState) (s : DatabaseState) (have : HaveTransactions t s) (u : ℕ) where
  -- open in the database, or by the sessions
  pub is_of_open : IsOpen s u → IsOfOpen t u
  is_of_open under_way = let o = have.opened under_way.0 under_way.1 under_way.2 in (under_way.0, o.0, o.1, sym under_way.3 ∙ o.2.t)

  pub is_open : IsOfOpen t u → IsOpen s u
  is_open under = let x = have.shown under.0 under.1 under.2 in (under.0, x.0, x.1, x.2.t ∙ sym under.3)

-- a new one
pub new_is_taken : {layout : DiskLayout} {pages : PageMap} (t : TransactionsState) (s : DatabaseState) → ShowsDatabase layout pages t s → HaveTransactions t s → IsTakenOf (next_open t).snapshot s
new_is_taken t s shows have = record {
  next = sym have.next;
  active = λ u. (
    λ is. let r = active_is_open t.opens u is in is_open t s have u (r.0, r.1, r.2, sym r.3),
    λ under_way. let under = is_of_open t s have u under_way in subst (λ k. IsTrue (list_any (λ v. eqb v k) (numbers_of t.opens))) (sym under.3) (open_is_active t.opens under.0 under.1 under.2),
  );
  once = numbers_once t.opens (λ m n o p was is apart. ((whole shows).apart m n o p was is apart).differ);
}

-- ---- the fronts

-- a snapshot that was taken at a session's front in a place was so in one that goes on by requests by which the session takes no view
pub taken_on : (p q : Place) (more : List Entry) → GoesOn p q more → (n : ℕ) → list_any (takes_view n) more ≡ false → (snapshot : Snapshot)
    → IsTakenOf snapshot (serial_run p.opening (view_front n p.journal)) → IsTakenOf snapshot (serial_run q.opening (view_front n q.journal))
taken_on p q more goes n none snapshot =
    let front : view_front n q.journal ≡ view_front n p.journal = ap (view_front n) goes.journal ∙ view_stays n p.journal more none in
    subst (IsTakenOf snapshot) (λ i. serial_run (sym goes.opening i) (sym front i))

-- no open transaction's snapshot has one that is open
module _ {layout : DiskLayout} {pages : PageMap} {t : TransactionsState} {stored : List Status} (p : Place) (shows : ShowsDatabase layout pages t (database_at p)) (stands : FrontsStand layout pages t stored p) (n : ℕ) (o : Open)
    (was : transaction_of t.opens n ≡ Some o) where
  pub has_none : (u : ℕ) → IsOfOpen t u → IsTrue (had_ended o.snapshot u) → ⊥
  has_none u under had =
      (ended_since p.opening p.journal n u ((has_ended o.snapshot (serial_run p.opening (view_front n p.journal)) (stands.snapshots n o was) u).0 had)).1
      (is_open t (database_at p) (sessions_shown layout pages t (database_at p) shows) u under)
