-- what a begin keeps
use Rattle.std.proofs.Common.{◌≡◌, ◌≢◌, inl, inr, ℕ, ◌<◌, ◌≤◌, ◌||◌, Bool, true, false, ltb, List, [], ◌∷◌, length, set, None, Some, refl, sym, ap, subst, ◌∙◌, arith}
use Rattle.std.specs.Prelude.{IsTrue, ◌↔◌}
use Rattle.std.specs.FinMap as map
use Rattle.std.proofs.lemmas.Bool.{cases_eq, cases_lt, false≢true}
use Rattle.std.proofs.lemmas.List.{get_or_past, length-set}
use Rattle.block_model.specs.declared.request.Entry.{Entry}
use Rattle.block_model.specs.declared.request.Request.TheVariants as requests
use Rattle.block_model.specs.declared.row.RowId.{RowId}
use Rattle.block_model.specs.DatabaseState.{DatabaseState}
use Rattle.block_model.specs.SerialRun.{serial_run}
use Rattle.store_layout.specs.DiskLayout.{DiskLayout}
use Rattle.page_map.specs.PageMap.{PageMap}
use Rattle.snapshot_core.specs.declared.statuses.Status.{Status}
use Rattle.snapshot_core.specs.declared.statuses.Status.TheVariants.{Begun, Unused}
use Rattle.snapshot_core.specs.Visibility.{had_ended, is_committed}
use Rattle.snapshot_core.specs.declared.sessions.Open.{Open}
use Rattle.snapshot_core.specs.StoredVersions.{transaction_of}
use Rattle.transactions.specs.ShownVersions.{version_of}
use Rattle.tx_table.specs.Statuses.{after_stop}
use Rattle.transactions.specs.GivenStatuses.{given_status}
use Rattle.transactions.specs.Sessions.{HaveTransactions}
use Rattle.transactions.specs.ShowsDatabase.{ShowsDatabase}
use Rattle.transactions.specs.TransactionsState.{TransactionsState, next_open, with_begun}
use Rattle.transactions.proofs.Copies.{row_is_of, sessions_shown}
use Rattle.transactions.proofs.Given.{given_changed, given_other, given_unused, status_given}
use Rattle.transactions.proofs.Marks.{row_stored}
use Rattle.transactions.proofs.Shown.{open_one, whole}
use Rattle.script_semantics.specs.DeadRows.{IsCommitted}
use Rattle.script_semantics.specs.Place.{Place, database_at}
use Rattle.script_semantics.specs.Views.{takes_view, view_front}
use Rattle.script_semantics.specs.Commits.{CommitsAt, CommitsStand}
use Rattle.script_semantics.specs.Numbers.{NumbersRise}
use Rattle.script_semantics.proofs.Commits.{commits_stand}
use Rattle.script_semantics.proofs.Fronts.{begin_takes, others_take_none, view_here}
use Rattle.script_semantics.proofs.Numbers.{numbers_rise}
use Rattle.session_parts.specs.FrontsStand.{FrontsStand, IsTakenOf}
use Rattle.session_parts.specs.RowsFollow.{IsOfOpen, RowsFollow}
use Rattle.session_parts.specs.FrontLaws.{BeginStands, GoesOn, IsRequestOf}
use Rattle.session_parts.proofs.Following.{HasBoth, all_follow, both_follow}
use Rattle.session_parts.proofs.Snapshots.{has_ended, has_none, is_of_open, is_open, new_is_taken, taken_on, which}
use Rattle.session_parts.proofs.Statuses.{commits_none}
use Rattle.session_parts.proofs.Within.{earlier_still, none_still}

-- ---- its status

begun_uncommitted : (earlier : Bool) → is_committed (after_stop earlier Begun) ≡ false
begun_uncommitted true = refl
begun_uncommitted false = refl

-- one that has begun hasn't committed
pub newly_uncommitted : (first : ℕ) (stored : List Status) (u : ℕ) → u ≢ 0 → is_committed (given_status first (set stored u Begun) u) ≡ false
newly_uncommitted first stored u some = elim (cases_lt u (length stored)) [
  | inl low ↦ ap is_committed (given_changed first stored u Begun some low) ∙ begun_uncommitted (ltb u first)
  | inr past ↦ ap is_committed (given_unused first (set stored u Begun) u (get_or_past (set stored u Begun) u Unused (let long = length-set stored u Begun in omega (arith, past, long))))
]

-- ---- what it keeps

module _ (commits : CommitsStand) (numbers : NumbersRise) (layout : DiskLayout) (old new : PageMap) (t : TransactionsState) (stored : List Status) (p q : Place) (n : ℕ) (e : Entry)
    (shows : ShowsDatabase layout old t (database_at p)) (stands : FrontsStand layout old t stored p) (idle : transaction_of t.opens n ≡ None) (begins : IsRequestOf n requests.Begin e) (goes : GoesOn p q (e ∷ [])) (follow : RowsFollow layout old new t) where
  abbrev have : HaveTransactions t (database_at p)
  have = sessions_shown layout old t (database_at p) shows

  abbrev later : List Status
  later = set stored t.tx.next Begun

  opened : p.opening.next ≤ t.tx.next
  opened = let low : p.opening.next ≤ (database_at p).next = numbers.next p.opening p.journal in let next = have.next in omega (arith, low, next)

  -- ---- commits

  none_commits : (u : ℕ) → CommitsAt (database_at p) e u → ⊥
  none_commits u at = let both : requests.Begin ≡ requests.Commit = sym begins.asks ∙ at.commits in absurd cc

  not_yet : IsCommitted p t.tx.next → ⊥
  not_yet c =
      let ended = (commits.since p stands.none_open t.tx.next c).1 in
      let low : t.tx.next < (database_at p).next = ended.0 in
      let next = have.next in
      absurd (omega (arith, low, next))

  commits_still : (u : ℕ) → p.opening.next ≤ u → IsTrue (is_committed (given_status t.tx.first later u)) ↔ IsCommitted q u
  commits_still u low =
      let both = commits_none commits p q e goes u (none_commits u) in
      let was = stands.commits u low in
      elim (cases_eq u t.tx.next) [
        | inl same ↦ (
          λ c. absurd (false≢true (sym (ap (λ k. is_committed (given_status t.tx.first later k)) same ∙ newly_uncommitted t.tx.first stored t.tx.next (let some = shows.next.some in λ none. omega (arith, some, none))) ∙ c)),
          λ c. absurd (not_yet (subst (IsCommitted p) same (both.1 c))),
        )
        | inr apart ↦
            let is = ap is_committed (given_other t.tx.first stored t.tx.next u Begun apart) in
            (λ c. both.0 (was.0 (sym is ∙ c)), λ c. is ∙ was.1 (both.1 c))
      ]

  -- ---- snapshots

  new_taken : IsTakenOf (next_open t).snapshot (database_at p)
  new_taken = new_is_taken t (database_at p) shows have

  -- it has none that is open
  new_has_none : (u : ℕ) → IsOfOpen t u → IsTrue (had_ended (next_open t).snapshot u) → ⊥
  new_has_none u under had = ((has_ended (next_open t).snapshot (database_at p) new_taken u).0 had).1 (is_open t (database_at p) have u under)

  new_front : view_front n q.journal ≡ p.journal
  new_front = ap (view_front n) goes.journal ∙ view_here n p.journal e (subst (λ k. takes_view k e ≡ true) begins.session (begin_takes e begins.asks))

  snapshots_still : (m : ℕ) (o : Open) → transaction_of (with_begun t n).opens m ≡ Some o → IsTakenOf o.snapshot (serial_run q.opening (view_front m q.journal))
  snapshots_still m o is = elim (which t.opens n m (Some (next_open t)) o is) [
    | inl own ↦
        let same : next_open t ≡ o = (let both = own.1 in cc) in
        subst (λ k. IsTakenOf o.snapshot (serial_run q.opening (view_front k q.journal))) (sym own.0)
        (subst (λ (o : Open). IsTakenOf o.snapshot (serial_run q.opening (view_front n q.journal))) same (subst (IsTakenOf (next_open t).snapshot) (λ i. serial_run (sym goes.opening i) (sym new_front i)) new_taken))
    | inr other ↦ taken_on p q (e ∷ []) goes m (ap (λ b. b || false) (others_take_none m e (λ same. other.0 (same ∙ begins.session)))) o.snapshot (stands.snapshots m o other.1)
  ]

  -- ---- deleters

  -- who put a row that one of them deleted had ended
  new_has_both : HasBoth layout old (next_open t).snapshot
  new_has_both table spot row below there some had =
      let known = (whole shows).known row.id (version_of table row) (row_stored shows table spot row below there) in
      let put = (row_is_of layout old t (database_at p) shows.stored table spot row shows shows.has below there).put in
      let next = have.next in
      (has_ended (next_open t).snapshot (database_at p) new_taken row.id.t).1 (
        omega (arith, put, next),
        λ under_way.
            let under = is_of_open t (database_at p) have row.id.t under_way in
            let begun = (open_one shows under.0 under.1 under.2).given in
            let own : row.deleter ≡ row.id.t = known.own (status_given t.tx shows.stored row.id.t shows.next ∙ ap (given_status t.tx.first shows.stored) under.3 ∙ begun) some in
            new_has_none row.deleter (subst (IsOfOpen t) (sym own) under) had,
      )

  both_still : (m : ℕ) (o : Open) → transaction_of (with_begun t n).opens m ≡ Some o → HasBoth layout new o.snapshot
  both_still m o is = elim (which t.opens n m (Some (next_open t)) o is) [
    | inl own ↦
        let same : next_open t ≡ o = (let both = own.1 in cc) in
        subst (λ (o : Open). HasBoth layout new o.snapshot) same (both_follow layout old new t (next_open t).snapshot follow new_has_both new_has_none)
    | inr other ↦ both_follow layout old new t o.snapshot follow (λ table spot row below there some had. stands.deleters table spot row below there some m o other.1 had) (λ u under had. has_none p shows stands m o other.1 u under had)
  ]

  opening_still : (id : RowId) → map.contains_key p.opening.table id ≡ true → IsTrue (is_committed (given_status t.tx.first later id.t))
  opening_still id there =
      let low = stands.earlier id there in
      let above = opened in
      ap is_committed (given_other t.tx.first stored t.tx.next id.t Begun (λ same. omega (arith, low, above, same))) ∙ stands.opening id there

  pub begun_stands : FrontsStand layout new (with_begun t n) later q
  begun_stands = record {
    none_open = none_still p q (e ∷ []) goes stands.none_open;
    earlier = earlier_still p q (e ∷ []) goes stands.earlier;
    first = ap (λ (d : DatabaseState). d.next) goes.opening ∙ stands.first;
    commits = λ u low. commits_still u (subst (λ (d : DatabaseState). d.next ≤ u) goes.opening low);
    snapshots = snapshots_still;
    opening = λ id there. opening_still id (ap (λ (d : DatabaseState). map.contains_key d.table id) (sym goes.opening) ∙ there);
    deleters = all_follow layout new (with_begun t n) both_still;
  }

pub begin_stands : BeginStands
begin_stands layout old new t stored p q n e shows has stands idle begins goes follow =
    begun_stands commits_stand numbers_rise layout old new t stored p q n e shows stands idle begins goes follow
