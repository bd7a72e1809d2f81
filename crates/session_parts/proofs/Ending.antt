-- what a commit and a rollback keep
use Rattle.std.proofs.Common.{◌≡◌, ◌≢◌, inl, inr, ℕ, ◌≤◌, ◌||◌, Bool, true, false, ltb, List, [], ◌∷◌, set, None, Some, refl, sym, ap, subst, ◌∙◌, arith}
use Rattle.std.specs.Prelude.{IsTrue, ◌↔◌}
use Rattle.std.specs.FinMap as map
use Rattle.std.proofs.lemmas.Bool.{cases_eq, false≢true}
use Rattle.block_model.specs.declared.request.Entry.{Entry}
use Rattle.block_model.specs.declared.request.Request.{Request}
use Rattle.block_model.specs.declared.request.Request.TheVariants.{Begin, Commit, Look, Mark, Put, Rollback}
use Rattle.block_model.specs.declared.row.RowId.{RowId}
use Rattle.block_model.specs.DatabaseState.{DatabaseState, OpenTransaction}
use Rattle.block_model.specs.NumberMaps.{none_Some, same_Some}
use Rattle.store_layout.specs.DiskLayout.{DiskLayout}
use Rattle.page_map.specs.PageMap.{PageMap}
use Rattle.snapshot_core.specs.declared.statuses.Status.{Status}
use Rattle.snapshot_core.specs.declared.statuses.Status.TheVariants.{Begun, RolledBack}
use Rattle.snapshot_core.specs.Visibility.{is_committed}
use Rattle.snapshot_core.specs.declared.sessions.Open.{Open}
use Rattle.snapshot_core.specs.SessionChanges.{ended}
use Rattle.snapshot_core.specs.StoredVersions.{transaction_of}
use Rattle.tx_table.specs.Statuses.{HasStatuses}
use Rattle.transactions.specs.GivenStatuses.{given_status}
use Rattle.transactions.specs.Sessions.{HaveTransactions, IsCopyOf}
use Rattle.transactions.specs.ShowsDatabase.{ShowsDatabase}
use Rattle.transactions.specs.TransactionsState.{TransactionsState, with_open}
use Rattle.transactions.proofs.Copies.{sessions_shown}
use Rattle.transactions.proofs.Given.{ended_stays, given_changed, given_other}
use Rattle.transactions.proofs.Shown.{IsOpenOne, one_list_shown, open_one}
use Rattle.script_semantics.specs.DeadRows.{IsCommitted}
use Rattle.script_semantics.specs.Place.{Place, database_at}
use Rattle.script_semantics.specs.Commits.{CommitsAt, CommitsStand}
use Rattle.script_semantics.proofs.Commits.{commits_stand}
use Rattle.script_semantics.proofs.Fronts.{no_view}
use Rattle.session_parts.specs.FrontsStand.{FrontsStand}
use Rattle.session_parts.specs.RowsFollow.{RowsFollow}
use Rattle.session_parts.specs.FrontLaws.{EndStands, GoesOn, IsEnding}
use Rattle.session_parts.proofs.Following.{all_follow, both_follow}
use Rattle.session_parts.proofs.Snapshots.{has_none, taken_on, which}
use Rattle.session_parts.proofs.Statuses.{commits_none, commits_with}
use Rattle.session_parts.proofs.Within.{earlier_still, none_still}

-- ---- which end it is

ended_ends : (failed : Bool) → ended failed ≢ Begun
ended_ends true e = absurd cc
ended_ends false e = absurd cc

ends : (r : Request) (failed : Bool) (end : Status) → IsEnding r failed end → end ≢ Begun
ends Begin failed end is begun = is
ends (Put values) failed end is begun = is
ends (Look query) failed end is begun = is
ends (Mark id) failed end is begun = is
ends Commit failed end is begun = ended_ends failed (sym is ∙ begun)
ends Rollback failed end is begun = let both : RolledBack ≡ Begun = sym is ∙ begun in absurd cc

whole_commits : (failed : Bool) → is_committed (ended failed) ≡ true → failed ≡ false
whole_commits true is = absurd (false≢true is)
whole_commits false is = refl

-- a commit alone commits, of a transaction that hasn't failed
commits_only : (r : Request) (failed : Bool) (end : Status) → IsEnding r failed end → is_committed end ≡ true → (r ≡ Commit) × (failed ≡ false)
commits_only Begin failed end is so = absurd is
commits_only (Put values) failed end is so = absurd is
commits_only (Look query) failed end is so = absurd is
commits_only (Mark id) failed end is so = absurd is
commits_only Commit failed end is so = (refl, whole_commits failed (ap is_committed (sym is) ∙ so))
commits_only Rollback failed end is so = absurd (false≢true (ap is_committed (sym is) ∙ so))

module _ (commits : CommitsStand) (layout : DiskLayout) (old new : PageMap) (t : TransactionsState) (stored : List Status) (p q : Place) (n : ℕ) (o : Open) (e : Entry) (end : Status)
    (shows : ShowsDatabase layout old t (database_at p)) (has : HasStatuses layout old stored) (stands : FrontsStand layout old t stored p) (was : transaction_of t.opens n ≡ Some o) (session : e.session ≡ n) (ending : IsEnding e.request o.failed end)
    (goes : GoesOn p q (e ∷ [])) (follow : RowsFollow layout old new t) where
  abbrev later : List Status
  later = set stored o.t end

  its : IsOpenOne t stored o
  its = subst (λ (l : List Status). IsOpenOne t l o) (sym (one_list_shown shows stored has)) (open_one shows n o was)

  -- its status then
  now_ended : given_status t.tx.first later o.t ≡ end
  now_ended = given_changed t.tx.first stored o.t end its.some its.within ∙ ended_stays (ltb o.t t.tx.first) end (ends e.request o.failed end ending)

  abbrev have : HaveTransactions t (database_at p)
  have = sessions_shown layout old t (database_at p) shows

  abbrev copy : (x : OpenTransaction) × (map.get (database_at p).sessions n ≡ Some x) × IsCopyOf o x
  copy = have.shown n o was

  -- ---- commits

  its_copy : (u : ℕ) (at : CommitsAt (database_at p) e u) → at.transaction ≡ copy.0
  its_copy u at = same_Some at.transaction copy.0 (sym at.under_way ∙ ap (map.get (database_at p).sessions) session ∙ copy.1)

  commits_own : (u : ℕ) → CommitsAt (database_at p) e u → (u ≡ o.t) × (is_committed end ≡ true)
  commits_own u at =
      let is = its_copy u at in
      let failed : o.failed ≡ false = sym copy.2.failed ∙ ap (λ (x : OpenTransaction). x.failed) (sym is) ∙ at.sound in
      let commit : end ≡ ended o.failed = subst (λ (r : Request). IsEnding r o.failed end) at.commits ending in
      (sym at.number ∙ ap (λ (x : OpenTransaction). x.t) is ∙ copy.2.t, ap is_committed (commit ∙ ap ended failed))

  commits_now : is_committed end ≡ true → CommitsAt (database_at p) e o.t
  commits_now so =
      let commit = commits_only e.request o.failed end ending so in
      record { commits = commit.0; transaction = copy.0; under_way = ap (map.get (database_at p).sessions) session ∙ copy.1; number = copy.2.t; sound = copy.2.failed ∙ commit.1 }

  not_before : IsCommitted p o.t → ⊥
  not_before c = (commits.since p stands.none_open o.t c).1.1 (n, copy.0, copy.1, copy.2.t)

  commits_here : IsTrue (is_committed (given_status t.tx.first later o.t)) ↔ IsCommitted q o.t
  commits_here =
      let joined = commits_with commits p q e goes o.t in (
        λ c. joined.1 (inr (commits_now (ap is_committed (sym now_ended) ∙ c))),
        λ c. elim (joined.0 c) [ inl before ↦ absurd (not_before before) | inr at ↦ ap is_committed now_ended ∙ (commits_own o.t at).1 ],
      )

  commits_still : (u : ℕ) → p.opening.next ≤ u → IsTrue (is_committed (given_status t.tx.first later u)) ↔ IsCommitted q u
  commits_still u low = elim (cases_eq u o.t) [
    | inl same ↦ subst (λ k. IsTrue (is_committed (given_status t.tx.first later k)) ↔ IsCommitted q k) (sym same) commits_here
    | inr apart ↦
        let both = commits_none commits p q e goes u (λ at. apart (commits_own u at).0) in
        let was_so = stands.commits u low in
        let is = ap is_committed (given_other t.tx.first stored o.t u end apart) in
        (λ c. both.0 (was_so.0 (sym is ∙ c)), λ c. is ∙ was_so.1 (both.1 c))
  ]

  -- ---- the others

  others : (m : ℕ) (x : Open) → transaction_of (with_open t n None).opens m ≡ Some x → transaction_of t.opens m ≡ Some x
  others m x is = elim (which t.opens n m None x is) [ inl own ↦ absurd (none_Some x own.1) | inr other ↦ other.1 ]

  opening_still : (id : RowId) → map.contains_key p.opening.table id ≡ true → IsTrue (is_committed (given_status t.tx.first later id.t))
  opening_still id there =
      let low = stands.earlier id there in
      let first = stands.first in
      let above = its.own.opened in
      ap is_committed (given_other t.tx.first stored o.t id.t end (λ same. omega (arith, low, first, above, same))) ∙ stands.opening id there

  pub ended_stands : FrontsStand layout new (with_open t n None) later q
  ended_stands = record {
    none_open = none_still p q (e ∷ []) goes stands.none_open;
    earlier = earlier_still p q (e ∷ []) goes stands.earlier;
    first = ap (λ (d : DatabaseState). d.next) goes.opening ∙ stands.first;
    commits = λ u low. commits_still u (subst (λ (d : DatabaseState). d.next ≤ u) goes.opening low);
    snapshots = λ m x is.
        taken_on p q (e ∷ []) goes m (ap (λ b. b || false) (no_view m e (λ begins. subst (λ (r : Request). IsEnding r o.failed end) begins ending))) x.snapshot (stands.snapshots m x (others m x is));
    opening = λ id there. opening_still id (ap (λ (d : DatabaseState). map.contains_key d.table id) (sym goes.opening) ∙ there);
    deleters = all_follow layout new (with_open t n None) (λ m x is.
        let there = others m x is in
        both_follow layout old new t x.snapshot follow (λ table spot row below at some had. stands.deleters table spot row below at some m x there had) (λ u under had. has_none p shows stands m x there u under had));
  }

pub end_stands : EndStands
end_stands layout old new t stored p q n o e end shows has stands was session ending goes follow =
    ended_stands commits_stand layout old new t stored p q n o e end shows has stands was session ending goes follow
