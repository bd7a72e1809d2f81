-- what a step within a transaction keeps
use Rattle.std.proofs.Common.{◌≡◌, inl, inr, ℕ, ◌+◌, ◌≤◌, false, List, All, Some, refl, sym, ap, subst, ◌∙◌}
use Rattle.std.specs.Prelude.{IsTrue}
use Rattle.std.specs.List.{list_any}
use Rattle.std.specs.FinMap as map
use Rattle.std.proofs.lemmas.List.Elements.{All-weaker}
use Rattle.std.proofs.lemmas.List.Folds.{list_any_none}
use Rattle.block_model.specs.declared.request.Entry.{Entry}
use Rattle.block_model.specs.DatabaseState.{DatabaseState}
use Rattle.block_model.specs.SerialRun.{serial_run}
use Rattle.store_layout.specs.DiskLayout.{DiskLayout}
use Rattle.page_map.specs.PageMap.{PageMap}
use Rattle.snapshot_core.specs.declared.snapshots.Snapshot.{Snapshot}
use Rattle.snapshot_core.specs.declared.statuses.Status.{Status}
use Rattle.snapshot_core.specs.Visibility.{had_ended, is_committed}
use Rattle.snapshot_core.specs.declared.sessions.Open.{Open}
use Rattle.snapshot_core.specs.SessionChanges.{failed_open, with_next_k}
use Rattle.snapshot_core.specs.StoredVersions.{transaction_of}
use Rattle.tx_table.proofs.Pages.{statuses_one}
use Rattle.transactions.specs.GivenStatuses.{given_status}
use Rattle.transactions.specs.ShowsDatabase.{ShowsDatabase}
use Rattle.transactions.specs.TransactionsState.{TransactionsState, with_open}
use Rattle.script_semantics.specs.Place.{Place, database_at}
use Rattle.script_semantics.specs.Views.{takes_view, view_front}
use Rattle.script_semantics.specs.Commits.{CommitsStand}
use Rattle.script_semantics.specs.Openings.{NoneOpen, RowsAreEarlier}
use Rattle.script_semantics.proofs.Commits.{commits_stand}
use Rattle.script_semantics.proofs.Fronts.{no_view}
use Rattle.session_parts.specs.FrontsStand.{FrontsStand, IsTakenOf}
use Rattle.session_parts.specs.RowsFollow.{RowsFollow}
use Rattle.session_parts.specs.FrontLaws.{AnyPlaceStands, AnyStatusesStand, GoesOn, IsWithin, OpensStay, OwnStepsKeepOpens, StepWithinStands}
use Rattle.session_parts.proofs.Following.{HasBoth, all_follow, both_follow}
use Rattle.session_parts.proofs.Snapshots.{has_none, taken_on, which}
use Rattle.session_parts.proofs.Statuses.{commits_within, same_commits}

pub any_statuses_stand : AnyStatusesStand
any_statuses_stand layout pages t stored other p has has_other stands = subst (λ (l : List Status). FrontsStand layout pages t l p) (statuses_one layout pages stored other has has_other) stands

-- what is known of a place by its opening and its journal
module _ (layout : DiskLayout) (pages : PageMap) (t : TransactionsState) (stored : List Status) (p q : Place) (opening : q.opening ≡ p.opening) (journal : q.journal ≡ p.journal) (stands : FrontsStand layout pages t stored p) where
  pub place_stands : FrontsStand layout pages t stored q
  place_stands = record {
    none_open = subst NoneOpen (sym opening) stands.none_open;
    earlier = subst RowsAreEarlier (sym opening) stands.earlier;
    first = ap (λ (d : DatabaseState). d.next) opening ∙ stands.first;
    commits = λ u low.
        let was = stands.commits u (subst (λ (d : DatabaseState). d.next ≤ u) opening low) in
        (λ c. same_commits p q u opening journal (was.0 c), λ c. was.1 (same_commits q p u (sym opening) (sym journal) c));
    snapshots = λ n o was. subst (IsTakenOf o.snapshot) (λ i. serial_run (sym opening i) (view_front n (sym journal i))) (stands.snapshots n o was);
    opening = λ id there. stands.opening id (ap (λ (d : DatabaseState). map.contains_key d.table id) (sym opening) ∙ there);
    deleters = stands.deleters;
  }

pub any_place_stands : AnyPlaceStands
any_place_stands layout pages t stored p q opening journal stands = place_stands layout pages t stored p q opening journal stands

-- the opening of a place that goes on
pub none_still : (p q : Place) (more : List Entry) → GoesOn p q more → NoneOpen p.opening → NoneOpen q.opening
none_still p q more goes = subst NoneOpen (sym goes.opening)

pub earlier_still : (p q : Place) (more : List Entry) → GoesOn p q more → RowsAreEarlier p.opening → RowsAreEarlier q.opening
earlier_still p q more goes = subst RowsAreEarlier (sym goes.opening)

-- by requests within transactions no session takes a view
within_takes_none : (n : ℕ) (more : List Entry) → All (λ (e : Entry). IsWithin e.request) more → list_any (takes_view n) more ≡ false
within_takes_none n more within = list_any_none (takes_view n) more (All-weaker (λ (e : Entry). IsWithin e.request) (λ e. takes_view n e ≡ false) (λ e is. no_view n e (λ begins. subst IsWithin begins is)) more within)

module _ (commits : CommitsStand) (layout : DiskLayout) (old new : PageMap) (t now : TransactionsState) (stored : List Status) (p q : Place) (more : List Entry) (shows : ShowsDatabase layout old t (database_at p))
    (stands : FrontsStand layout old t stored p) (goes : GoesOn p q more) (within : All (λ (e : Entry). IsWithin e.request) more) (first : now.tx.first ≡ t.tx.first) (stay : OpensStay t now) (follow : RowsFollow layout old new t) where
  pub within_stands : FrontsStand layout new now stored q
  within_stands = record {
    none_open = none_still p q more goes stands.none_open;
    earlier = earlier_still p q more goes stands.earlier;
    first = ap (λ (d : DatabaseState). d.next) goes.opening ∙ stands.first ∙ sym first;
    commits = λ u low.
        let was = stands.commits u (subst (λ (d : DatabaseState). d.next ≤ u) goes.opening low) in
        let both = commits_within commits p q more goes within u in
        (λ c. both.0 (was.0 (subst (λ k. IsTrue (is_committed (given_status k stored u))) first c)), λ c. subst (λ k. IsTrue (is_committed (given_status k stored u))) (sym first) (was.1 (both.1 c)));
    snapshots = λ n o is.
        let was = stay n o is in
        taken_on p q more goes n (within_takes_none n more within) o.snapshot (subst (λ (s : Snapshot). IsTakenOf s (serial_run p.opening (view_front n p.journal))) (sym was.3) (stands.snapshots n was.0 was.1));
    opening = λ id there. subst (λ k. IsTrue (is_committed (given_status k stored id.t))) (sym first) (stands.opening id (ap (λ (d : DatabaseState). map.contains_key d.table id) (sym goes.opening) ∙ there));
    deleters = all_follow layout new now (λ n o is.
        let was = stay n o is in
        both_follow layout old new t o.snapshot follow
        (subst (λ (s : Snapshot). HasBoth layout old s) (sym was.3) (λ table spot row below there some had. stands.deleters table spot row below there some n was.0 was.1 had))
        (λ u under had. has_none p shows stands n was.0 was.1 u under (subst (λ (s : Snapshot). IsTrue (had_ended s u)) was.3 had)));
  }

pub step_within_stands : StepWithinStands
step_within_stands layout old new t now stored p q more shows stands goes within first stay follow =
    within_stands commits_stand layout old new t now stored p q more shows stands goes within first stay follow

-- ---- which steps keep what is open

-- a session's transaction becomes one with its number and snapshot
rewritten : (t : TransactionsState) (n : ℕ) (o x : Open) → transaction_of t.opens n ≡ Some o → x.t ≡ o.t → x.snapshot ≡ o.snapshot → OpensStay t (with_open t n (Some x))
rewritten t n o x was number snapshot m y is = elim (which t.opens n m (Some x) y is) [
  | inl own ↦
      let same : x ≡ y = (let both = own.1 in cc) in
      (o, ap (transaction_of t.opens) own.0 ∙ was, ap (λ (x : Open). x.t) (sym same) ∙ number, ap (λ (x : Open). x.snapshot) (sym same) ∙ snapshot)
  | inr other ↦ (y, other.1, refl, refl)
]

pub own_steps_keep_opens : OwnStepsKeepOpens
own_steps_keep_opens t n o was = record {
  same = λ m y is. (y, is, refl, refl);
  counted = rewritten t n o (with_next_k o (o.next_k + 1)) was refl refl;
  failed = rewritten t n o (failed_open o) was refl refl;
}
