-- What a stop in the midst of a commit leaves.
use Rattle.std.proofs.Common.{◌≡◌, ℕ, zero, suc, ◌≤◌, Bool, true, false, List, [], ◌∷◌, set, take, None, Some, ◌⊎◌, inl, inr, refl, subst, if◌then◌else◌}
use Rattle.block_model.specs.declared.request.Request.TheVariants as requests
use Rattle.block_model.specs.DatabaseState.{DatabaseState}
use Rattle.block_model.specs.RequestEffect as model
use Rattle.store_layout.specs.StatementRequests.{request_entry}
use Rattle.store_layout.specs.DiskLayout.{DiskLayout}
use Rattle.page_map.specs.PageMap.{PageMap}
use Rattle.snapshot_core.specs.declared.statuses.Status.TheVariants.{Committed}
use Rattle.snapshot_core.specs.declared.sessions.Open.{Open}
use Rattle.snapshot_core.specs.StoredVersions.{transaction_of}
use Rattle.tx_table.specs.Durable.{HasPart}
use Rattle.tx_table.specs.LeavesRest.{AreStarted}
use Rattle.tx_table.specs.Statuses.{HasStatuses, number_limit, with_all}
use Rattle.transactions.specs.Sessions.{committed_by}
use Rattle.transactions.specs.ShowsDatabase.{DoesRequest, ShowsDatabase}
use Rattle.transactions.specs.TransactionsState.{TransactionsState, with_open}
use Rattle.transactions.proofs.Calls.{OnlyStatuses, committed_shown, moved}
use Rattle.transactions.proofs.Shown.{whole}

-- pages with the same statuses and other relations
still_shown : (layout : DiskLayout) (old new : PageMap) (t : TransactionsState) (s : DatabaseState) (shows : ShowsDatabase layout old t s) → OnlyStatuses old new → HasStatuses layout new shows.stored → AreStarted layout new → ShowsDatabase layout new t s
still_shown layout old new t s shows rest has started =
    subst (ShowsDatabase layout new t) shows.database (moved layout old new t t s shows rest shows.stored has shows.next started shows.versions.places (whole shows) shows.used)

-- nothing is behind the end
none_behind : (n : ℕ) → take {A = ℕ} n [] ≡ []
none_behind zero = refl
none_behind (suc n) = refl

module _ (layout : DiskLayout) (old new : PageMap) (t : TransactionsState) (s : DatabaseState) (session : ℕ) (o : Open) (shows : ShowsDatabase layout old t s) (was : transaction_of t.opens session ≡ Some o) (within : t.tx.next ≤ number_limit layout) where
  -- not done, or done whole
  abbrev Whole : Type 0
  Whole = ShowsDatabase layout new t s ⊎ ((o.failed ≡ false) × DoesRequest layout new (with_open t session None) s (request_entry session 0 requests.Commit) model.Committed)

  of_failed : HasPart layout old [] Committed new → AreStarted layout new → Whole
  of_failed part started =
      let some = part.statuses shows.stored shows.has in
      inl (still_shown layout old new t s shows part.others (subst (λ (l : List ℕ). HasStatuses layout new (with_all shows.stored l Committed)) (none_behind some.0) some.1) started)

  of_unfailed : o.failed ≡ false → HasPart layout old (o.t ∷ []) Committed new → AreStarted layout new → Whole
  of_unfailed unfailed part started =
      let some = part.statuses shows.stored shows.has in
      go some.0 some.1
    where
      all_of : (n : ℕ) → HasStatuses layout new (with_all shows.stored (take (suc n) (o.t ∷ [])) Committed) → HasStatuses layout new (set shows.stored o.t Committed)
      all_of n has = subst (λ (l : List ℕ). HasStatuses layout new (with_all shows.stored (o.t ∷ l) Committed)) (none_behind n) has

      go : (n : ℕ) → HasStatuses layout new (with_all shows.stored (take n (o.t ∷ [])) Committed) → Whole
      go zero has = inl (still_shown layout old new t s shows part.others has started)
      go (suc n) has = inr (unfailed, committed_shown layout old new t s session o shows part.others (all_of n has) started within was unfailed)

  by_failure : (failed : Bool) → o.failed ≡ failed → HasPart layout old (committed_by o) Committed new → AreStarted layout new → Whole
  by_failure true is part started = of_failed (subst (λ (b : Bool). HasPart layout old (if b then [] else o.t ∷ []) Committed new) is part) started
  by_failure false is part started = of_unfailed is (subst (λ (b : Bool). HasPart layout old (if b then [] else o.t ∷ []) Committed new) is part) started

  pub part_shown : HasPart layout old (committed_by o) Committed new → Whole
  part_shown part = by_failure o.failed refl part (λ block below. part.started block (shows.started block below))
