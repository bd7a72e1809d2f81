-- what a start begins with
use Rattle.std.proofs.Common.{◌≡◌, ℕ, zero, suc, ◌<◌, ◌≤◌, true, false, not, List, [], ◌∷◌, ◌++◌, replicate, Option, None, Some, refl, sym, ap, subst, ◌∙◌, arith}
use Rattle.std.specs.Prelude.{IsTrue}
use Rattle.std.specs.FinMap as map
use Rattle.std.proofs.lemmas.Bool.{and_parts, false≢true}
use Rattle.block_model.specs.declared.request.Entry.{Entry}
use Rattle.block_model.specs.declared.row.RowId.{RowId}
use Rattle.block_model.specs.DatabaseState.{DatabaseState}
use Rattle.block_model.specs.NumberMaps.{none_Some}
use Rattle.store_layout.specs.DiskLayout.{DiskLayout}
use Rattle.page_map.specs.PageMap.{PageMap}
use Rattle.store_layout.specs.declared.limits.TheConstants.{MAX_SESSIONS}
use Rattle.snapshot_core.specs.declared.statuses.Status.{Status}
use Rattle.snapshot_core.specs.Visibility.{is_committed}
use Rattle.snapshot_core.specs.declared.sessions.Open.{Open}
use Rattle.snapshot_core.specs.StoredVersions.{transaction_of}
use Rattle.snapshot_core.specs.VisibleState.{status_of}
use Rattle.snapshot_core.proofs.Stored.{stored_id}
use Rattle.transactions.specs.GivenStatuses.{given_status, given_statuses}
use Rattle.transactions.specs.Laws.{IsOpened}
use Rattle.transactions.specs.Sessions.{HaveTransactions}
use Rattle.transactions.specs.ShowsDatabase.{ShowsDatabase}
use Rattle.transactions.specs.TransactionsState.{TransactionsState}
use Rattle.transactions.proofs.Copies.{sessions_shown}
use Rattle.transactions.proofs.Given.{given_unused, length_given, status_given}
use Rattle.transactions.proofs.Shown.{one_list_shown, versions_on_pages, whole}
use Rattle.script_semantics.specs.Place.{Place}
use Rattle.session_parts.specs.FrontsStand.{FrontsStand}
use Rattle.session_parts.specs.FrontLaws.{StartStands}
use Rattle.session_parts.proofs.Rows.{row_is_version}

nobody_at : (n m : ℕ) → transaction_of (replicate n None) m ≡ None
nobody_at zero m = refl
nobody_at (suc n) zero = refl
nobody_at (suc n) (suc m) = nobody_at n m

-- an empty journal has no entry
none_there : (l r : List Entry) (e : Entry) → l ++ e ∷ r ≡ [] → ⊥
none_there [] r e is = cc
none_there (x ∷ l) r e is = cc

module _ (layout : DiskLayout) (pages : PageMap) (t : TransactionsState) (p : Place) (shows : ShowsDatabase layout pages t p.opening) (opened : IsOpened t) (empty : p.journal ≡ []) where
  abbrev opening : DatabaseState
  opening = p.opening

  abbrev have : HaveTransactions t opening
  have = sessions_shown layout pages t opening shows

  nobody : (n : ℕ) → transaction_of t.opens n ≡ None
  nobody n = ap (λ (os : List (Option Open)). transaction_of os n) opened.opens ∙ nobody_at MAX_SESSIONS n

  nobody_has : (n : ℕ) (o : Open) → transaction_of t.opens n ≡ Some o → ⊥
  nobody_has n o was = none_Some o (sym (nobody n) ∙ was)

  -- each row of the table is of a committed transaction with a number
  row_committed : (id : RowId) → map.contains_key opening.table id ≡ true → (id.t < opening.next) × IsTrue (is_committed (given_status t.tx.first shows.stored id.t))
  row_committed id there =
      let v = row_is_version shows id there in
      let same = ap (λ (i : RowId). i.t) (stored_id (versions_on_pages layout pages) id v.0 v.1) in
      let low = ((whole shows).known id v.0 v.1).put in
      let long = length_given t.tx shows.stored in
      let next = have.next in
      let put = (and_parts (is_committed (status_of (given_statuses t.tx shows.stored) v.0.row.id.t)) (not (is_committed (status_of (given_statuses t.tx shows.stored) v.0.deleter))) v.2).0 in (
        omega (arith, same, low, long, next),
        ap is_committed (ap (given_status t.tx.first shows.stored) (sym same) ∙ sym (status_given t.tx shows.stored v.0.row.id.t shows.next)) ∙ put,
      )

  unused : (u : ℕ) → opening.next ≤ u → is_committed (given_status t.tx.first shows.stored u) ≡ false
  unused u low = ap is_committed (given_unused t.tx.first shows.stored u (shows.next.unused u (let next = have.next in omega (arith, low, next))))

  pub opened_stands : FrontsStand layout pages t shows.stored p
  opened_stands = record {
    none_open = λ n. have.none n (nobody n);
    earlier = λ id there. (row_committed id there).0;
    first = have.next ∙ sym opened.first;
    commits = λ u low. (λ c. absurd (false≢true (sym (unused u low) ∙ c)), λ c. absurd (none_there c.before c.behind c.entry (c.split ∙ empty)));
    snapshots = λ n o was. absurd (nobody_has n o was);
    opening = λ id there. (row_committed id there).1;
    deleters = λ table spot row below there some n o was. absurd (nobody_has n o was);
  }

pub start_stands : StartStands
start_stands layout pages t stored p shows has opened empty =
    subst (λ (l : List Status). FrontsStand layout pages t l p) (sym (one_list_shown shows stored has)) (opened_stands layout pages t p shows opened empty)
