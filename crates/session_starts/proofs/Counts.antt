-- Whose rows count on the pages that a stop leaves, once they are opened.
use Rattle.std.proofs.Common.{◌≡◌, ◌≢◌, ◌⊎◌, inl, inr, ℕ, zero, suc, Bool, true, false, cond, ◌||◌, eqb, ltb, List, [], ◌∷◌, set, take, None, Some, refl, sym, ap, subst, ◌∙◌}
use Rattle.std.specs.List.{list_any}
use Rattle.std.specs.Prelude.{IsTrue}
use Rattle.std.proofs.lemmas.Bool.{false≢true}
use Rattle.std.proofs.lemmas.List.{get_or-set_other}
use Rattle.block_model.specs.DatabaseState.{DatabaseState}
use Rattle.store_layout.specs.DiskLayout.{DiskLayout}
use Rattle.page_map.specs.PageMap.{PageMap}
use Rattle.snapshot_core.specs.declared.statuses.Status.{Status}
use Rattle.snapshot_core.specs.declared.statuses.Status.TheVariants.{Begun, Committed, Unused}
use Rattle.snapshot_core.specs.Visibility.{is_committed}
use Rattle.snapshot_core.specs.declared.sessions.Open.{Open}
use Rattle.snapshot_core.specs.SessionChanges.{ended}
use Rattle.snapshot_core.specs.StoredVersions.{transaction_of}
use Rattle.tx_table.specs.Statuses.{after_stop, status_of, with_all}
use Rattle.transactions.specs.CountedRows.{counts, goes_on}
use Rattle.transactions.specs.GivenStatuses.{given_status}
use Rattle.transactions.specs.Laws.{CommitCounts, OthersAreApart}
use Rattle.transactions.specs.ShowsDatabase.{ShowsDatabase}
use Rattle.transactions.specs.TransactionsState.{TransactionsState, with_open}
use Rattle.transactions.proofs.Openings.{committed_after, committed_given}
use Rattle.transactions.proofs.Shown.{open_one}
use Rattle.store_image.proofs.Counted.{counts_opened}
use Rattle.session_starts.specs.StoreImage.{opened_at}

or_first : (a b : Bool) → IsTrue a → IsTrue (a || b)
or_first true b is = refl
or_first false b is = absurd (false≢true is)

-- whoever counts once the pages are opened counts with the same statuses whatever is open
pub counted_before : (t : TransactionsState) (next : ℕ) (ss : List Status) (u : ℕ) → IsTrue (counts (opened_at next) ss u) → IsTrue (counts t ss u)
counted_before t next ss u counted =
    or_first (is_committed (given_status t.tx.first ss u)) (list_any (goes_on u) t.opens) (committed_given t.tx.first next ss u ∙ sym (counts_opened next ss u) ∙ counted)

-- one that was under way doesn't count then
pub begun_is_void : (next : ℕ) (ss : List Status) (u : ℕ) → status_of ss u ≡ Begun → counts (opened_at next) ss u ≡ false
begun_is_void next ss u begun = counts_opened next ss u ∙ go (eqb u 0)
  where
    go : (b : Bool) → is_committed (cond b Unused (after_stop (ltb u next) (status_of ss u))) ≡ false
    go true = refl
    go false = committed_after (ltb u next) (status_of ss u) ∙ ap is_committed begun

-- ---- a part of a commit

-- nothing of it is done, or its transaction is committed, which hasn't failed
abbrev pub IsPartOf : Open → (before after : List Status) → Type 0
IsPartOf o before after = (after ≡ before) ⊎ ((o.failed ≡ false) × (after ≡ set before o.t Committed))

none_behind : (n : ℕ) → take {A = ℕ} n [] ≡ []
none_behind zero = refl
none_behind (suc n) = refl

pub part_of_one : (ss : List Status) (o : Open) (k : ℕ) → IsPartOf o ss (with_all ss (take k (cond o.failed [] (o.t ∷ []))) Committed)
part_of_one ss o k = go o.failed k
  where
    go : (failed : Bool) (k : ℕ)
        → (with_all ss (take k (cond failed [] (o.t ∷ []))) Committed ≡ ss) ⊎ ((failed ≡ false) × (with_all ss (take k (cond failed [] (o.t ∷ []))) Committed ≡ set ss o.t Committed))
    go true k = inl (ap (λ (l : List ℕ). with_all ss l Committed) (none_behind k))
    go false zero = inl refl
    go false (suc k) = inr (refl, ap (λ (l : List ℕ). with_all (set ss o.t Committed) l Committed) (none_behind k))

module _ (layout : DiskLayout) (pages : PageMap) (t : TransactionsState) (d : DatabaseState) (shows : ShowsDatabase layout pages t d) (n : ℕ) (o : Open)
    (was : transaction_of t.opens n ≡ Some o) (ss : List Status) (part : IsPartOf o shows.stored ss) (next : ℕ) where
  -- whoever counts then counted before
  pub part_counts_no_more : CommitCounts → (u : ℕ) → IsTrue (counts (opened_at next) ss u) → IsTrue (counts t shows.stored u)
  part_counts_no_more same u counted = elim part [
    | inl none ↦ subst (λ (l : List Status). IsTrue (counts t l u)) none (counted_before t next ss u counted)
    | inr done ↦
        let then : TransactionsState = with_open t n None in
        sym (same layout pages t d shows.stored n u o shows shows.has was)
        ∙ ap (λ (b : Bool). counts then (set shows.stored o.t (ended b)) u) done.0
        ∙ subst (λ (l : List Status). IsTrue (counts then l u)) done.1 (counted_before then next ss u counted)
  ]

  -- another one that was under way doesn't count
  pub part_voids_others : OthersAreApart → (m : ℕ) (q : Open) → m ≢ n → transaction_of t.opens m ≡ Some q → counts (opened_at next) ss q.t ≡ false
  part_voids_others apart m q other is =
      let begun : status_of shows.stored q.t ≡ Begun = (open_one shows m q is).begun in
      elim part [
        | inl none ↦ begun_is_void next ss q.t (ap (λ (l : List Status). status_of l q.t) none ∙ begun)
        | inr done ↦
            let differ : q.t ≢ o.t = (apart layout pages t d m n q o shows is was (λ same. other (sym same))).0 in
            begun_is_void next ss q.t (ap (λ (l : List Status). status_of l q.t) done.1 ∙ get_or-set_other shows.stored o.t q.t Committed Unused differ ∙ begun)
      ]
