-- The table that is found on pages that a commit passes, and behind any other request.
use Rattle.std.proofs.Common.{◌≡◌, ◌≢◌, Bool, true, false, cond, ℕ, zero, suc, ◌+◌, ltb, List, [], ◌∷◌, set, take, Option, None, Some, ◌⊎◌, inl, inr, refl, sym, ap, subst, ◌∙◌, arith}
use Rattle.std.specs.FinMap.{get}
use Rattle.std.proofs.lemmas.Bool.{cases_eq}
use Rattle.block_model.specs.declared.place.Place.{Place}
use Rattle.block_model.specs.declared.request.Request.{Request}
use Rattle.block_model.specs.declared.request.Request.TheVariants.{Begin, Put, Look, Mark, Commit, Rollback}
use Rattle.block_model.specs.declared.request.Tag.{Tag}
use Rattle.block_model.specs.declared.request.Tag.TheVariants as tags
use Rattle.block_model.specs.declared.row.RowId.{RowId}
use Rattle.block_model.specs.DatabaseState.{DatabaseState, OpenTransaction}
use Rattle.block_model.specs.RequestEffect.{Answer, after_request, effect_at, effect_is, effect_outside, effect_within, is_conflict, merged}
use Rattle.block_model.specs.RequestLaws.{mark_effect}
use Rattle.store_layout.specs.DiskLayout.{DiskLayout}
use Rattle.page_map.specs.PageMap.{PageMap, block_at, page_at}
use Rattle.heap_rows.specs.Heaps.{relation_of}
use Rattle.snapshot_core.specs.declared.statuses.Status.{Status}
use Rattle.snapshot_core.specs.declared.statuses.Status.TheVariants.{Committed}
use Rattle.snapshot_core.specs.Visibility.{is_committed}
use Rattle.snapshot_core.specs.declared.table.Version.{Version}
use Rattle.snapshot_core.specs.declared.sessions.Open.{Open}
use Rattle.snapshot_core.specs.SessionChanges.{ended}
use Rattle.snapshot_core.specs.StoredVersions.{stored, transaction_of}
use Rattle.snapshot_core.specs.VisibleState.{all_versions, is_of_commit, status_of, table_of}
use Rattle.snapshot_core.proofs.Copies.{rewritten}
use Rattle.snapshot_core.proofs.Ends.{committed_effect}
use Rattle.snapshot_core.proofs.Sights.{status_other, status_own}
use Rattle.snapshot_core.proofs.Stored.{AreDistinct}
use Rattle.transactions.specs.ShownVersions.{shown_tables}
use Rattle.tx_table.specs.Statuses.{HasStatuses, status_relation, with_all}
use Rattle.transactions.specs.GivenStatuses.{given_status, given_statuses}
use Rattle.transactions.specs.Sessions.{committed_by}
use Rattle.transactions.specs.ShowsDatabase.{ShowsDatabase}
use Rattle.transactions.specs.TransactionsState.{TransactionsState}
use Rattle.transactions.proofs.Alike.{same_shown}
use Rattle.transactions.proofs.Given.{ended_stays, given_changed, given_other, status_given}
use Rattle.transactions.proofs.Shown.{blocks_kept, open_one, versions_on_pages, whole}
use Rattle.transactions.specs.FoundLaws.{CommitFindsEither, FailedCommitFindsOld, FindsEither, OnlyCommitsChangeTable, OtherRequestsLeaveTable, table_committed}
use Rattle.transactions.specs.FoundTable.{FoundTable}
use Rattle.transactions.proofs.FoundAtStop.{are_numbered, found_of, found_shown}

-- ---- pages with other statuses

-- the pages of every other relation are as before
abbrev OthersStay : PageMap → PageMap → Type 0
OthersStay old new = (place : Place) → place.relation ≢ status_relation → page_at new place ≡ page_at old place

-- so each table's are
table_stays : (old new : PageMap) → OthersStay old new → (table block : ℕ) → block_at new (relation_of table) block ≡ block_at old (relation_of table) block
table_stays old new rest table block = rest (record { relation = relation_of table; block = block }) (λ e. absurd (let none : table + 1 ≡ 0 = e in omega arith))

module _ (layout : DiskLayout) (old new : PageMap) (t : TransactionsState) (s : DatabaseState) (shows : ShowsDatabase layout old t s) (rest : OthersStay old new) where
  tables : shown_tables layout old ≡ shown_tables layout new
  tables = same_shown layout old new (λ table block below. table_stays old new rest table block)

  -- the same rows, by the statuses that the pages have
  found_by : (ss gs : List Status) → HasStatuses layout new ss → ((u : ℕ) → is_committed (status_of gs u) ≡ is_committed (given_status t.tx.first ss u)) → FoundTable layout new (table_of (is_of_commit gs) (versions_on_pages layout old))
  found_by ss gs has given =
      subst (λ (ts : List (List Version)). FoundTable layout new (table_of (is_of_commit gs) (all_versions ts))) (sym tables)
      (found_of layout new t.tx.first ss gs has
      (λ n below. let was = shows.blocks n below in (was.0, blocks_kept layout old new n was.0 (λ block. table_stays old new rest n block) was.1))
      (subst (λ (ts : List (List Version)). AreDistinct (all_versions ts)) tables (whole shows).ids_differ)
      given
      (subst (λ (ts : List (List Version)). (id : RowId) (v : Version) → stored (all_versions ts) id ≡ Some v → v.row.id.t ≢ 0) tables (are_numbered shows)))

  -- with the same ones
  pub found_still : HasStatuses layout new shows.stored → FoundTable layout new s.table
  found_still has =
      subst (FoundTable layout new) (ap (λ (s : DatabaseState). s.table) shows.database)
      (found_by shows.stored (given_statuses t.tx shows.stored) has (λ u. ap is_committed (status_given t.tx shows.stored u shows.next)))

  -- ---- one committed

  module _ (n : ℕ) (o : Open) (was : transaction_of t.opens n ≡ Some o) where
    given_then : (u : ℕ) → is_committed (status_of (set (given_statuses t.tx shows.stored) o.t Committed) u) ≡ is_committed (given_status t.tx.first (set shows.stored o.t Committed) u)
    given_then u =
        let gs = given_statuses t.tx shows.stored in
        let one = open_one shows n o was in
        elim (cases_eq u o.t) [
          | inl same ↦
              ap is_committed
              (ap (status_of (set gs o.t Committed)) same
              ∙ status_own gs o.t Committed ((whole shows).under_way n o was).begun
              ∙ sym (ap (given_status t.tx.first (set shows.stored o.t Committed)) same
              ∙ given_changed t.tx.first shows.stored o.t Committed one.some one.within
              ∙ ended_stays (ltb o.t t.tx.first) Committed (λ e. absurd (cc))))
          | inr apart ↦
              ap is_committed (status_other gs o.t u Committed apart ∙ status_given t.tx shows.stored u shows.next ∙ sym (given_other t.tx.first shows.stored o.t u Committed apart))
        ]

    table_then : o.failed ≡ false → table_of (is_of_commit (set (given_statuses t.tx shows.stored) o.t Committed)) (versions_on_pages layout old) ≡ table_committed s n
    table_then unfailed =
        let vs = versions_on_pages layout old in
        let gs = given_statuses t.tx shows.stored in
        sym (ap (λ (p : DatabaseState × Answer). p.0.table) (committed_effect vs gs t.opens (set t.opens n None) n o s shows.database (whole shows) was (rewritten t.opens (set t.opens n None) n o None was refl))
        ∙ ap (λ (b : Bool). table_of (is_of_commit (set gs o.t (ended b))) vs) unfailed)

    pub found_then : o.failed ≡ false → HasStatuses layout new (set shows.stored o.t Committed) → FoundTable layout new (table_committed s n)
    found_then unfailed has = subst (FoundTable layout new) (table_then unfailed) (found_by (set shows.stored o.t Committed) (set (given_statuses t.tx shows.stored) o.t Committed) has given_then)

-- ---- a part of a commit

-- nothing is behind the end
none_behind : (n : ℕ) → take {A = ℕ} n [] ≡ []
none_behind zero = refl
none_behind (suc n) = refl

-- the statuses with none committed
none_committed : (layout : DiskLayout) (pages : PageMap) (ss : List Status) (k : ℕ) (l : List ℕ) → l ≡ [] → HasStatuses layout pages (with_all ss (take k l) Committed) → HasStatuses layout pages ss
none_committed layout pages ss k l none = subst (λ (l : List ℕ). HasStatuses layout pages (with_all ss l Committed)) (ap (take k) none ∙ none_behind k)

-- with none of one, or with it
one_or_none : (layout : DiskLayout) (pages : PageMap) (ss : List Status) (k u : ℕ) (l : List ℕ) → l ≡ u ∷ [] → HasStatuses layout pages (with_all ss (take k l) Committed) → HasStatuses layout pages ss ⊎ HasStatuses layout pages (set ss u Committed)
one_or_none layout pages ss k u l one has = go k (subst (λ (l : List ℕ). HasStatuses layout pages (with_all ss (take k l) Committed)) one has)
  where
    go : (k : ℕ) → HasStatuses layout pages (with_all ss (take k (u ∷ [])) Committed) → HasStatuses layout pages ss ⊎ HasStatuses layout pages (set ss u Committed)
    go zero has = inl has
    go (suc k) has = inr (subst (λ (l : List ℕ). HasStatuses layout pages (with_all ss (u ∷ l) Committed)) (none_behind k) has)

pub failed_commit_finds_old : FailedCommitFindsOld
failed_commit_finds_old layout old pages t s n o shows was failed part =
    let some = part.statuses shows.stored shows.has in
    found_still layout old pages t s shows part.others
    (none_committed layout pages shows.stored some.0 (committed_by o) (ap (λ (b : Bool). cond b [] (o.t ∷ [])) failed) some.1)

pub commit_finds_either : CommitFindsEither
commit_finds_either layout old pages t s n o shows was part = go o.failed refl
  where
    go : (failed : Bool) → o.failed ≡ failed → FindsEither layout s.table (table_committed s n) pages
    go true failed = inl (failed_commit_finds_old layout old pages t s n o shows was failed part)
    go false unfailed =
        let some = part.statuses shows.stored shows.has in
        elim (one_or_none layout pages shows.stored some.0 o.t (committed_by o) (ap (λ (b : Bool). cond b [] (o.t ∷ [])) unfailed) some.1) [
          | inl none ↦ inl (found_still layout old pages t s shows part.others none)
          | inr done ↦ inr (found_then layout old pages t s shows part.others n o was unfailed done)
        ]

-- ---- any other request

module _ (s : DatabaseState) (n : ℕ) (x : OpenTransaction) where
  mark_leaves : (id : RowId) (b : Bool) → (mark_effect s n x id b).0.table ≡ s.table
  mark_leaves id true = refl
  mark_leaves id false = refl

  commit_leaves : (b : Bool) → b ≡ true → cond b s.table (merged s.table x) ≡ s.table
  commit_leaves true failed = refl
  commit_leaves false failed = absurd (cc)

  within_leaves : (table : ℕ) (request : Request) (tag : Tag) → (request ≡ Commit → x.failed ≡ true) → (effect_within s n x table request tag).0.table ≡ s.table
  within_leaves table (Put values) tags.Ok failed = refl
  within_leaves table (Put values) tags.Full failed = refl
  within_leaves table (Put values) tags.NoMemory failed = refl
  within_leaves table (Look q) tags.NoMemory failed = refl
  within_leaves table (Look q) tags.Ok failed = refl
  within_leaves table (Look q) tags.Full failed = refl
  within_leaves table (Mark id) tag failed = mark_leaves id (is_conflict s n x id)
  within_leaves table Commit tag failed = commit_leaves x.failed (failed refl)
  within_leaves table Rollback tag failed = refl
  within_leaves table Begin tag failed = refl

outside_leaves : (s : DatabaseState) (n : ℕ) (request : Request) → (effect_outside s n request).0.table ≡ s.table
outside_leaves s n Begin = refl
outside_leaves s n (Put values) = refl
outside_leaves s n (Look q) = refl
outside_leaves s n (Mark id) = refl
outside_leaves s n Commit = refl
outside_leaves s n Rollback = refl

must_fail : (b : Bool) → (b ≡ false → ⊥) → b ≡ true
must_fail true other = refl
must_fail false other = absurd (other refl)

pub only_commits_change : OnlyCommitsChangeTable
only_commits_change s e other = ap (λ (p : DatabaseState × Answer). p.0.table) (effect_is s e) ∙ at (get s.sessions e.session) refl
  where
    at : (o : Option OpenTransaction) → get s.sessions e.session ≡ o → (effect_at o s e).0.table ≡ s.table
    at None got = outside_leaves s e.session e.request
    at (Some x) got = within_leaves s e.session x e.table e.request e.tag (λ asks. must_fail x.failed (λ unfailed. other (record { asks = asks; transaction = x; under_way = got; unfailed = unfailed })))

pub other_requests_leave : OtherRequestsLeaveTable
other_requests_leave layout pages t s e other shows = subst (FoundTable layout pages) (only_commits_change s e other) (found_shown layout pages t (after_request s e) shows)
