-- The table that is found on pages, by the versions of rows that stand there.
use Rattle.std.proofs.Common.{◌≡◌, ◌≢◌, Bool, true, false, cond, not, ℕ, ◌<◌, ltb, List, length, Option, None, Some, refl, sym, ap, subst, ◌∙◌}
use Rattle.std.specs.FinMap.{get, same_map}
use Rattle.std.proofs.lemmas.Bool.{and_from, and_parts, false_from_ne_true, not_from_false, true≢false}
use Rattle.std.proofs.lemmas.Map.Entries.{option_filter}
use Rattle.block_model.specs.declared.row.Row.{Row}
use Rattle.block_model.specs.declared.row.RowId.{RowId}
use Rattle.block_model.specs.DatabaseState.{DatabaseState}
use Rattle.block_model.specs.TableState.{TableState, ids_exact, ids_total}
use Rattle.store_layout.specs.DiskLayout.{DiskLayout}
use Rattle.page_layout.specs.PageContents.{Slot}
use Rattle.page_layout.specs.RowBytes.{StoredRow}
use Rattle.page_map.specs.PageMap.{PageMap}
use Rattle.heap_rows.specs.HeapBlocks.{HasBlocks}
use Rattle.snapshot_core.specs.declared.statuses.Status.{Status}
use Rattle.snapshot_core.specs.declared.statuses.Status.TheVariants.{Unused, Begun, Committed, RolledBack}
use Rattle.snapshot_core.specs.Visibility.{is_committed}
use Rattle.snapshot_core.specs.declared.table.Version.{Version}
use Rattle.snapshot_core.specs.StoredVersions.{stored}
use Rattle.snapshot_core.specs.VisibleState.{is_of_commit, status_of, table_of}
use Rattle.snapshot_core.proofs.Stored.{AreDistinct, get-table_of, row_of as its_row, stored_id}
use Rattle.transactions.specs.ShownVersions.{version_of}
use Rattle.transactions.proofs.StoredThere.{stored_there}
use Rattle.tx_table.specs.Statuses.{HasStatuses, after_stop}
use Rattle.transactions.specs.GivenStatuses.{given_status, given_statuses}
use Rattle.transactions.specs.ShowsDatabase.{ShowsDatabase}
use Rattle.transactions.specs.TransactionsState.{TransactionsState}
use Rattle.transactions.proofs.Given.{given_none, given_some, status_given}
use Rattle.transactions.proofs.PageSlots.{are_read}
use Rattle.transactions.proofs.Shown.{versions_on_pages, whole}
use Rattle.transactions.proofs.Standing.{stored_stands}
use Rattle.transactions.specs.FoundTable.{FoundTable, IsOfCommits, StandsCommitted}

-- ---- one table

module _ (layout : DiskLayout) (pages : PageMap) (one : (a b : List Status) → HasStatuses layout pages a → HasStatuses layout pages b → a ≡ b) where
  -- a row of one table is one of the other
  has_row : (a b : TableState) → FoundTable layout pages a → FoundTable layout pages b → (id : RowId) (row : Row) → get a id ≡ Some row → get b id ≡ Some row
  has_row a b found other id row there =
      let statuses = one found.statuses other.statuses found.has other.has in
      (other.rows id row).1 (subst (λ (ss : List Status). StandsCommitted layout pages ss id row) statuses ((found.rows id row).0 there))

  pub one_found : (a b : TableState) → FoundTable layout pages a → FoundTable layout pages b → a ≡ b
  one_found a b found other = same_map ids_total ids_exact a b (λ id. same id (get a id) (get b id) refl refl)
    where
      same : (id : RowId) (x y : Option Row) → get a id ≡ x → get b id ≡ y → get a id ≡ get b id
      same id (Some row) y at_a at_b = at_a ∙ sym (has_row a b found other id row at_a)
      same id None (Some row) at_a at_b = has_row b a other found id row at_b ∙ sym at_b
      same id None None at_a at_b = at_a ∙ sym at_b

-- ---- how transactions stand

committed_before : (earlier : Bool) (status : Status) → is_committed (after_stop earlier status) ≡ true → status ≡ Committed
committed_before true Unused is = absurd (true≢false (sym is))
committed_before true Begun is = absurd (true≢false (sym is))
committed_before true Committed is = refl
committed_before true RolledBack is = absurd (true≢false (sym is))
committed_before false Unused is = absurd (true≢false (sym is))
committed_before false Begun is = absurd (true≢false (sym is))
committed_before false Committed is = refl
committed_before false RolledBack is = absurd (true≢false (sym is))

committed_stays : (earlier : Bool) → is_committed (after_stop earlier Committed) ≡ true
committed_stays true = refl
committed_stays false = refl

-- a transaction with a number has committed exactly where the pages say so
given_committed : (first : ℕ) (ss : List Status) (u : ℕ) → u ≢ 0 → status_of ss u ≡ Committed → is_committed (given_status first ss u) ≡ true
given_committed first ss u some is = ap is_committed (given_some first ss u some ∙ ap (after_stop (ltb u first)) is) ∙ committed_stays (ltb u first)

is_some_number : (first : ℕ) (ss : List Status) (u : ℕ) → is_committed (given_status first ss u) ≡ true → u ≢ 0
is_some_number first ss u is none = true≢false (sym is ∙ ap is_committed (given_none first ss u none))

stored_committed : (first : ℕ) (ss : List Status) (u : ℕ) → is_committed (given_status first ss u) ≡ true → status_of ss u ≡ Committed
stored_committed first ss u is = committed_before (ltb u first) (status_of ss u) (sym (ap is_committed (given_some first ss u (is_some_number first ss u is))) ∙ is)

not_true : (b : Bool) → not b ≡ true → b ≡ true → ⊥
not_true true is_not is = true≢false (sym is_not)
not_true false is_not is = true≢false (sym is)

-- a row that passes is of a version that does
passes : (p : Version → Bool) (o : Option Version) (row : Row) → its_row (option_filter p o) ≡ Some row → (v : Version) × (o ≡ Some v) × (v.row ≡ row) × (p v ≡ true)
passes p None row e = absurd (cc)
passes p (Some v) row e = go (p v) refl e
  where
    go : (b : Bool) → p v ≡ b → its_row (cond b (Some v) None) ≡ Some row → (w : Version) × (Some v ≡ Some w) × (w.row ≡ row) × (p w ≡ true)
    go true so e = (v, refl, (let same : v.row ≡ row = cc in same), so)
    go false not_so e = absurd (cc)

-- ---- the rows on pages

-- The versions on the pages, by statuses of which the same are committed as of those that the pages have.
module _ (layout : DiskLayout) (pages : PageMap) (first : ℕ) (ss gs : List Status)
    (has : HasStatuses layout pages ss)
    (blocks : (n : ℕ) → n < length layout.schema.tables → (blocks : List (List Slot)) × HasBlocks layout pages n blocks)
    (distinct : AreDistinct (versions_on_pages layout pages))
    (given : (u : ℕ) → is_committed (status_of gs u) ≡ is_committed (given_status first ss u))
    (numbered : (id : RowId) (v : Version) → stored (versions_on_pages layout pages) id ≡ Some v → v.row.id.t ≢ 0) where
  of_commits : (table : ℕ) (row : StoredRow) → is_of_commit gs (version_of table row) ≡ true → IsOfCommits ss row
  of_commits table row is =
      let parts = and_parts (is_committed (status_of gs row.id.t)) (not (is_committed (status_of gs row.deleter))) is in
      record {
        put = stored_committed first ss row.id.t (sym (given row.id.t) ∙ parts.0);
        undeleted = λ some committed. not_true (is_committed (status_of gs row.deleter)) parts.1 (given row.deleter ∙ given_committed first ss row.deleter some committed);
      }

  is_counted : (table : ℕ) (row : StoredRow) → row.id.t ≢ 0 → IsOfCommits ss row → is_of_commit gs (version_of table row) ≡ true
  is_counted table row some of =
      and_from (is_committed (status_of gs row.id.t)) (not (is_committed (status_of gs row.deleter)))
      (given row.id.t ∙ given_committed first ss row.id.t some of.put)
      (not_from_false (is_committed (status_of gs row.deleter)) (false_from_ne_true (is_committed (status_of gs row.deleter)) (λ committed.
      let is = sym (given row.deleter) ∙ committed in
      of.undeleted (is_some_number first ss row.deleter is) (stored_committed first ss row.deleter is))))

  stands : (id : RowId) (row : Row) → get (table_of (is_of_commit gs) (versions_on_pages layout pages)) id ≡ Some row → StandsCommitted layout pages ss id row
  stands id row there =
      let vs = versions_on_pages layout pages in
      let v = passes (is_of_commit gs) (stored vs id) row (sym (get-table_of (is_of_commit gs) vs id distinct) ∙ there) in
      let at = stored_stands layout pages id v.0 blocks v.1 in
      subst (StandsCommitted layout pages ss id) v.2 (record {
        below = at.below;
        spot = at.spot;
        stored = at.row;
        stands = record { blocks = at.blocks; has = at.has; there = at.there };
        is = ap (λ (v : Version). v.row) at.is;
        under = ap (λ (v : Version). v.row.id) (sym at.is) ∙ stored_id vs id v.0 v.1;
        committed = of_commits v.0.row.table at.row (ap (is_of_commit gs) (sym at.is) ∙ v.3);
      })

  in_table : (id : RowId) (row : Row) → StandsCommitted layout pages ss id row → get (table_of (is_of_commit gs) (versions_on_pages layout pages)) id ≡ Some row
  in_table id row at =
      let vs = versions_on_pages layout pages in
      let v : Version = version_of row.table at.stored in
      let there : stored vs id ≡ Some v =
      ap (stored vs) (sym at.under) ∙ stored_there are_read layout pages row.table at.spot at.stored at.stands.blocks distinct at.below at.stands.has at.stands.there in
      get-table_of (is_of_commit gs) vs id distinct
      ∙ ap (λ (o : Option Version). its_row (option_filter (is_of_commit gs) o)) there
      ∙ ap (λ (b : Bool). its_row (cond b (Some v) None)) (is_counted row.table at.stored (numbered id v there) at.committed)
      ∙ ap (λ (row : Row). Some row) (sym at.is)

  pub found_of : FoundTable layout pages (table_of (is_of_commit gs) (versions_on_pages layout pages))
  found_of = record { statuses = ss; has = has; blocks = blocks; rows = λ id row. (stands id row, in_table id row) }

-- ---- the database that is shown

-- each row's transaction has a number
pub are_numbered : {layout : DiskLayout} {pages : PageMap} {t : TransactionsState} {s : DatabaseState} (shows : ShowsDatabase layout pages t s) (id : RowId) (v : Version) → stored (versions_on_pages layout pages) id ≡ Some v → v.row.id.t ≢ 0
are_numbered {t = t} shows id v there none = (shows.used id v there).put (given_none t.tx.first shows.stored v.row.id.t none)

pub found_shown : (layout : DiskLayout) (pages : PageMap) (t : TransactionsState) (s : DatabaseState) → ShowsDatabase layout pages t s → FoundTable layout pages s.table
found_shown layout pages t s shows =
    subst (FoundTable layout pages) (ap (λ (s : DatabaseState). s.table) shows.database)
    (found_of layout pages t.tx.first shows.stored (given_statuses t.tx shows.stored) shows.has shows.blocks (whole shows).ids_differ
    (λ u. ap is_committed (status_given t.tx shows.stored u shows.next)) (are_numbered shows))
