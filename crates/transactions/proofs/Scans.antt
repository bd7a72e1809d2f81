-- The rows that a scan found are those that the query finds in the session's copy.
use Rattle.std.proofs.Common.{◌≡◌, Bool, true, false, ◌&&◌, eqb, ℕ, ◌<◌, List, map, length, Some, refl, sym, ap, subst, ◌∙◌, eqb-true, All, IsPermutation, IsSorted}
use Rattle.std.specs.List.{filter, list_any}
use Rattle.std.specs.Cmp.{eq_by_cmp_equiv}
use Rattle.std.specs.Ordering.{eq_by_cmp}
use Rattle.std.specs.FinMap.{get, values}
use Rattle.std.proofs.lemmas.Bool.{false≢true}
use Rattle.std.proofs.lemmas.List.Elements.{All-map, All-weaker}
use Rattle.std.proofs.lemmas.List.Sorted.{All-permutation, IsPermutation-map, list_any-IsPermutation}
use Rattle.std.proofs.lemmas.Map.Keys.{IsDistinct-IsPermutation}
use Rattle.block_model.specs.declared.place.Spot.{Spot}
use Rattle.block_model.specs.declared.row.Query.{Query}
use Rattle.block_model.specs.declared.row.Row.{Row}
use Rattle.block_model.specs.declared.row.RowId.{RowId}
use Rattle.block_model.specs.DatabaseState.{DatabaseState, OpenTransaction}
use Rattle.block_model.specs.RequestEffect as model
use Rattle.block_model.specs.RowMatches.{column_matches, row_matches}
use Rattle.block_model.specs.TableState.{id_cmp, ids_total}
use Rattle.std.specs.List.{list_all}
use Rattle.store_layout.specs.DiskLayout.{DiskLayout}
use Rattle.page_layout.specs.PageContents.{Slot}
use Rattle.page_layout.specs.RowBytes.{StoredRow}
use Rattle.page_map.specs.PageMap.{PageMap}
use Rattle.heap_rows.specs.HeapBlocks.{HasBlocks}
use Rattle.heap_rows.specs.RowPlaces.{slot_at}
use Rattle.snapshot_core.specs.declared.statuses.Status.{Status}
use Rattle.snapshot_core.specs.declared.table.Version.{Version}
use Rattle.snapshot_core.specs.declared.sessions.Open.{Open}
use Rattle.snapshot_core.specs.StoredVersions.{stored, transaction_of}
use Rattle.snapshot_core.specs.VisibleState.{is_seen, table_of}
use Rattle.snapshot_core.proofs.Stored.{stored_id}
use Rattle.transactions.specs.ShownVersions.{version_of}
use Rattle.tx_table.specs.Statuses.{HasStatuses}
use Rattle.transactions.specs.FoundRows.{AreFound, IsFoundThere}
use Rattle.transactions.specs.GivenStatuses.{given_statuses}
use Rattle.transactions.specs.ShowsDatabase.{ShowsDatabase}
use Rattle.transactions.specs.StoredRows.{row_of, sees_row}
use Rattle.transactions.specs.TransactionsState.{TransactionsState}
use Rattle.transactions.proofs.Copies.{copy_is, sees_as}
use Rattle.transactions.proofs.Found.{HasVersion, distinct_found, found_id, row_ids, rows_in_order}
use Rattle.transactions.proofs.Marks.{row_stored}
use Rattle.transactions.proofs.Shown.{one_list_shown, versions_on_pages, whole}
use Rattle.transactions.proofs.Standing.{one_blocks, one_spot, stored_stands}

both_true : (a b : Bool) → (a && b) ≡ true → (a ≡ true) × (b ≡ true)
both_true true true e = (refl, refl)
both_true true false e = absurd (false≢true e)
both_true false b e = absurd (false≢true e)

module _ {layout : DiskLayout} {pages : PageMap} {t : TransactionsState} {s : DatabaseState} (shows : ShowsDatabase layout pages t s) (ss : List Status) (has : HasStatuses layout pages ss) (o : Open) (query : Query) (blocks : List (List Slot)) (below : query.table < length layout.schema.tables)
    (blocks_are : HasBlocks layout pages query.table blocks) where
  abbrev vs : List Version
  vs = versions_on_pages layout pages

  abbrev gs : List Status
  gs = given_statuses t.tx shows.stored

  -- a version is seen and matches
  abbrev answers : Version → Bool
  answers v = is_seen (given_statuses t.tx shows.stored) o v && row_matches query v.row

  sees : (row : StoredRow) → is_seen (given_statuses t.tx shows.stored) o (version_of query.table row) ≡ sees_row t.tx.first ss o row
  sees row = sees_as shows o query.table row ∙ ap (λ (stored : List Status). sees_row t.tx.first stored o row) (sym (one_list_shown shows ss has))

  -- the version of a row that was found
  found_version : (f : Row × Spot) → IsFoundThere (sees_row t.tx.first ss o) query blocks f → HasVersion (versions_on_pages layout pages) (λ v. is_seen (given_statuses t.tx shows.stored) o v && row_matches query v.row) f.0
  found_version f there =
      let row = there.stored in
      let id : f.0.id ≡ row.id = ap (λ (r : Row). r.id) there.is in
      record {
        version = version_of query.table row;
        there = ap (stored (versions_on_pages layout pages)) id ∙ row_stored shows query.table f.1 row below (record { blocks = blocks; has = blocks_are; there = there.there });
        is = sym there.is;
        passes = λ i. (sees row ∙ there.seen) i && (ap (row_matches query) (sym there.is) ∙ there.matches) i;
      }

  one : (spot other : Spot) (row there : StoredRow) → slot_at blocks spot ≡ Some row → slot_at blocks other ≡ Some there → there.id ≡ row.id → other ≡ spot
  one spot other row there at at_other same = one_spot layout pages query.table blocks spot other row there (whole shows).ids_differ below blocks_are at at_other same

  module _ (found : List (Row × Spot)) (are : AreFound (sees_row t.tx.first ss o) query blocks found) where
    rows : List Row
    rows = map (λ (f : Row × Spot). f.0) found

    each : All (HasVersion (versions_on_pages layout pages) (λ v. is_seen (given_statuses t.tx shows.stored) o v && row_matches query v.row)) (map (λ (f : Row × Spot). f.0) found)
    each =
        let P : Row → Type 0 = HasVersion (versions_on_pages layout pages) (λ v. is_seen (given_statuses t.tx shows.stored) o v && row_matches query v.row) in
        All-map P (λ (f : Row × Spot). f.0) found (All-weaker (IsFoundThere (sees_row t.tx.first ss o) query blocks) (λ (f : Row × Spot). P f.0) found_version found are.there)

    complete : (q : RowId) (v : Version) → stored (versions_on_pages layout pages) q ≡ Some v → (is_seen (given_statuses t.tx shows.stored) o v && row_matches query v.row) ≡ true
        → list_any (eq_by_cmp id_cmp q) (row_ids (map (λ (f : Row × Spot). f.0) found)) ≡ true
    complete q v there passes =
        let parts = both_true (is_seen (given_statuses t.tx shows.stored) o v) (row_matches query v.row) passes in
        let stands = stored_stands layout pages q v shows.blocks there in
        let of_table : v.row.table ≡ query.table = eqb-true v.row.table query.table ((both_true (eqb v.row.table query.table) (list_all (column_matches v.row.values) query.conds) parts.1).0) in
        let is : v ≡ version_of query.table stands.row = stands.is ∙ ap (λ (k : ℕ). version_of k stands.row) of_table in
        let has_these = subst (λ (k : ℕ). HasBlocks layout pages k stands.blocks) of_table stands.has in
        let at : slot_at blocks stands.spot ≡ Some stands.row = ap (λ (bs : List (List Slot)). slot_at bs stands.spot) (one_blocks layout pages query.table blocks stands.blocks blocks_are has_these) ∙ stands.there in
        let seen : sees_row t.tx.first ss o stands.row ≡ true = sym (sees stands.row) ∙ ap (is_seen (given_statuses t.tx shows.stored) o) (sym is) ∙ parts.0 in
        let matches : row_matches query (row_of query.table stands.row) ≡ true = ap (λ (v : Version). row_matches query v.row) (sym is) ∙ parts.1 in
        let id : q ≡ stands.row.id = sym (stored_id (versions_on_pages layout pages) q v there) ∙ ap (λ (v : Version). v.row.id) is in
        ap (λ (id : RowId). list_any (eq_by_cmp id_cmp id) (row_ids (map (λ (f : Row × Spot). f.0) found))) id
        ∙ found_id (sees_row t.tx.first ss o) query blocks one stands.spot stands.row found at are.there (are.all stands.spot stands.row at seen matches)

    pub these_rows : (rows : List Row) → IsPermutation (map (λ (f : Row × Spot). f.0) found) rows → IsSorted (λ (a b : Row). id_cmp a.id b.id) rows → rows ≡ filter (row_matches query) (values (table_of (is_seen (given_statuses t.tx shows.stored) o) (versions_on_pages layout pages)))
    these_rows rows perm sorted =
        let P : Row → Type 0 = HasVersion (versions_on_pages layout pages) (λ v. is_seen (given_statuses t.tx shows.stored) o v && row_matches query v.row) in
        let found_rows = map (λ (f : Row × Spot). f.0) found in
        let ids_perm : IsPermutation (row_ids found_rows) (row_ids rows) = IsPermutation-map (λ (r : Row). r.id) found_rows rows perm in
        rows_in_order (versions_on_pages layout pages) (is_seen (given_statuses t.tx shows.stored) o) (row_matches query) rows (whole shows).ids_differ
        (All-permutation P found_rows rows perm each)
        (IsDistinct-IsPermutation (eq_by_cmp id_cmp) (eq_by_cmp_equiv ids_total).symm (row_ids found_rows) (row_ids rows) ids_perm (distinct_found (sees_row t.tx.first ss o) query blocks one 0 0 found are.ascend are.there))
        sorted
        (λ q v there passes. sym (list_any-IsPermutation (eq_by_cmp id_cmp q) (row_ids found_rows) (row_ids rows) ids_perm) ∙ complete q v there passes)

pub found_shown : (layout : DiskLayout) (pages : PageMap) (t : TransactionsState) (s : DatabaseState) (stored : List Status) (session : ℕ) (o : Open) (x : OpenTransaction) (query : Query) (blocks : List (List Slot)) (found : List (Row × Spot)) (rows : List Row)
    → ShowsDatabase layout pages t s → HasStatuses layout pages stored → transaction_of t.opens session ≡ Some o → get s.sessions session ≡ Some x
    → query.table < length layout.schema.tables → HasBlocks layout pages query.table blocks → AreFound (sees_row t.tx.first stored o) query blocks found
    → IsPermutation (map (λ (f : Row × Spot). f.0) found) rows → IsSorted (λ (a b : Row). id_cmp a.id b.id) rows
    → rows ≡ model.rows_found x query
found_shown layout pages t s ss session o x query blocks found rows shows has was there below blocks_are are perm sorted =
    these_rows shows ss has o query blocks below blocks_are found are rows perm sorted
    ∙ ap (λ (x : OpenTransaction). model.rows_found x query) (sym (copy_is shows session o x was there))
