-- A row that a session's transaction marks, or finds marked by another.
use Rattle.std.proofs.Common.{◌≡◌, Bool, true, false, cond, not, ◌&&◌, eqb, ℕ, ◌<◌, List, [], ◌∷◌, ◌++◌, length, set, Option, None, Some, inl, inr, refl, sym, ap, subst, ◌∙◌}
use Rattle.std.specs.List.{flat_map}
use Rattle.std.specs.Option.{is_some}
use Rattle.std.specs.FinMap.{contains_key}
use Rattle.std.proofs.lemmas.Map.Entries.{option_filter}
use Rattle.block_model.specs.declared.place.Spot.{Spot}
use Rattle.block_model.specs.declared.request.Request.TheVariants as requests
use Rattle.block_model.specs.DatabaseState.{DatabaseState, OpenTransaction}
use Rattle.block_model.specs.RequestEffect as model
use Rattle.store_layout.specs.StatementRequests.{request_entry}
use Rattle.store_layout.specs.DiskLayout.{DiskLayout}
use Rattle.page_layout.specs.PageWrites.{marked}
use Rattle.page_layout.specs.RowBytes.{StoredRow}
use Rattle.page_map.specs.PageMap.{PageMap}
use Rattle.heap_rows.specs.RowPlaces.{with_slot}
use Rattle.snapshot_core.specs.declared.statuses.Status.{Status}
use Rattle.snapshot_core.specs.declared.table.Version.{Version}
use Rattle.snapshot_core.specs.declared.sessions.Open.{Open}
use Rattle.snapshot_core.specs.Marks.{conflicts, holds, with_deleter}
use Rattle.snapshot_core.specs.SessionChanges.{failed_open}
use Rattle.snapshot_core.specs.StoredVersions.{stored}
use Rattle.snapshot_core.specs.VisibleState.{is_seen, visible_transaction}
use Rattle.snapshot_core.proofs.Stored.{AreDistinct, Puts, get-table_of, row_of, stored_after}
use Rattle.snapshot_core.proofs.Among.{puts_deleter}
use Rattle.snapshot_core.proofs.Copies.{get_open}
use Rattle.snapshot_core.proofs.Markings.{conflict_effect, free_effect, marked_stored}
use Rattle.snapshot_core.proofs.Puttings.{failed_state}
use Rattle.transactions.specs.ShownVersions.{version_of, versions_of_table, versions_on}
use Rattle.transactions.proofs.StoredThere.{its_swap, stored_there}
use Rattle.transactions.proofs.TableSwaps.{swaps_table}
use Rattle.transactions.proofs.Swaps.{Swaps}
use Rattle.transactions.proofs.Tables.{own_table, table_by_blocks}
use Rattle.tx_table.specs.Kept.{started_blocks_kept, statuses_kept}
use Rattle.transactions.specs.GivenStatuses.{given_statuses}
use Rattle.transactions.specs.Laws.{IsMarking}
use Rattle.transactions.specs.ShowsDatabase.{DoesRequest, HaveBegun, ShowsDatabase}
use Rattle.transactions.specs.StoredRows.{MarksRowAt, StandsAt, conflicts_with}
use Rattle.transactions.specs.TransactionsState.{TransactionsState, with_failed}
use Rattle.transactions.proofs.Failures.{failing, shows_failed}
use Rattle.transactions.proofs.Given.{status_given}
use Rattle.transactions.proofs.Puts.{blocks_after, statuses_stay}
use Rattle.transactions.proofs.PageSlots.{are_read}
use Rattle.transactions.proofs.Shown.{begun_is_used, one_list_shown, open_one, versions_on_pages, whole}

-- a version that is there where those that don't pass are left out passes
passes_there : (p : Version → Bool) (v : Version) (o : Option Version) → o ≡ Some v → is_some (row_of (option_filter p o)) ≡ true → p v ≡ true
passes_there p v o there e = test (p v) (sym (ap (λ (o : Option Version). is_some (row_of (option_filter p o))) there) ∙ e)
  where
    test : (b : Bool) → is_some (row_of (cond b (Some v) None)) ≡ true → b ≡ true
    test true e = refl
    test false e = e

puts_marked : (vs ws : List Version) (v : Version) (t : ℕ) → AreDistinct vs → Swaps (v ∷ []) (with_deleter v t ∷ []) vs ws → Puts vs ws (with_deleter v t)
puts_marked vs ws v t distinct s =
    subst (λ (vs : List Version). Puts vs ws (with_deleter v t)) (sym s.was)
    (subst (λ (ws : List Version). Puts (s.front ++ v ∷ s.back) ws (with_deleter v t)) (sym s.is)
    (puts_deleter s.front s.back v t (subst AreDistinct s.was distinct)))

-- the row of a slot is stored
pub row_stored : {layout : DiskLayout} {pages : PageMap} {t : TransactionsState} {s : DatabaseState} (shows : ShowsDatabase layout pages t s) (table : ℕ) (spot : Spot) (row : StoredRow) → table < length layout.schema.tables → StandsAt layout pages table spot row
    → stored (versions_on_pages layout pages) row.id ≡ Some (version_of table row)
row_stored {layout} {pages} shows table spot row below stands = stored_there are_read layout pages table spot row stands.blocks (whole shows).ids_differ below stands.has stands.there

-- ---- what the marking says

module _ (layout : DiskLayout) (pages : PageMap) (t : TransactionsState) (s : DatabaseState) (session table : ℕ) (o : Open) (spot : Spot) (row : StoredRow) (conflict : Bool)
    (marking : IsMarking layout pages t s session table o row conflict) (stands : StandsAt layout pages table spot row) where
  pub found : stored (versions_on_pages layout pages) row.id ≡ Some (version_of table row)
  found = row_stored marking.shows table spot row marking.below stands

  pub seen : is_seen (given_statuses t.tx marking.shows.stored) o (version_of table row) ≡ true
  seen =
      let vs = versions_on_pages layout pages in
      let gs = given_statuses t.tx marking.shows.stored in
      let same : Some marking.copy ≡ Some (visible_transaction gs vs o) = sym marking.under_way ∙ get_open vs gs t.opens session o s marking.shows.database marking.opened in
      let is : marking.copy ≡ visible_transaction gs vs o = cc in
      passes_there (is_seen gs o) (version_of table row) (stored vs row.id) found
      (sym (ap is_some (get-table_of (is_seen gs o) vs row.id (whole marking.shows).ids_differ)) ∙ ap (λ (x : OpenTransaction). contains_key x.view row.id) (sym is) ∙ marking.in_copy)

  pub conflicting : conflicts (given_statuses t.tx marking.shows.stored) o.t (version_of table row) ≡ conflict
  conflicting =
      ap (λ (e : Status). not (eqb row.id.t o.t) && (not (eqb row.deleter o.t) && holds e)) (status_given t.tx marking.shows.stored row.deleter marking.shows.next)
      ∙ ap (λ (stored : List Status). conflicts_with t.tx.first stored o.t row) (sym (one_list_shown marking.shows marking.stored marking.has))
      ∙ marking.conflicts

stands_there : {layout : DiskLayout} {old new : PageMap} {table : ℕ} {spot : Spot} {row : StoredRow} {deleter : ℕ} → MarksRowAt layout old new table spot row deleter → StandsAt layout old table spot row
stands_there marks = record { blocks = marks.blocks; has = marks.has; there = marks.there }

mark_puts : (layout : DiskLayout) (old new : PageMap) (table : ℕ) (spot : Spot) (row : StoredRow) (deleter : ℕ) → AreDistinct (versions_on_pages layout old) → table < length layout.schema.tables → MarksRowAt layout old new table spot row deleter
    → Puts (versions_on_pages layout old) (versions_on_pages layout new) (with_deleter (version_of table row) deleter)
mark_puts layout old new table spot row deleter distinct below marks =
    let v : Version = version_of table row in
    let now = with_slot marks.blocks spot (Some (marked row deleter)) in
    let its : versions_of_table layout new table ≡ flat_map (versions_on table) now = table_by_blocks are_read layout new table now marks.marks in
    puts_marked (versions_on_pages layout old) (versions_on_pages layout new) v deleter distinct
    (swaps_table layout old new table (v ∷ []) (with_deleter v deleter ∷ []) below marks.others
    (subst (λ (vs : List Version). Swaps (v ∷ []) (with_deleter v deleter ∷ []) (versions_of_table layout old table) vs) (sym its)
    (its_swap are_read layout old table spot row deleter marks.blocks marks.has marks.there)))

pub mark_shown : (layout : DiskLayout) (old new : PageMap) (t : TransactionsState) (s : DatabaseState) (session table : ℕ) (o : Open) (spot : Spot) (row : StoredRow)
    → IsMarking layout old t s session table o row false → MarksRowAt layout old new table spot row o.t
    → DoesRequest layout new t s (request_entry session table (requests.Mark row.id)) model.Marked
mark_shown layout old new t s session table o spot row marking marks =
    let shows = marking.shows in
    let vs = versions_on_pages layout old in
    let ws = versions_on_pages layout new in
    let gs = given_statuses t.tx shows.stored in
    let v : Version = version_of table row in
    let stands = stands_there marks in
    let there = found layout old t s session table o spot row false marking stands in
    let sees = seen layout old t s session table o spot row false marking stands in
    let free = conflicting layout old t s session table o spot row false marking stands in
    let puts = mark_puts layout old new table spot row o.t (whole shows).ids_differ marking.below marks in
    let same = statuses_stay old new table marks.others in (
      _,
      ap (λ (s : DatabaseState). model.effect s (request_entry session table (requests.Mark row.id))) (sym shows.database)
          ∙ free_effect vs ws gs t.opens session table o v (whole shows) marking.opened there sees free puts,
      record {
        stored = shows.stored;
        has = statuses_kept layout old new shows.stored same shows.has;
        next = shows.next;
        started = started_blocks_kept layout old new same shows.started;
        blocks = blocks_after layout old new table (with_slot marks.blocks spot (Some (marked row o.t))) marks.others marks.marks shows.blocks;
        versions = record {
          places = shows.versions.places;
          own_table = own_table layout new;
          stored = marked_stored vs ws gs t.opens session o v (whole shows) marking.opened there sees puts;
        };
        used = λ id x is. elim (stored_after vs ws (with_deleter v o.t) id x puts is) [
          | inl it ↦ subst (HaveBegun t.tx.first shows.stored) it.1 (record { put = (shows.used row.id v there).put; gone = λ some none. begun_is_used (sym (open_one shows session o marking.opened).given ∙ none) })
          | inr old_one ↦ shows.used id x old_one
        ];
        database = refl;
      },
    )

pub conflict_shown : (layout : DiskLayout) (pages : PageMap) (t : TransactionsState) (s : DatabaseState) (session table : ℕ) (o : Open) (spot : Spot) (row : StoredRow)
    → IsMarking layout pages t s session table o row true → StandsAt layout pages table spot row
    → DoesRequest layout pages (with_failed t session o) s (request_entry session table (requests.Mark row.id)) (model.Conflict row.id)
conflict_shown layout pages t s session table o spot row marking stands =
    let shows = marking.shows in
    let vs = versions_on_pages layout pages in
    let gs = given_statuses t.tx shows.stored in
    let v : Version = version_of table row in
    let there = found layout pages t s session table o spot row true marking stands in
    let sees = seen layout pages t s session table o spot row true marking stands in
    let conflict = conflicting layout pages t s session table o spot row true marking stands in
    let now = set t.opens session (Some (failed_open o)) in (
      _,
      ap (λ (s : DatabaseState). model.effect s (request_entry session table (requests.Mark row.id))) (sym shows.database)
          ∙ conflict_effect vs gs t.opens session table o v (whole shows) marking.opened there sees conflict
          ∙ ap (λ (s : DatabaseState). (s, model.Conflict row.id)) (sym (failed_state vs gs t.opens now session o (failing t session o marking.opened))),
      shows_failed layout pages t s session o shows marking.opened,
    )
