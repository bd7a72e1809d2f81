-- A row that a session's transaction puts.
use Rattle.std.proofs.Common.{◌≡◌, ◌≢◌, ℕ, ◌+◌, ◌<◌, List, [], ◌∷◌, ◌++◌, length, set, None, Some, inl, inr, refl, sym, ap, subst, ◌∙◌, arith}
use Rattle.std.specs.List.{flat_map}
use Rattle.std.proofs.lemmas.Bool.{cases_eq}
use Rattle.block_model.specs.declared.place.Spot.{Spot}
use Rattle.block_model.specs.declared.request.Request.TheVariants as requests
use Rattle.block_model.specs.declared.row.RowId.{RowId}
use Rattle.block_model.specs.declared.value.Value.{Value}
use Rattle.block_model.specs.DatabaseState.{DatabaseState}
use Rattle.block_model.specs.RequestEffect as model
use Rattle.store_layout.specs.StatementRequests.{request_entry}
use Rattle.store_layout.specs.DiskLayout.{DiskLayout}
use Rattle.page_layout.specs.PageContents.{Slot}
use Rattle.page_layout.specs.RowBytes.{StoredRow}
use Rattle.page_map.specs.PageMap.{PageMap, block_at}
use Rattle.heap_rows.specs.Heaps.{relation_of, slots_a_page}
use Rattle.heap_rows.specs.HeapBlocks.{HasBlocks}
use Rattle.heap_rows.specs.RowPlaces.{new_row, with_row}
use Rattle.snapshot_core.specs.declared.table.Version.{Version}
use Rattle.snapshot_core.specs.declared.sessions.Open.{Open}
use Rattle.snapshot_core.specs.SessionChanges.{with_next_k}
use Rattle.snapshot_core.specs.StoredVersions.{stored, transaction_of}
use Rattle.snapshot_core.proofs.Stored.{AreDistinct, Puts, stored_after}
use Rattle.snapshot_core.proofs.Among.{puts_new}
use Rattle.snapshot_core.proofs.Copies.{Becomes, rewritten, still_all}
use Rattle.snapshot_core.proofs.Puttings.{new_is_absent, new_version, put_effect, put_stored}
use Rattle.transactions.specs.ShownVersions.{version_of, versions_of_table, versions_on}
use Rattle.transactions.proofs.Changes.{swaps_put}
use Rattle.transactions.proofs.TableSwaps.{swaps_table}
use Rattle.transactions.proofs.Swaps.{Swaps}
use Rattle.transactions.proofs.Tables.{own_table, table_by_blocks}
use Rattle.tx_table.specs.Kept.{HasSameStatusPages, started_blocks_kept, statuses_kept}
use Rattle.transactions.specs.GivenStatuses.{given_statuses}
use Rattle.transactions.specs.ShowsDatabase.{DoesRequest, HaveBegun, ShowsDatabase}
use Rattle.transactions.specs.StoredRows.{OtherRelationsStay, PutsRow}
use Rattle.transactions.specs.TransactionsState.{TransactionsState, with_row_counted}
use Rattle.transactions.proofs.PageSlots.{are_read}
use Rattle.transactions.proofs.Shown.{begun_is_used, blocks_kept, open_one, versions_on_pages, whole}

-- ---- the pages of other relations

-- the statuses are no table
pub statuses_stay : (old new : PageMap) (table : ℕ) → OtherRelationsStay old new table → HasSameStatusPages old new
statuses_stay old new table others block = others (record { relation = 0; block = block }) (λ e. omega (arith, e))

pub tables_stay : (old new : PageMap) (table other : ℕ) → OtherRelationsStay old new table → other ≢ table → (block : ℕ) → block_at new (relation_of other) block ≡ block_at old (relation_of other) block
tables_stay old new table other others apart block = others (record { relation = relation_of other; block = block }) (λ e. apart (let same : other + 1 ≡ table + 1 = e in omega arith))

-- each table has blocks, where one has these
pub blocks_after : (layout : DiskLayout) (old new : PageMap) (table : ℕ) (now : List (List Slot)) → OtherRelationsStay old new table → HasBlocks layout new table now
    → ((other : ℕ) → other < length layout.schema.tables → (blocks : List (List Slot)) × HasBlocks layout old other blocks)
    → (other : ℕ) → other < length layout.schema.tables → (blocks : List (List Slot)) × HasBlocks layout new other blocks
blocks_after layout old new table now others has blocks other below = elim (cases_eq other table) [
  | inl same ↦ subst (λ (k : ℕ). (blocks : List (List Slot)) × HasBlocks layout new k blocks) (sym same) (now, has)
  | inr apart ↦ let was = blocks other below in (was.0, blocks_kept layout old new other was.0 (tables_stay old new table other others apart) was.1)
]

-- ---- one version more

swaps_row : (layout : DiskLayout) (old new : PageMap) (table : ℕ) (spot : Spot) (row : StoredRow) → table < length layout.schema.tables → PutsRow layout old new table spot row
    → Swaps [] (version_of table row ∷ []) (versions_on_pages layout old) (versions_on_pages layout new)
swaps_row layout old new table spot row below put =
    let q : List Version = version_of table row ∷ [] in
    let now = with_row (slots_a_page layout table) put.blocks spot row in
    swaps_table layout old new table [] q below put.others
    (subst (λ (vs : List Version). Swaps [] q vs (versions_of_table layout new table)) (sym (table_by_blocks are_read layout old table put.blocks put.has))
    (subst (λ (vs : List Version). Swaps [] q (flat_map (versions_on table) put.blocks) vs) (sym (table_by_blocks are_read layout new table now put.takes))
    (swaps_put table (slots_a_page layout table) put.blocks spot row put.fills)))

puts_swapped : (vs ws : List Version) (v : Version) → AreDistinct vs → stored vs v.row.id ≡ None → Swaps [] (v ∷ []) vs ws → Puts vs ws v
puts_swapped vs ws v distinct none s =
    subst (λ (vs : List Version). Puts vs ws v) (sym s.was)
    (subst (λ (ws : List Version). Puts (s.front ++ s.back) ws v) (sym s.is)
    (puts_new s.front s.back v (subst AreDistinct s.was distinct) (ap (λ (vs : List Version). stored vs v.row.id) (sym s.was) ∙ none)))

-- the id of the row that an open transaction puts
abbrev pub next_id : Open → RowId
next_id o = record { t = o.t; k = o.next_k }

pub put_shown : (layout : DiskLayout) (old new : PageMap) (t : TransactionsState) (s : DatabaseState) (session table : ℕ) (o : Open) (spot : Spot) (values : List Value)
    → ShowsDatabase layout old t s → transaction_of t.opens session ≡ Some o → table < length layout.schema.tables → PutsRow layout old new table spot (new_row (next_id o) values)
    → DoesRequest layout new (with_row_counted t session o) s (request_entry session table (requests.Put values)) (model.Inserted (next_id o))
put_shown layout old new t s session table o spot values shows was below put =
    let vs = versions_on_pages layout old in
    let ws = versions_on_pages layout new in
    let gs = given_statuses t.tx shows.stored in
    let v = new_version o table values in
    let more = Some (with_next_k o (o.next_k + 1)) in
    let now = set t.opens session more in
    let at : Becomes t.opens now session more = rewritten t.opens now session o more was refl in
    let puts : Puts vs ws v = puts_swapped vs ws v (whole shows).ids_differ (new_is_absent vs gs o ((whole shows).under_way session o was)) (swaps_row layout old new table spot (new_row (next_id o) values) below put) in (
      _,
      put_effect vs ws gs t.opens now session table values o s shows.database (whole shows) was at puts,
      record {
        stored = shows.stored;
        has = statuses_kept layout old new shows.stored (statuses_stay old new table put.others) shows.has;
        next = shows.next;
        started = started_blocks_kept layout old new (statuses_stay old new table put.others) shows.started;
        blocks = blocks_after layout old new table (with_row (slots_a_page layout table) put.blocks spot (new_row (next_id o) values)) put.others put.takes shows.blocks;
        versions = record {
          places = still_all t.opens now session more shows.versions.places refl;
          own_table = own_table layout new;
          stored = put_stored vs ws gs t.opens now session table values o (whole shows) was at puts;
        };
        used = λ id x there. elim (stored_after vs ws v id x puts there) [
          | inl it ↦ subst (HaveBegun t.tx.first shows.stored) it.1 (record { put = λ none. begun_is_used (sym (open_one shows session o was).given ∙ none); gone = λ some. absurd (some refl) })
          | inr old_one ↦ shows.used id x old_one
        ];
        database = refl;
      },
    )
