-- where rows go from a table that nobody sees, the pages show the same database
use Rattle.std.proofs.Common.{◌≡◌, ℕ, List, [], length, None, Some, refl, sym, subst, ◌∙◌, inl, inr}
use Rattle.std.specs.List.{flat_map, range_with_len}
use Rattle.std.proofs.lemmas.Bool.{cases_eq}
use Rattle.block_model.specs.declared.place.Spot.{Spot}
use Rattle.block_model.specs.DatabaseState.{DatabaseState}
use Rattle.store_layout.specs.DiskLayout.{DiskLayout}
use Rattle.page_layout.specs.PageContents.{Slot}
use Rattle.page_layout.specs.RowBytes.{StoredRow}
use Rattle.page_map.specs.PageMap.{PageMap}
use Rattle.heap_rows.specs.HeapBlocks.{slots_of}
use Rattle.heap_rows.specs.RowPlaces.{slot_at}
use Rattle.snapshot_core.specs.declared.statuses.Status.{Status}
use Rattle.snapshot_core.specs.declared.table.Version.{Version}
use Rattle.transactions.specs.ShownVersions.{version_of, versions_in, versions_of_table, versions_on}
use Rattle.transactions.proofs.Tables.{own_table, same_versions, table_by_blocks}
use Rattle.tx_table.specs.Kept.{started_blocks_kept, statuses_kept}
use Rattle.transactions.specs.GivenStatuses.{given_statuses}
use Rattle.transactions.specs.ShowsDatabase.{ShowsDatabase}
use Rattle.transactions.specs.TransactionsState.{TransactionsState}
use Rattle.transactions.proofs.PageSlots.{are_read}
use Rattle.transactions.proofs.Puts.{blocks_after, statuses_stay, tables_stay}
use Rattle.transactions.proofs.Shown.{versions_on_pages, whole}
use Rattle.session_parts.specs.RowsFollow.{DropsRows}
use Rattle.session_maintenance.proofs.Thinned.{Goes, IsUnseenVersion, NoneLeft, Thins, same_state, still_stored, thins_lists, thins_same, thins_stored, thins_tables}

module _ (layout : DiskLayout) (old new : PageMap) (t : TransactionsState) (d : DatabaseState) (shows : ShowsDatabase layout old t d) (table : ℕ) (drops : DropsRows layout old new table)
    (unseen : (spot : Spot) (row : StoredRow) → slot_at drops.blocks spot ≡ Some row → slot_at drops.later spot ≡ None
    → IsUnseenVersion (given_statuses t.tx shows.stored) t.opens (version_of table row)) where
  abbrev statuses : List Status
  statuses = given_statuses t.tx shows.stored

  abbrev Gone : Version → Type 0
  Gone = IsUnseenVersion statuses t.opens

  all_gone : (spot : Spot) (slot : Slot) → slot_at drops.blocks spot ≡ slot → slot_at drops.later spot ≡ None → Thins Gone (versions_in table slot) []
  all_gone spot None is none = NoneLeft
  all_gone spot (Some row) is none = Goes (version_of table row) [] [] (unseen spot row is none) NoneLeft

  slot_thins : (spot : Spot) → Thins Gone (versions_in table (slot_at drops.blocks spot)) (versions_in table (slot_at drops.later spot))
  slot_thins spot = elim (drops.slots spot) [
    | inl same ↦ subst (λ (s : Slot). Thins Gone (versions_in table (slot_at drops.blocks spot)) (versions_in table s)) (sym same) (thins_same Gone (versions_in table (slot_at drops.blocks spot)))
    | inr none ↦ subst (λ (s : Slot). Thins Gone (versions_in table (slot_at drops.blocks spot)) (versions_in table s)) (sym none) (all_gone spot (slot_at drops.blocks spot) refl none)
  ]

  block_thins : (b : ℕ) → Thins Gone (versions_on table (slots_of drops.blocks b)) (versions_on table (slots_of drops.later b))
  block_thins b = thins_lists Gone (versions_in table) None refl (slots_of drops.blocks b) (slots_of drops.later b) (λ k. slot_thins (record { block = b; slot = k }))

  table_thins : Thins Gone (versions_of_table layout old table) (versions_of_table layout new table)
  table_thins =
      subst (λ (l : List Version). Thins Gone l (versions_of_table layout new table)) (sym (table_by_blocks are_read layout old table drops.blocks drops.has))
      (subst (λ (l : List Version). Thins Gone (flat_map (versions_on table) drops.blocks) l) (sym (table_by_blocks are_read layout new table drops.later drops.leaves))
      (thins_lists Gone (versions_on table) [] refl drops.blocks drops.later block_thins))

  each_table : (k : ℕ) → Thins Gone (versions_of_table layout old k) (versions_of_table layout new k)
  each_table k = elim (cases_eq k table) [
    | inl same ↦ subst (λ (n : ℕ). Thins Gone (versions_of_table layout old n) (versions_of_table layout new n)) (sym same) table_thins
    | inr apart ↦ subst (λ (l : List Version). Thins Gone (versions_of_table layout old k) l) (sym (same_versions layout old new k (tables_stay old new table k drops.others apart)))
        (thins_same Gone (versions_of_table layout old k))
  ]

  all_thins : Thins Gone (versions_on_pages layout old) (versions_on_pages layout new)
  all_thins = thins_tables Gone (versions_of_table layout old) (versions_of_table layout new) (range_with_len 0 (length layout.schema.tables)) each_table

  pub dropped_shown : ShowsDatabase layout new t d
  dropped_shown =
      let same = statuses_stay old new table drops.others in
      let vs = versions_on_pages layout old in
      let ws = versions_on_pages layout new in
      record {
        stored = shows.stored;
        has = statuses_kept layout old new shows.stored same shows.has;
        next = shows.next;
        started = started_blocks_kept layout old new same shows.started;
        blocks = blocks_after layout old new table drops.later drops.others drops.leaves shows.blocks;
        versions = record { places = shows.versions.places; own_table = own_table layout new; stored = still_stored statuses t.opens vs ws all_thins (whole shows) };
        used = λ id v is. shows.used id v (thins_stored Gone vs ws id v all_thins (whole shows).ids_differ is);
        database = same_state statuses t.opens vs ws all_thins ∙ shows.database;
      }
