-- What a mark makes of the versions on pages.
use Rattle.std.proofs.Common.{◌≡◌, ℕ, ◌<◌, List, [], ◌∷◌, length, set, Some, sym, ap, subst, ◌∙◌}
use Rattle.std.specs.List.{flat_map}
use Rattle.block_model.specs.declared.place.Spot.{Spot}
use Rattle.store_layout.specs.DiskLayout.{DiskLayout}
use Rattle.page_layout.specs.PageContents.{Slot}
use Rattle.page_layout.specs.PageWrites.{marked}
use Rattle.page_layout.specs.RowBytes.{StoredRow}
use Rattle.page_map.specs.PageMap.{PageMap}
use Rattle.heap_rows.specs.HeapBlocks.{HasBlocks}
use Rattle.heap_rows.specs.RowPlaces.{slot_at, with_slot}
use Rattle.snapshot_core.specs.declared.table.Version.{Version}
use Rattle.snapshot_core.specs.Marks.{with_deleter}
use Rattle.snapshot_core.specs.StoredVersions.{stored}
use Rattle.snapshot_core.specs.VisibleState.{all_versions}
use Rattle.snapshot_core.proofs.Stored.{AreDistinct}
use Rattle.snapshot_core.proofs.Among.{found_mid}
use Rattle.transactions.specs.ShownVersions.{version_of, versions_on, versions_of_table, shown_tables}
use Rattle.transactions.proofs.Swaps.{Swaps}
use Rattle.transactions.proofs.Tables.{AreRead, table_by_blocks}
use Rattle.transactions.proofs.Changes.{swaps_mark}
use Rattle.transactions.proofs.TableSwaps.{swaps_shown}

-- ---- a version that another takes the place of

found_swapped : (vs ws : List Version) (v w : Version) → AreDistinct vs → Swaps (v ∷ []) (w ∷ []) vs ws → stored vs v.row.id ≡ Some v
found_swapped vs ws v w distinct s = ap (λ (vs : List Version). stored vs v.row.id) s.was ∙ found_mid s.front s.back v (subst AreDistinct s.was distinct)

-- the row at a spot of a table, among those of the table
pub its_swap : AreRead → (layout : DiskLayout) (pages : PageMap) (table : ℕ) (spot : Spot) (row : StoredRow) (t : ℕ) (blocks : List (List Slot)) → HasBlocks layout pages table blocks → slot_at blocks spot ≡ Some row
    → Swaps (version_of table row ∷ []) (with_deleter (version_of table row) t ∷ []) (versions_of_table layout pages table) (flat_map (versions_on table) (with_slot blocks spot (Some (marked row t))))
its_swap read layout pages table spot row t blocks has at =
    let now = flat_map (versions_on table) (with_slot blocks spot (Some (marked row t))) in
    subst (λ (vs : List Version). Swaps (version_of table row ∷ []) (with_deleter (version_of table row) t ∷ []) vs now) (sym (table_by_blocks read layout pages table blocks has)) (swaps_mark table blocks spot row t at)

-- the row at a spot of a table is stored
pub stored_there : AreRead → (layout : DiskLayout) (pages : PageMap) (table : ℕ) (spot : Spot) (row : StoredRow) (blocks : List (List Slot)) → AreDistinct (all_versions (shown_tables layout pages)) → table < length layout.schema.tables → HasBlocks layout pages table blocks → slot_at blocks spot ≡ Some row
    → stored (all_versions (shown_tables layout pages)) row.id ≡ Some (version_of table row)
stored_there read layout pages table spot row blocks distinct below has at =
    let v : Version = version_of table row in
    let now = flat_map (versions_on table) (with_slot blocks spot (Some (marked row 0))) in
    found_swapped (all_versions (shown_tables layout pages)) (all_versions (set (shown_tables layout pages) table now)) v (with_deleter v 0) distinct
    (swaps_shown layout pages table (v ∷ []) (with_deleter v 0 ∷ []) now below (its_swap read layout pages table spot row 0 blocks has at))
