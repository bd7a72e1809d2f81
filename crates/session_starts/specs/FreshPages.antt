-- the pages of a store that was just made
use Rattle.std.specs.Prelude.{◌⊎◌, ℕ, IsTrue, List, ◌∷◌, ◌++◌, map, replicate, take}
use Rattle.std.specs.List.{range_with_len}
use Rattle.block_model.specs.declared.limits.TheConstants.{PAGE_SIZE}
use Rattle.store_layout.specs.DiskLayout.{DiskLayout}
use Rattle.store_format.specs.ControlPage.{HasControl}
use Rattle.disk_trait.specs.Told.{Told}
use Rattle.page_map.specs.PageMap.{PageMap}
use Rattle.recovery.specs.Opens.{OpensAs}
use Rattle.store_format.specs.FreshStore.{fresh_index_page, unstarted_page, unused_statuses}

-- each status is unused, no page of a table is started, and each index has a metapage and one page of the map
unfoldable pub fresh_pages : DiskLayout → PageMap
fresh_pages layout =
    replicate layout.sizes.status_blocks unused_statuses
    ∷ map (λ _. replicate layout.sizes.heap_blocks unstarted_page) layout.schema.tables
    ++ map (λ _. map fresh_index_page (range_with_len 0 layout.sizes.index_blocks)) layout.schema.indexes

-- no layout has the control page
abbrev pub IsNoStore : List ℕ → Type 0
IsNoStore image = (layout : DiskLayout) → HasControl layout (take PAGE_SIZE image) → ⊥

-- it was there before, or is no store, or opens to the fresh pages
abbrev pub IsOldOrFresh : DiskLayout → Told → List ℕ → Type 0
IsOldOrFresh layout old image = IsTrue (old.now image) ⊎ (IsNoStore image ⊎ OpensAs layout image (fresh_pages layout))
