-- the pages of a store of which some are held in memory
use Rattle.std.specs.Prelude.{ℕ, suc, List, [], ◌∷◌, map, Option, unwrap_or}
use Rattle.std.specs.Option.{option_map}
use Rattle.std.specs.List.{range_with_len}
use Rattle.block_model.specs.declared.place.Place.{Place}
use Rattle.store_layout.specs.DiskLayout.{DiskLayout, relation_blocks}
use Rattle.buffer_pool.specs.PoolState.{PoolState, held_at}
use Rattle.page_map.specs.PageMap.{PageMap}
use Rattle.recovery.specs.Opens.{disk_page}
use Rattle.recovery.specs.PageNumbers.{page_number}

-- the bytes of the page of that number, where it is held
abbrev pub content_at : PoolState → ℕ → Option (List ℕ)
content_at pool number = option_map (λ held. held.content) (held_at pool number)

-- the page at a place: as the pool holds it, else as it stands on the disk
abbrev pub shown_page : DiskLayout → PoolState → List ℕ → Place → List ℕ
shown_page layout pool contents place = unwrap_or (content_at pool (page_number layout place)) (disk_page layout contents place)

-- the pages of relations from that number on, of which each may have so many
abbrev pub pages_from : (Place → List ℕ) → ℕ → List ℕ → PageMap
pages_from page relation [] = []
pages_from page relation (limit ∷ limits) =
    map (λ block. page (record { relation = relation; block = block })) (range_with_len 0 limit) ∷ pages_from page (suc relation) limits

-- those of all places of the layout
unfoldable pub shown_pages : DiskLayout → PoolState → List ℕ → PageMap
shown_pages layout pool contents = pages_from (shown_page layout pool contents) 0 (relation_blocks layout)
