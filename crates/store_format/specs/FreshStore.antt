-- the bytes of a store that was just made
use Rattle.std.specs.Prelude.{◌≡◌, ◌≢◌, ◌⊎◌, ℕ, ◌==◌, nat_le, if◌then◌else◌, IsTrue, List, ◌++◌, length, take, replicate, slice_index, None}
use Rattle.block_model.specs.declared.limits.TheConstants.{PAGE_SIZE, PAGE_ROOM}
use Rattle.block_model.specs.declared.place.Place.{Place}
use Rattle.store_layout.specs.DiskLayout.{DiskLayout, IsPlace, page_offset, area_offset}
use Rattle.byte_fields.specs.Fields.{field_at}
use Rattle.store_format.specs.declared.page.TheConstants.{OPEN}
use Rattle.store_format.specs.ControlPage.{control_bytes}
use Rattle.page_layout.specs.declared.format.TheConstants.{STATUS}
use Rattle.page_layout.specs.PageContents.{header_bytes}
use Rattle.index_layout.specs.declared.format.TheConstants.{MAP_ENTRIES}
use Rattle.index_layout.specs.IndexPages.{meta_bytes, map_bytes}
use Rattle.disk_trait.specs.Told.{Told}

-- a page that isn't started
unfoldable pub unstarted_page : List ℕ
unstarted_page = replicate PAGE_SIZE 0

-- a page of statuses on which each is unused
unfoldable pub unused_statuses : List ℕ
unused_statuses = header_bytes STATUS ++ replicate PAGE_ROOM 0

-- of an index, block 0 is the metapage with one map page, and block 1 that page, without entries
abbrev pub fresh_index_page : ℕ → List ℕ
fresh_index_page block =
    if block == 0 then meta_bytes 1 else (if block == 1 then map_bytes (replicate MAP_ENTRIES None) else unstarted_page)

-- each page of statuses is started, and no page of a table is; relation 0 is the statuses, and the tables come before the indexes
abbrev pub fresh_page : DiskLayout → Place → List ℕ
fresh_page layout place =
    if place.relation == 0 then unused_statuses
    else (if nat_le place.relation (length layout.schema.tables) then unstarted_page else fresh_index_page place.block)

-- the page that stands there is a new store's
abbrev pub HasFreshPage : DiskLayout → List ℕ → Place → Type 0
HasFreshPage layout disk place = field_at disk (page_offset layout place) PAGE_SIZE ≡ fresh_page layout place

-- the gate is open, area 0 is chosen, each area of the log is without frames, and each page is a new store's
pub record IsFormatted (layout : DiskLayout) (disk : List ℕ) : Type 0 where
  pub control : take PAGE_SIZE disk ≡ control_bytes layout OPEN 0
  pub first_area : slice_index disk (area_offset layout 0) ≡ 0
  pub other_area : slice_index disk (area_offset layout 1) ≡ 0
  pub pages : (place : Place) → IsPlace layout place → HasFreshPage layout disk place

-- the gate isn't open: no store is there
abbrev pub IsClosed : List ℕ → Type 0
IsClosed image = slice_index image 0 ≢ OPEN

-- it was there before, or is no store, or is the new store
abbrev pub IsOldOrNew : DiskLayout → Told → List ℕ → Type 0
IsOldOrNew layout old image = IsTrue (old.now image) ⊎ (IsClosed image ⊎ IsFormatted layout image)
