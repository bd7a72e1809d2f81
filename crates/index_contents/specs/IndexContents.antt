-- what the pages of an index have
use Rattle.std.specs.Prelude.{ℕ, ◌+◌, ◌%◌, ◌==◌, nat_le, List, length, slice_index, slice_index_or, Option, None, Some, if◌then◌else◌}
use Rattle.block_model.specs.declared.place.Spot.{Spot}
use Rattle.store_layout.specs.DiskLayout.{DiskLayout}
use Rattle.recovery.specs.PageMap.{PageMap, block_at}
use Rattle.index_layout.specs.declared.format.TheConstants.{UNSTARTED, META, MAP, REGULAR, MAP_ENTRIES}
use Rattle.index_layout.specs.IndexPages.{Slot}
use Rattle.index_layout.specs.IndexReading.{entries_of, free_of, map_pages_of, slots_of}
use Rattle.coverage.specs.IndexView.{PageKind, Unstarted, Mapping, Regular, Emptying, Pages, map_page_of}

-- the spot that the map names for each range; the bytes of the tuple at each spot; the kind of each page
pub record IndexContents : Type 0 where
  pub entry : ℕ → Option Spot
  pub bytes : Spot → Option (List ℕ)
  pub pages : Pages

-- the entry of a range on the page of the map where it stands
abbrev pub entry_on : List ℕ → ℕ → Option Spot
entry_on page range = slice_index_or (entries_of page) (range % MAP_ENTRIES) None

-- the entry of a range, which has none on a page that the metapage doesn't count
abbrev pub entry_in : (ℕ → List ℕ) → ℕ → Option Spot
entry_in page range = if nat_le (map_page_of range) (map_pages_of (page 0)) then entry_on (page (map_page_of range)) range else None

-- the tuple in a slot of a page
abbrev pub tuple_on : List ℕ → ℕ → Slot
tuple_on page slot = slice_index_or (slots_of page) slot None

-- how many bytes may stand in place of a tuple, besides which so many are free; none where there is no tuple
abbrev pub beside : ℕ → Slot → ℕ
beside free None = 0
beside free (Some tuple) = free + length tuple

-- how many bytes may stand in place of the tuple in a slot of a page; on one that takes no tuples none may
abbrev pub room_in_place : List ℕ → ℕ → ℕ
room_in_place page slot = if slice_index page 0 == REGULAR then beside (free_of (slots_of page)) (tuple_on page slot) else 0

-- block 0 is the metapage, and the others of the map are pages of entries
abbrev pub map_kind : ℕ → ℕ
map_kind block = if block == 0 then META else MAP

-- A page takes tuples, or isn't started, or is of the map. Any other takes none, as one that is being emptied for the map.
abbrev pub kind_at : ℕ → ℕ → PageKind
kind_at block kind =
    if kind == REGULAR then Regular
    else (if kind == UNSTARTED then Unstarted
    else (if kind == map_kind block then Mapping
    else Emptying))

-- the kind of each page, by the page of each block, and how many there may be
abbrev pub pages_in : ℕ → (ℕ → List ℕ) → Pages
pages_in limit page = record {
  kind = λ block. kind_at block (slice_index (page block) 0);
  map_pages = map_pages_of (page 0);
  limit = limit;
}

-- what an index has, by the page of each block
abbrev pub contents_in : ℕ → (ℕ → List ℕ) → IndexContents
contents_in limit page = record {
  entry = λ range. entry_in page range;
  bytes = λ spot. tuple_on (page spot.block) spot.slot;
  pages = pages_in limit page;
}

-- the indexes come behind the statuses and the tables
abbrev pub relation_of : DiskLayout → ℕ → ℕ
relation_of layout index = length layout.schema.tables + index + 1

-- the page of each block of an index
abbrev pub index_page : DiskLayout → PageMap → ℕ → ℕ → List ℕ
index_page layout pages index block = block_at pages (relation_of layout index) block

-- what an index of a store has
unfoldable pub contents : DiskLayout → PageMap → ℕ → IndexContents
contents layout pages index = contents_in layout.sizes.index_blocks (index_page layout pages index)
