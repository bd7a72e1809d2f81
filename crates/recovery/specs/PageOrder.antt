-- the order in which the pages of a relation stand
use Rattle.std.specs.Prelude.{◌≡◌, ◌≢◌, ◌⊎◌, ℕ, ◌+◌, ◌<◌, ◌≤◌, List, [], ◌∷◌, length, slice_index}
use Rattle.block_model.specs.declared.limits.TheConstants.{PAGE_SIZE}
use Rattle.block_model.specs.Padded.{padded}
use Rattle.byte_fields.specs.Fields.{field_at, number_of}
use Rattle.store_layout.specs.DiskLayout.{DiskLayout}
use Rattle.page_map.specs.PageMap.{PageMap, block_at, block_limit}

-- an empty page of that kind, of which 0 is one that isn't started
abbrev pub empty_page : ℕ → List ℕ
empty_page kind = padded PAGE_SIZE 0 (kind ∷ [])

-- the kind of a page, 0 where it isn't started
abbrev pub kind_of : List ℕ → ℕ
kind_of page = slice_index page 0

-- the number of an index's map pages, behind the header of its metapage
abbrev pub map_pages : List ℕ → ℕ
map_pages metapage = number_of (field_at metapage 32 4)

-- of the blocks below the limit, the first ones are started
abbrev pub StartsFirst : ℕ → (ℕ → List ℕ) → Type 0
StartsFirst limit page = (before block : ℕ) → before < block → block < limit → kind_of (page block) ≢ 0 → kind_of (page before) ≢ 0

-- a page of tuples, one that is being evacuated, or one that isn't started
abbrev pub IsOfTuples : List ℕ → Type 0
IsOfTuples page = (kind_of page ≡ 5) ⊎ ((kind_of page ≡ 6) ⊎ (kind_of page ≡ 0))

-- Block 0 of an index is its metapage, and no other is one. As many blocks behind it as it says, of which there are 1 or more,
-- are map pages. The one behind these may be a map page too, left over from a growth, without entries; all others have tuples or
-- aren't started.
pub record IsIndexInOrder (limit : ℕ) (page : ℕ → List ℕ) : Type 0 where
  pub first : StartsFirst limit page
  pub metapage : kind_of (page 0) ≡ 3
  pub some_map : 1 ≤ map_pages (page 0)
  pub few_maps : map_pages (page 0) < limit
  pub maps : (block : ℕ) → 1 ≤ block → block ≤ map_pages (page 0) → kind_of (page block) ≡ 4
  pub next : map_pages (page 0) + 1 < limit → IsOfTuples (page (map_pages (page 0) + 1)) ⊎ (page (map_pages (page 0) + 1) ≡ empty_page 4)
  pub others : (block : ℕ) → map_pages (page 0) + 1 < block → block < limit → IsOfTuples (page block)

-- each page of statuses is started, the started pages of a table are its first ones, and each index is in order
pub record AreInOrder (layout : DiskLayout) (pages : PageMap) : Type 0 where
  pub statuses : (block : ℕ) → block < layout.sizes.status_blocks → kind_of (block_at pages 0 block) ≡ 1
  pub tables : (table : ℕ) → table < length layout.schema.tables → StartsFirst (block_limit layout (1 + table)) (block_at pages (1 + table))
  pub indexes : (index : ℕ) → index < length layout.schema.indexes → IsIndexInOrder layout.sizes.index_blocks (block_at pages (1 + length layout.schema.tables + index))
