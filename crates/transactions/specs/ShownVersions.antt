-- the row versions that stand on heap pages
use Rattle.std.specs.Prelude.{ℕ, List, [], ◌∷◌, length, map, None, Some}
use Rattle.std.specs.List.{flat_map, range_with_len}
use Rattle.store_layout.specs.DiskLayout.{DiskLayout}
use Rattle.page_layout.specs.PageContents.{Slot}
use Rattle.page_layout.specs.RowBytes.{StoredRow}
use Rattle.page_layout.specs.SlotsOnPage.{slots_on}
use Rattle.page_map.specs.PageMap.{PageMap, block_at}
use Rattle.heap_rows.specs.Heaps.{form_at, relation_of}
use Rattle.snapshot_core.specs.declared.table.Version.{Version}

-- a row of the table of that number, as it is stored
abbrev pub version_of : ℕ → StoredRow → Version
version_of table row = record { row = record { table = table; id = row.id; values = row.values }; deleter = row.deleter }

-- a free slot has none
abbrev pub versions_in : ℕ → Slot → List Version
versions_in table None = []
versions_in table (Some row) = version_of table row ∷ []

-- those in these slots, in order of slot
abbrev pub versions_on : ℕ → List Slot → List Version
versions_on table slots = flat_map (versions_in table) slots

-- those of a block of the table, read from the bytes of its page
abbrev pub versions_of_block : DiskLayout → PageMap → ℕ → ℕ → List Version
versions_of_block layout pages table block = versions_on table (slots_on (form_at layout table) (block_at pages (relation_of table) block))

-- those of the table, block by block
unfoldable pub versions_of_table : DiskLayout → PageMap → ℕ → List Version
versions_of_table layout pages table = flat_map (versions_of_block layout pages table) (range_with_len 0 layout.sizes.heap_blocks)

-- those of each table
abbrev pub shown_tables : DiskLayout → PageMap → List (List Version)
shown_tables layout pages = map (versions_of_table layout pages) (range_with_len 0 (length layout.schema.tables))
