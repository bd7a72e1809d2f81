-- A put, by the relation that the code found.
use Rattle.std.proofs.Common.{◌≡◌, ℕ, ◌<◌, List, length, ap, subst, ◌∙◌}
use Rattle.std.specs.Prelude.{Option, None, Some}
use Rattle.store_layout.specs.DiskLayout.{DiskLayout}
use Rattle.disk_trait.specs.Told.{Told}
use Rattle.page_layout.specs.declared.page.Form.{Form}
use Rattle.page_layout.specs.RowBytes.{StoredRow}
use Rattle.page_layout.specs.PageContents.{Slot}
use Rattle.page_layout.specs.PageWrites.{RowHasBytes}
use Rattle.page_map.specs.FirstRoom.{IsFirstRoom}
use Rattle.page_map.specs.Forms.{form_of}
use Rattle.page_map.specs.Keeps.{Tells}
use Rattle.page_map.specs.PageMap.{PageMap, View, block_at, block_limit}
use Rattle.heap_rows.specs.Heaps.{relation_of, form_at, slots_a_page}
use Rattle.heap_rows.specs.HeapBlocks.{HasBlocks}
use Rattle.heap_rows.specs.IsTableFull.{IsTableFull}
use Rattle.heap_rows.specs.LeavesOthers.{LeavesOtherPages}
use Rattle.heap_rows.specs.RoomOnPage.{PutsRow}
use Rattle.heap_rows.specs.RowPlaces.{ChangesSlot, place_for, slot_at, with_row}
use Rattle.heap_rows.proofs.Heaps.{form_found, limit_is}
use Rattle.heap_rows.proofs.TableBlocks.{IsHeap, IsRoomOf, OneList, full_blocks, full_not_first, put-blocks, put-place, room_of}
use Rattle.heap_rows.proofs.Leaves.{block_leaves}
use Rattle.heap_rows.proofs.Spots.{put-slot}

pub record Found (layout : DiskLayout) (table relation : ℕ) : Type 0 where
  pub there : table < length layout.schema.tables
  pub number : relation ≡ relation_of table
  pub heap : IsHeap layout table

pub found_of : (layout known : DiskLayout) (table relation : ℕ) → known ≡ layout → table < length layout.schema.tables → relation ≡ relation_of table → 0 < slots_a_page known table → OneList → Found layout table relation
found_of layout known table relation same there number some one =
    record { there = there; number = number; heap = record { some = subst (λ (l : DiskLayout). 0 < slots_a_page l table) same some; one = one } }

pub form_is : {layout : DiskLayout} {table relation : ℕ} → Found layout table relation → form_of layout relation ≡ form_at layout table
form_is {layout} {table} {relation} found = ap (form_of layout) found.number ∙ form_found layout table found.there

-- the first room, as the page store answers it
abbrev pub FirstRoom : DiskLayout → PageMap → ℕ → Option ℕ → Type 0
FirstRoom layout pages relation first = IsFirstRoom (form_of layout relation) (block_limit layout relation) 0 0 (block_at pages relation) first

room_in : {layout : DiskLayout} {table relation : ℕ} (found : Found layout table relation) (pages : PageMap) (first : Option ℕ) → FirstRoom layout pages relation first → IsRoomOf layout pages table first
room_in {layout} {table} {relation} found pages first room =
    room_of layout pages table relation (form_of layout relation) (block_limit layout relation) first found.number (form_is found) (limit_is layout table relation found.number found.there) room

-- the row was put into the page of the block
abbrev PutsIn : DiskLayout → ℕ → PageMap → PageMap → ℕ → ℕ → StoredRow → Type 0
PutsIn layout relation old new block slot row = PutsRow (form_of layout relation) (block_at old relation block) row slot (block_at new relation block)

puts_in : {layout : DiskLayout} {table relation : ℕ} (found : Found layout table relation) (old new : PageMap) (block slot : ℕ) (row : StoredRow) → PutsIn layout relation old new block slot row
    → PutsRow (form_at layout table) (block_at old (relation_of table) block) row slot (block_at new (relation_of table) block)
puts_in {layout} {table} {relation} found old new block slot row puts =
    subst (λ (r : ℕ). PutsRow (form_at layout table) (block_at old r block) row slot (block_at new r block)) found.number
    (subst (λ (f : Form). PutsRow f (block_at old relation block) row slot (block_at new relation block)) (form_is found) puts)

pub place_found : {layout : DiskLayout} {table relation : ℕ} {old : PageMap} {blocks : List (List Slot)} (found : Found layout table relation) (has : HasBlocks layout old table blocks) (new : PageMap) (block slot : ℕ) (row : StoredRow)
    → FirstRoom layout old relation (Some block) → PutsIn layout relation old new block slot row → place_for layout.sizes.heap_blocks blocks ≡ Some (record { block = block; slot = slot })
place_found {layout} {table} {relation} {old} found has new block slot row room puts =
    put-place found.heap has block slot (room_in found old (Some block) room) (λ slots once. (puts_in found old new block slot row puts slots once).0)

pub slots-found : {layout : DiskLayout} {table relation : ℕ} {old : PageMap} {blocks : List (List Slot)} (found : Found layout table relation) (has : HasBlocks layout old table blocks) (new : PageMap) (block slot : ℕ) (row : StoredRow)
    → FirstRoom layout old relation (Some block) → PutsIn layout relation old new block slot row
    → (slot_at blocks (record { block = block; slot = slot }) ≡ None) × ChangesSlot blocks (with_row (slots_a_page layout table) blocks (record { block = block; slot = slot }) row) (record { block = block; slot = slot }) (Some row)
slots-found {layout} {table} {relation} {old} {blocks} found has new block slot row room puts =
    put-slot layout.sizes.heap_blocks (slots_a_page layout table) blocks (record { block = block; slot = slot }) row found.heap.some (place_found found has new block slot row room puts)

pub blocks_found : {D : Type 0} {table relation : ℕ} {blocks : List (List Slot)} (told : D → Told) (old new : View D) (found : Found old.layout table relation) (has : HasBlocks old.layout old.pages table blocks) (block slot : ℕ) (row : StoredRow) → Tells told old
    → FirstRoom old.layout old.pages relation (Some block) → LeavesOtherPages told (record { relation = relation; block = block }) old new → PutsIn old.layout relation old.pages new.pages block slot row
    → HasBlocks old.layout new.pages table (with_row (slots_a_page old.layout table) blocks (record { block = block; slot = slot }) row)
blocks_found {D} {table} {relation} {blocks} told old new found has block slot row tells room leaves puts =
    put-blocks new.pages found.heap has block slot row (room_in found old.pages (Some block) room) (block_leaves told table (record { relation = relation; block = block }) old new leaves tells)
    (λ slots once. (puts_in found old.pages new.pages block slot row puts slots once).1)

pub full_found : {layout : DiskLayout} {table relation : ℕ} {pages : PageMap} {blocks : List (List Slot)} (found : Found layout table relation) (has : HasBlocks layout pages table blocks) → FirstRoom layout pages relation None → IsTableFull layout.sizes.heap_blocks blocks
full_found {layout} {table} {relation} {pages} found has room = full_blocks found.heap has (room_in found pages None room)

pub not_full_found : {layout : DiskLayout} {table relation : ℕ} {pages : PageMap} {blocks : List (List Slot)} (found : Found layout table relation) (has : HasBlocks layout pages table blocks) (block : ℕ) → FirstRoom layout pages relation (Some block)
    → IsTableFull layout.sizes.heap_blocks blocks → ⊥
not_full_found {layout} {table} {relation} {pages} found has block room full = full_not_first found.heap has block (room_in found pages (Some block) room) full

-- the bytes of a row are of the relation's form
pub bytes_of : (form other : Form) (bytes : List ℕ) (row : StoredRow) → form ≡ other → RowHasBytes form bytes row → RowHasBytes other bytes row
bytes_of form other bytes row same has = subst (λ (f : Form). RowHasBytes f bytes row) same has
