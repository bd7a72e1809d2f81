-- The row at a spot, on the page that is read for it.
use Rattle.std.proofs.Common.{◌≡◌, ℕ, List, get_or, sym, subst}
use Rattle.std.specs.Prelude.{None, Some}
use Rattle.block_model.specs.declared.place.Spot.{Spot}
use Rattle.store_layout.specs.DiskLayout.{DiskLayout}
use Rattle.page_layout.specs.declared.page.Form.{Form}
use Rattle.page_layout.specs.PageContents.{Slot, HasSlots, row_bytes_in}
use Rattle.page_layout.specs.RowBytes.{StoredRow}
use Rattle.page_layout.specs.SlotLaws.{free_read, free_slot}
use Rattle.page_map.specs.PageMap.{PageMap, block_at}
use Rattle.heap_rows.specs.Heaps.{relation_of, form_at}
use Rattle.heap_rows.specs.HeapBlocks.{HasBlocks, slots_of}
use Rattle.heap_rows.specs.RowPlaces.{slot_at}
use Rattle.heap_rows.proofs.TableBlocks.{in_use}

-- the page has the slots of the block
pub slots_read : {layout : DiskLayout} {table : ℕ} {pages : PageMap} {blocks : List (List Slot)} (has : HasBlocks layout pages table blocks) (spot : Spot) (row : StoredRow) (form : Form) (page : List ℕ) → form ≡ form_at layout table
    → page ≡ block_at pages (relation_of table) spot.block → slot_at blocks spot ≡ Some row → HasSlots form page (slots_of blocks spot.block)
slots_read {layout} {table} {pages} {blocks} has spot row form page is at there =
    let within = in_use has spot row there in
    subst (λ (f : Form). HasSlots f page (slots_of blocks spot.block)) (sym is) (subst (λ (p : List ℕ). HasSlots (form_at layout table) p (slots_of blocks spot.block)) (sym at) (has.started spot.block within.0))

-- nor has one of which no row is read
pub none_read : (form : Form) (page : List ℕ) (slots : List Slot) (row : StoredRow) (slot : ℕ) → HasSlots form page slots → None ≡ row_bytes_in form slots slot → get_or slots slot None ≡ Some row → ⊥
none_read form page slots row slot has read there =
    let none = free_slot (get_or slots slot None) (free_read form page slots slot has read) in
    absurd cc
