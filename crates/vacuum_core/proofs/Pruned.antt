-- what a prune leaves of a store, by the calls that it makes
use Rattle.std.proofs.Common.{◌≡◌, ℕ, ◌+◌, ◌*◌, ◌≤◌, List, length, sym, ap, subst, ◌∙◌, arith}
use Rattle.std.specs.Prelude.{All, Some}
use Rattle.std.proofs.lemmas.Nat.{mul-le}
use Rattle.block_model.specs.RowSize.{row_size}
use Rattle.block_model.specs.declared.value.Kind.{Kind}
use Rattle.disk_trait.specs.Told.{Told}
use Rattle.store_layout.specs.DiskLayout.{DiskLayout}
use Rattle.page_layout.specs.PageContents.{IsForm, Slot}
use Rattle.page_layout.specs.RowBytes.{StoredRow}
use Rattle.page_map.specs.Keeps.{Keeps, Tells, keeps_then}
use Rattle.page_map.specs.PageMap.{PageMap, View, page_at}
use Rattle.heap_rows.specs.DroppedRows.{AreAscending, AreInUse, DropsRows, FreesSlots, with_slots_free}
use Rattle.heap_rows.specs.HeapBlocks.{HasBlocks, OfBlocks, slots_of}
use Rattle.heap_rows.specs.Heaps.{form_at, kinds_at, slots_a_page}
use Rattle.heap_rows.specs.LeavesOthers.{LeavesOthers}
use Rattle.heap_rows.specs.RowPlaces.{IsInUse, slot_at}
use Rattle.heap_rows.specs.StoredRows.{AreRowsOf, stored_rows}
use Rattle.heap_rows.specs.declared.rows.Stored.{Stored}
use Rattle.vacuum_core.specs.DeadRows.{DropsFrom, DropsTheDead, IsPicked, Living, dead_slots}
use Rattle.vacuum_core.specs.Vacuums.{HasHeap}
use Rattle.vacuum_core.proofs.DroppedBlocks.{drops_from, drops_the_dead}
use Rattle.vacuum_core.proofs.Onward.{tells_before}
use Rattle.vacuum_core.proofs.Picking.{picked_ascend, picked_used}

-- the table has its blocks still
pub has_after : {D : Type 0} (told : D → Told) (old new : View D) (table : ℕ) (blocks : List (List Slot)) → Keeps told old new → Tells told old → HasBlocks old.layout old.pages table blocks → HasBlocks new.layout new.pages table blocks
has_after told old new table blocks kept tells has =
    subst (λ (l : DiskLayout). HasBlocks l new.pages table blocks) (sym kept.leaves.layout) (subst (λ (p : PageMap). HasBlocks old.layout p table blocks) (sym (kept.pages tells)) has)

-- each slot that was picked has a row
picked_there : (P : ℕ → Type 0) (blocks : List (List Slot)) (block : ℕ) (rows : List Stored) (dead : List ℕ) → rows ≡ stored_rows (slots_of blocks block) → IsPicked dead rows
    → ((k : ℕ) (row : StoredRow) → slot_at blocks (record { block = block; slot = k }) ≡ Some row → P k) → All P dead
picked_there P blocks block rows dead read picked each =
    picked_used P 0 (slots_of blocks block) dead (λ i row is. let e : i ≡ 0 + i = omega arith in subst P e (each i row is)) (subst (λ (l : List Stored). IsPicked dead l) read picked)

pub dead_used : {D : Type 0} (told : D → Told) (old mid : View D) (table block : ℕ) (rows : List Stored) (dead : List ℕ) → Keeps told old mid → (Tells told old → HasHeap old.layout old.pages table)
    → OfBlocks told old table (λ blocks. rows ≡ stored_rows (slots_of blocks block)) → IsPicked dead rows → Tells told mid → AreInUse mid.layout mid.pages table block dead
dead_used told old mid table block rows dead kept heap read picked tells_mid =
    let tells = tells_before told old mid kept tells_mid in
    let there = heap tells in
    picked_there (λ (k : ℕ). IsInUse mid.layout mid.pages table (record { block = block; slot = k })) there.blocks block rows dead (read tells there.blocks there.has) picked
    (λ k row is. (there.blocks, row, has_after told old mid table there.blocks kept tells there.has, is))

pub dead_ascend : (kinds : List Kind) (count : ℕ) (rows : List Stored) (dead : List ℕ) → AreRowsOf kinds count rows → IsPicked dead rows → AreAscending 0 count dead
dead_ascend kinds count rows dead are picked = picked_ascend 0 count dead rows picked are.ascending

-- so many rows have gone
pub prune_drops : {D : Type 0} (told : D → Told) (old mid : View D) (table block count : ℕ) (kinds : List Kind) (rows : List Stored) (dead : List ℕ) → Keeps told old mid → OfBlocks told old table (λ blocks. rows ≡ stored_rows (slots_of blocks block)) → AreRowsOf kinds count rows
    → IsPicked dead rows → OfBlocks told mid table (FreesSlots block dead) → OfBlocks told old table (λ blocks. DropsFrom blocks (with_slots_free blocks block dead) block (length dead))
prune_drops told old mid table block count kinds rows dead kept read are picked frees tells blocks has =
    drops_from blocks block dead (frees (kept.leaves.tells ∙ tells) blocks (has_after told old mid table blocks kept tells has)) count (dead_ascend kinds count rows dead are picked)
    (picked_there (λ (k : ℕ). (row : StoredRow) × (slot_at blocks (record { block = block; slot = k }) ≡ Some row)) blocks block rows dead (read tells blocks has) picked (λ k row is. (row, is)))

-- and exactly the dead ones
pub prunes_the_dead : {D : Type 0} (told : D → Told) (old mid : View D) (table block : ℕ) (by : Living) (rows : List Stored) (dead : List ℕ) → Keeps told old mid → OfBlocks told old table (λ blocks. rows ≡ stored_rows (slots_of blocks block))
    → dead ≡ dead_slots by rows → OfBlocks told mid table (FreesSlots block dead) → OfBlocks told old table (λ blocks. DropsTheDead by blocks (with_slots_free blocks block dead) block)
prunes_the_dead told old mid table block by rows dead kept read is frees tells blocks has =
    drops_the_dead blocks block dead (frees (kept.leaves.tells ∙ tells) blocks (has_after told old mid table blocks kept tells has)) by (is ∙ ap (dead_slots by) (read tells blocks has))

pub prune_blocks : {D : Type 0} (told : D → Told) (old mid new : View D) (table block : ℕ) (dead : List ℕ) → Keeps told old mid → OfBlocks told mid table (DropsRows mid.layout new.pages table block dead)
    → OfBlocks told old table (λ blocks. HasBlocks old.layout new.pages table (with_slots_free blocks block dead))
prune_blocks told old mid new table block dead kept drops tells blocks has =
    subst (λ (l : DiskLayout). HasBlocks l new.pages table (with_slots_free blocks block dead)) kept.leaves.layout (drops (kept.leaves.tells ∙ tells) blocks (has_after told old mid table blocks kept tells has))

-- a call that changes no page, and then one that changes those of a table
pub tables_then : {D : Type 0} (told : D → Told) (table : ℕ) (old mid new : View D) → Keeps told old mid → LeavesOthers told table mid new → LeavesOthers told table old new
tables_then told table old mid new kept leaves = record {
  leaves = keeps_then told old mid new kept leaves.leaves;
  pages = λ tells place other. leaves.pages (kept.leaves.tells ∙ tells) place other ∙ ap (λ (p : PageMap). page_at p place) (kept.pages tells);
  tables = λ tells other blocks apart has.
      subst (λ (l : DiskLayout). HasBlocks l new.pages other blocks) kept.leaves.layout (leaves.tables (kept.leaves.tells ∙ tells) other blocks apart (has_after told old mid other blocks kept tells has));
}

pub tables_kept : {D : Type 0} (told : D → Told) (table : ℕ) (old new : View D) → Keeps told old new → LeavesOthers told table old new
tables_kept told table old new kept = record {
  leaves = kept.leaves;
  pages = λ tells place other. ap (λ (p : PageMap). page_at p place) (kept.pages tells);
  tables = λ tells other blocks apart has. subst (λ (p : PageMap). HasBlocks old.layout p other blocks) (sym (kept.pages tells)) has;
}

few_fit : (count row : ℕ) → 22 ≤ row → count * row ≤ 8160 → count ≤ 370
few_fit count row least room = let less : count * 22 ≤ count * row = mul-le count 22 count row (omega arith) least in omega (arith, less, room)

-- a page has no more rows
pub few_rows : (layout : DiskLayout) (table : ℕ) → IsForm (form_at layout table) → slots_a_page layout table ≤ 370
few_rows layout table is = few_fit (slots_a_page layout table) (row_size (kinds_at layout table)) (omega arith) is.1
