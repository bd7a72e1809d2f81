-- What changes of one page leave.
use Rattle.std.proofs.Common.{◌≡◌, ℕ, ◌+◌, List, [], ◌∷◌, ap, subst, ◌∙◌, arith}
use Rattle.std.specs.Prelude.{Result, Ok, Err, OnOk, OnErr, Some, set}
use Rattle.block_model.specs.declared.place.Place.{Place}
use Rattle.block_model.specs.declared.place.Spot.{Spot}
use Rattle.store_layout.specs.DiskLayout.{DiskLayout}
use Rattle.disk_trait.specs.Told.{Told}
use Rattle.page_layout.specs.declared.page.Form.{Form}
use Rattle.page_layout.specs.RowBytes.{StoredRow}
use Rattle.page_layout.specs.PageContents.{Slot}
use Rattle.page_layout.specs.PageWrites.{marked}
use Rattle.page_map.specs.Redo.{Means}
use Rattle.page_map.specs.Changed.{Changed, redone_once}
use Rattle.page_map.specs.Forms.{form_of}
use Rattle.page_map.specs.Keeps.{Keeps, Leaves, Tells}
use Rattle.page_map.specs.PageMap.{PageMap, View, page_at}
use Rattle.wal_record.specs.Changes.{LoggedChange, RowMark}
use Rattle.heap_rows.specs.Heaps.{relation_of, form_at}
use Rattle.heap_rows.specs.HeapBlocks.{HasBlocks, slots_of}
use Rattle.heap_rows.specs.LeavesOthers.{LeavesOtherPages, LeavesOthers}
use Rattle.heap_rows.specs.RowPlaces.{slot_at, with_slot}
use Rattle.heap_rows.proofs.TableBlocks.{LeavesOthersOf, in_use, same-blocks, set-block}

-- the page store's changes of one page leave every other page
pub change_leaves : {D T E : Type 0} (told : D → Told) (layout : DiskLayout) (place : Place) (changes : List LoggedChange) (old new : View D) (result : Result T E)
    → OnOk result (Tells told old → Changed layout place changes old.pages new.pages) → OnErr result (Keeps told old new) → Leaves told old new → LeavesOtherPages told place old new
change_leaves told layout place changes old new (Ok value) changed kept leaves = record { leaves = leaves; pages = λ told_old other apart. (changed told_old).others other apart }
change_leaves told layout place changes old new (Err error) changed kept leaves = record { leaves = leaves; pages = λ told_old other apart. ap (λ pages. page_at pages other) (kept.pages told_old) }

-- so a change of a table's page leaves every other table
pub table_leaves : {D : Type 0} (told : D → Told) (table : ℕ) (place : Place) (old new : View D) → place.relation ≡ relation_of table → LeavesOtherPages told place old new → LeavesOthers told table old new
table_leaves told table place old new at leaves = record {
  leaves = leaves.leaves;
  pages = λ told_old other apart. leaves.pages told_old other (λ same. apart (ap (λ (p : Place). p.relation) same ∙ at));
  tables = λ told_old other blocks apart has.
      same-blocks has (λ block. leaves.pages told_old (record { relation = relation_of other; block = block }) (λ same.
      let relation : other + 1 ≡ table + 1 = ap (λ (p : Place). p.relation) same ∙ at in
      apart (omega arith)));
}

-- and every other block of the table
pub block_leaves : {D : Type 0} (told : D → Told) (table : ℕ) (place : Place) (old new : View D) → LeavesOtherPages told place old new → Tells told old → LeavesOthersOf old.pages new.pages table place.block
block_leaves told table place old new leaves told_old = λ other apart. leaves.pages told_old (record { relation = relation_of table; block = other }) (λ same. apart (ap (λ (p : Place). p.block) same))

-- a mark changes its row alone
pub mark_blocks : {layout : DiskLayout} {table : ℕ} {old : PageMap} {blocks : List (List Slot)} (new : PageMap) (has : HasBlocks layout old table blocks) (relation deleter : ℕ) (spot : Spot) (row : StoredRow) → relation ≡ relation_of table
    → form_of layout (relation_of table) ≡ form_at layout table → slot_at blocks spot ≡ Some row
    → Changed layout (record { relation = relation; block = spot.block }) (RowMark (record { relation = relation; block = spot.block }) spot.slot deleter ∷ []) old new → HasBlocks layout new table (with_slot blocks spot (Some (marked row deleter)))
mark_blocks {layout} {table} {old} {blocks} new has relation deleter spot row number found at changed =
    let place : Place = record { relation = relation_of table; block = spot.block } in
    let change : LoggedChange = RowMark place spot.slot deleter in
    let there = in_use has spot row at in
    let done : Changed layout place (change ∷ []) old new = subst (λ (r : ℕ). Changed layout (record { relation = r; block = spot.block }) (RowMark (record { relation = r; block = spot.block }) spot.slot deleter ∷ []) old new) number changed in
    let means = subst (λ (form : Form). Means form (page_at old place) change (page_at new place)) found (redone_once (form_of layout (relation_of table)) (page_at old place) change (page_at new place) done.redone) in
    set-block has spot.block (set (slots_of blocks spot.block) spot.slot (Some (marked row deleter))) there.0 (λ other apart. done.others (record { relation = relation_of table; block = other }) (λ same. apart (ap (λ (p : Place). p.block) same))) (means (slots_of blocks spot.block) row (has.started spot.block there.0) there.1)
