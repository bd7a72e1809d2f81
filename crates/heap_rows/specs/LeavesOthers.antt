-- what a change of a page, and of a table, leaves
use Rattle.std.specs.Prelude.{◌≡◌, ◌≢◌, ℕ, List}
use Rattle.block_model.specs.declared.place.Place.{Place}
use Rattle.disk_trait.specs.Told.{Told}
use Rattle.page_layout.specs.PageContents.{Slot}
use Rattle.page_map.specs.Keeps.{Leaves, Tells}
use Rattle.page_map.specs.PageMap.{View, page_at}
use Rattle.heap_rows.specs.Heaps.{relation_of}
use Rattle.heap_rows.specs.HeapBlocks.{HasBlocks}

-- what every call of the page store leaves, and where the disk tells its contents every page but the one at the place
pub record LeavesOtherPages {D : Type 0} (told : D → Told) (place : Place) (old new : View D) : Type 0 where
  pub leaves : Leaves told old new
  pub pages : Tells told old → (other : Place) → other ≢ place → page_at new.pages other ≡ page_at old.pages other

-- what every call of the page store leaves, and where the disk tells its contents the pages of every other relation and the
-- blocks of every other table
pub record LeavesOthers {D : Type 0} (told : D → Told) (table : ℕ) (old new : View D) : Type 0 where
  pub leaves : Leaves told old new
  pub pages : Tells told old → (place : Place) → place.relation ≢ relation_of table → page_at new.pages place ≡ page_at old.pages place
  pub tables : Tells told old → (other : ℕ) (blocks : List (List Slot)) → other ≢ table → HasBlocks old.layout old.pages other blocks → HasBlocks old.layout new.pages other blocks
