-- a store that is opened from a disk, as every stop may have left it
use Rattle.std.specs.Prelude.{ℕ, IsTrue, List}
use Rattle.block_model.specs.TableState.{TableState}
use Rattle.disk_trait.specs.Told.{Told}
use Rattle.disk_trait.specs.Throughout.{Throughout}
use Rattle.store_layout.specs.DiskLayout.{DiskLayout}
use Rattle.page_map.specs.declared.faults.MachineFault.{MachineFault}
use Rattle.page_map.specs.declared.faults.MachineFault.TheVariants as faults
use Rattle.page_map.specs.declared.faults.StoreError.TheVariants as errors
use Rattle.page_map.specs.Keeps.{Tells}
use Rattle.page_map.specs.PageMap.{PageMap}
use Rattle.recovery.specs.declared.fault.StartFault.{StartFault}
use Rattle.recovery.specs.declared.fault.StartFault.TheVariants as starts
use Rattle.recovery.specs.Opens.{OpensAs}
use Rattle.script_semantics.specs.Place.{Place}
use Rattle.script_semantics.specs.Starts.{IsOpening}
use Rattle.session_parts.specs.ShowsPlace.{ShowsPlace}
use Rattle.session_parts.specs.StoreStates.{StoreState}
use Rattle.session_starts.specs.StoreImage.{IsStoreImage, database_with}
use Rattle.session_starts.specs.StopRule.{AllHaveTable, IsImageWith}

-- Where the disk tells its contents, and they open to pages, these are those of a store with some table: so it is of each image that a stop left. Bytes that
-- don't open are any.
abbrev pub HoldsImage : Told → Type 0
HoldsImage disk = IsTrue disk.tells_contents → (layout : DiskLayout) (pages : PageMap) → OpensAs layout disk.contents pages → (table : TableState) × IsStoreImage layout pages table

-- The store that was opened over the pages of a store with a table shows a place at which a script begins with that table and the next number of these pages,
-- and each image has the table.
abbrev pub OpensTable : {D : Type 0} → (D → Told) → StoreState D → Type 0
OpensTable told s = Tells told s.pages → (table : TableState) (image : IsStoreImage s.pages.layout s.pages.pages table)
    → (p : Place) × IsOpening s.pages.layout (database_with image.next table) p × ShowsPlace s p × AllHaveTable told s.pages p

-- the table that each image had before, each has at every moment of the calls
abbrev pub ImagesStay : (old new : Told) → Type 0
ImagesStay old new = (layout : DiskLayout) (table : TableState) → ((image : List ℕ) → IsTrue (old.now image) → IsImageWith layout table image) → Throughout old new (IsImageWith layout table)

-- a refusal of the pages of statuses, over pages that were started in the same call: no disk fault was kept before, and no relation is full
abbrev pub IsOfStart : MachineFault → Type 0
IsOfStart (faults.Store (errors.Reopen count)) = ⊥
IsOfStart (faults.Full relation number) = ⊥
IsOfStart fault = Unit {0}

-- as a refusal of the start
abbrev pub start_fault : MachineFault → StartFault
start_fault (faults.Store errors.Disk) = starts.Disk
start_fault (faults.Store (errors.Damaged at)) = starts.Damaged at
start_fault fault = starts.Memory
