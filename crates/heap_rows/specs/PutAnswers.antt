-- what a put answers
use Rattle.std.specs.Prelude.{◌≡◌, ℕ, ◌*◌, ◌<◌, None, Result, Ok, Err}
use Rattle.block_model.specs.declared.place.Spot.{Spot}
use Rattle.store_layout.specs.DiskLayout.{DiskLayout, page_offset}
use Rattle.disk_trait.specs.Told.{Told}
use Rattle.page_map.specs.declared.faults.StoreError.TheVariants as errors
use Rattle.page_map.specs.declared.faults.MachineFault.{MachineFault}
use Rattle.page_map.specs.declared.faults.MachineFault.TheVariants as faults
use Rattle.page_map.specs.Keeps.{Untold}
use Rattle.page_map.specs.Outcome.{Outcome}
use Rattle.page_map.specs.PageMap.{View}
use Rattle.heap_rows.specs.Heaps.{relation_of, slots_a_page}

-- the table is full
abbrev pub SaysFull : MachineFault → Type 0
SaysFull (faults.Full relation number) = Unit {0}
SaysFull fault = ⊥

-- full names the table's relation and how many slots it may have, and damage the page of one of its blocks
abbrev pub NamesTable : DiskLayout → ℕ → MachineFault → Type 0
NamesTable layout table (faults.Full relation number) = (relation ≡ relation_of table) × (number ≡ layout.sizes.heap_blocks * slots_a_page layout table)
NamesTable layout table (faults.Store (errors.Damaged at)) = (block : ℕ) × (block < layout.sizes.heap_blocks) × (at ≡ page_offset layout (record { relation = relation_of table; block = block }))
NamesTable layout table fault = Unit {0}

-- A put is done or refused as the page store does or refuses. A full table is told only where no disk fault was kept, and leaves
-- the store as it was. No put is refused for want of memory.
abbrev pub PutOutcome : {D : Type 0} → (D → Told) → View D → View D → Result Spot MachineFault → Type 0
PutOutcome told old new (Ok spot) = Outcome told (Untold told old) old new (Ok spot)
PutOutcome told old new (Err (faults.Full relation number)) = (old.failed ≡ None) × (new ≡ old)
PutOutcome told old new (Err (faults.Store error)) = Outcome {T = Spot} told (Untold told old) old new (Err error)
PutOutcome told old new (Err faults.Memory) = ⊥
