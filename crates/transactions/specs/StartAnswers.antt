-- what a start answers
use Rattle.std.specs.Prelude.{◌≡◌, None, Result, Ok, Err}
use Rattle.disk_trait.specs.Told.{Told}
use Rattle.page_map.specs.declared.faults.MachineFault.{MachineFault}
use Rattle.page_map.specs.declared.faults.MachineFault.TheVariants as faults
use Rattle.page_map.specs.Keeps.{Untold}
use Rattle.page_map.specs.Outcome.{Outcome}
use Rattle.page_map.specs.PageMap.{View}
use Rattle.store_layout.specs.DiskLayout.{DiskLayout}
use Rattle.tx_table.specs.LeavesRest.{NamesStatuses}

-- A start is done or refused as the page store does or refuses its reads. Want of memory comes only where no disk fault was kept, and
-- leaves the store as it was.
abbrev pub StartOutcome : {D T : Type 0} → (D → Told) → View D → View D → Result T MachineFault → Type 0
StartOutcome told old new (Ok value) = Outcome told (Untold told old) old new (Ok value)
StartOutcome told old new (Err faults.Memory) = (old.failed ≡ None) × (new ≡ old)
StartOutcome told old new (Err (faults.Full relation number)) = ⊥
StartOutcome {D} {T} told old new (Err (faults.Store error)) = Outcome {T = T} told (Untold told old) old new (Err error)

-- damage is told by the byte of the disk at which a page of statuses begins
abbrev pub FaultNamesStatuses : DiskLayout → MachineFault → Type 0
FaultNamesStatuses layout (faults.Store error) = NamesStatuses layout error
FaultNamesStatuses layout fault = Unit {0}
