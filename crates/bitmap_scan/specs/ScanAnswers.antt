-- what a step of a scan answers, and when each error comes
use Rattle.std.specs.Prelude.{ℕ, List, Result, Ok, Err}
use Rattle.store_layout.specs.DiskLayout.{DiskLayout}
use Rattle.disk_trait.specs.Told.{Told}
use Rattle.page_map.specs.declared.faults.MachineFault.{MachineFault}
use Rattle.page_map.specs.declared.faults.MachineFault.TheVariants as faults
use Rattle.page_map.specs.declared.faults.StoreError.TheVariants as errors
use Rattle.page_map.specs.Outcome.{Outcome, Refused}
use Rattle.page_map.specs.PageMap.{PageMap, View}
use Rattle.page_locks.specs.declared.did.Did.{Did}
use Rattle.page_locks.specs.declared.did.Did.TheVariants as did
use Rattle.coverage.specs.Accounts.{Account}
use Rattle.coverage.specs.Machines.{ShownTable, Unseen, table_state}
use Rattle.coverage.specs.Table.{TableScan}
use Rattle.coverage.specs.TableSteps.{IsScanRead, ScanHasStep}
use Rattle.index_contents.specs.IndexContents.{contents}
use Rattle.index_steps.specs.IndexTuples.{shape_of}
use Rattle.index_steps.specs.Readings.{IsMisnamed, IsMisread}
use Rattle.index_steps.specs.SwapAnswers.{FaultNamesPageOf}
use Rattle.bitmap_scan.specs.ScanHands.{ScannedIndex, scanned_at}
use Rattle.bitmap_scan.specs.ScanSteps.{ScanGoes}
use Rattle.bitmap_scan.specs.declared.stage.Stage.{Stage}
use Rattle.bitmap_scan.specs.declared.stage.Stage.TheVariants as stages

-- What a step did: the scan has a step then; or that was its last one, and it has judged every range and read every given block. No step
-- of a scan waits.
abbrev pub ScanStepped : (s : ℕ) → ShownTable → Unseen → (Account → Account) → TableScan → Did → Type 0
ScanStepped s shown u account after (did.Moved point) = ScanGoes s shown u point account after × ScanHasStep (table_state shown u) after
ScanStepped s shown u account after (did.Finished point) = ScanGoes s shown u point account after × IsScanRead (table_state shown u) after
ScanStepped s shown u account after (did.Blocked held) = ⊥
ScanStepped s shown u account after (did.NoRight by) = ⊥

-- what is damaged where a step at this stage finds damage: the range's entry, or its tuple
abbrev pub IsDamagedAt : DiskLayout → PageMap → List ScannedIndex → Stage → Type 0
IsDamagedAt layout pages indexes (stages.Map at range) = IsMisnamed (contents layout pages (scanned_at indexes at).number) range
IsDamagedAt layout pages indexes (stages.Tuple at range spot) =
    IsMisread (shape_of layout (scanned_at indexes at).number) (contents layout pages (scanned_at indexes at).number) range spot
IsDamagedAt layout pages indexes stage = ⊥

-- no damage is told
abbrev pub NamesNoPage : MachineFault → Type 0
NamesNoPage (faults.Store (errors.Damaged at)) = ⊥
NamesNoPage fault = Unit {0}

-- damage is told by the byte at which a page of the index begins whose range is judged; where none is judged no page is read
abbrev pub NamesPageAt : DiskLayout → List ScannedIndex → Stage → MachineFault → Type 0
NamesPageAt layout indexes (stages.Map at range) fault = FaultNamesPageOf layout (scanned_at indexes at).number fault
NamesPageAt layout indexes (stages.Tuple at range spot) fault = FaultNamesPageOf layout (scanned_at indexes at).number fault
NamesPageAt layout indexes stage fault = NamesNoPage fault

-- A step is done or refused as the page store does or refuses its reads. No index is full for it, and it is never short of memory.
abbrev pub ReadOutcome : {D T : Type 0} → (D → Told) → (Cause : Type 0) → View D → View D → Result T MachineFault → Type 0
ReadOutcome told Cause old new (Ok done) = Outcome told Cause old new (Ok done)
ReadOutcome told Cause old new (Err (faults.Store error)) = Refused told Cause old new error
ReadOutcome told Cause old new (Err (faults.Full relation number)) = ⊥
ReadOutcome told Cause old new (Err faults.Memory) = ⊥
