-- what a begin answers
use Rattle.std.specs.Prelude.{◌≡◌, ℕ, ◌<◌, ◌⊎◌, None, Result, Ok, Err}
use Rattle.disk_trait.specs.Told.{Told}
use Rattle.page_map.specs.Keeps.{Untold}
use Rattle.page_map.specs.Outcome.{IsReopen, Outcome}
use Rattle.page_map.specs.PageMap.{View}
use Rattle.store_layout.specs.DiskLayout.{DiskLayout}
use Rattle.tx_table.specs.declared.faults.BeginFault.{BeginFault}
use Rattle.tx_table.specs.declared.faults.BeginFault.TheVariants as faults
use Rattle.tx_table.specs.LeavesRest.{NamesStatuses}
use Rattle.tx_table.specs.Statuses.{number_limit}

-- Spent exactly where the next number is 32640 times the number of status blocks and no disk fault was kept; it names that
-- number, and the store is as it was. Else a begin is done or refused as the page store does or refuses.
abbrev pub BeginOutcome : {D : Type 0} → (D → Told) → ℕ → View D → View D → Result ℕ BeginFault → Type 0
BeginOutcome told next old new (Ok t) = (next < number_limit old.layout) × Outcome told (Untold told old) old new (Ok t)
BeginOutcome told next old new (Err (faults.Spent number)) = (next ≡ number_limit old.layout) × (number ≡ next) × (old.failed ≡ None) × (new ≡ old)
BeginOutcome told next old new (Err (faults.Store error)) = (IsReopen error ⊎ (next < number_limit old.layout)) × Outcome {T = ℕ} told (Untold told old) old new (Err error)

-- damage names a page of statuses
abbrev pub NamesStatusPage : DiskLayout → BeginFault → Type 0
NamesStatusPage layout (faults.Spent number) = Unit {0}
NamesStatusPage layout (faults.Store error) = NamesStatuses layout error
