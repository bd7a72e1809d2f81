-- the faults of a step that come from pages
use Rattle.page_map.specs.declared.faults.StoreError.{StoreError}
use Rattle.page_map.specs.declared.faults.StoreError.TheVariants as errors
use Rattle.session_parts.specs.declared.faults.StoreFault.{StoreFault}
use Rattle.session_parts.specs.declared.faults.StoreFault.TheVariants as stops

-- a refusal of the page store, as a fault of the step
abbrev pub fault_of : StoreError → StoreFault
fault_of errors.Disk = stops.Disk
fault_of (errors.Reopen faults) = stops.Reopen faults
fault_of (errors.Damaged at) = stops.Damaged at
