-- what the opening of a store refuses
use Rattle.std.specs.Prelude.{Err, ⊤}
use Rattle.disk_trait.specs.Told.{Told}
use Rattle.recovery.specs.StartCauses.{StartCause}
use Rattle.recovery.specs.declared.fault.StartFault.{StartFault}

-- the fault is one of an opening between these moments of its disk
abbrev pub IsRefused : Told → Told → StartFault → Type 0
IsRefused old new fault = StartCause {T = ⊤} old new (Err fault)
