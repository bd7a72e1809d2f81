-- the status of each end
use Rattle.std.specs.Prelude.{ℕ, Option, None, Some}
use Rattle.session_stepper.specs.declared.ending.Ending.{Ending}
use Rattle.session_stepper.specs.declared.ending.Ending.TheVariants.{Disk, Memory, OutOfPlace, Spent, Damaged}

abbrev pub status_of : Ending → ℕ
status_of Disk = 6
status_of Memory = 7
status_of OutOfPlace = 7
status_of Spent = 8
status_of Damaged = 11

abbrev pub status_in : Option Ending → Option ℕ
status_in None = None
status_in (Some ending) = Some (status_of ending)
