-- what making a store answers
use Rattle.std.specs.Prelude.{◌≡◌, ◌≢◌, ◌≤◌, ℕ, Result, Ok, Err}
use Rattle.block_model.specs.Causes.{Rose}
use Rattle.disk_trait.specs.Told.{Told}
use Rattle.store_format.specs.declared.fault.FormatFault.{FormatFault}
use Rattle.store_format.specs.declared.fault.FormatFault.TheVariants.{Size, Disk, Memory}

-- by the answer: the disk has the size that is wanted, or not, with both sizes, and then nothing was done; a fault of the disk comes
-- only where its count rose
abbrev pub FormatAnswers : {T : Type 0} → ℕ → Told → Told → Result T FormatFault → Type 0
FormatAnswers size old new (Ok done) = (old.size ≡ size) × (old.faults ≤ new.faults)
FormatAnswers size old new (Err (Size wanted found)) = (old.size ≢ size) × (wanted ≡ size) × (found ≡ old.size) × (new ≡ old)
FormatAnswers size old new (Err Disk) = (old.size ≡ size) × Rose old.faults new.faults
FormatAnswers size old new (Err Memory) = ⊥
