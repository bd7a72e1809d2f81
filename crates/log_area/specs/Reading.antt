-- an area that is read from its front, piece by piece
use Rattle.std.specs.Prelude.{◌≡◌, ℕ, ◌+◌, ◌≤◌, IsTrue, List, ◌++◌, length, drop, Result, Ok, Err}
use Rattle.block_model.specs.Causes.{Rose}
use Rattle.byte_fields.specs.Fields.{field_at}
use Rattle.disk_trait.specs.Told.{Told}
use Rattle.log_area.specs.Frames.{HasFrameThatPasses, length_at}
use Rattle.log_area.specs.declared.opening.LogFault.{LogFault}
use Rattle.log_area.specs.declared.opening.LogFault.TheVariants.{Damaged, Disk, Memory}

-- the bytes are the disk's from an offset on
abbrev pub IsFrontOf : ℕ → List ℕ → List ℕ → Type 0
IsFrontOf start bytes contents = bytes ≡ field_at contents start (length bytes)

-- some bytes more, or none
abbrev pub Extends : List ℕ → List ℕ → Type 0
Extends old new = (more : List ℕ) × (new ≡ old ++ more)

-- the frame behind the gate at an offset leaves the area no byte for the next gate
abbrev pub PassesAt : List ℕ → ℕ → Type 0
PassesAt area gate = length (drop (gate + 1) area) ≤ 6 + length_at (drop (gate + 1) area)

-- reading fails for the disk or for want of memory
abbrev pub ReadCause : {T : Type 0} → ℕ → ℕ → Result T LogFault → Type 0
ReadCause before now (Ok done) = before ≤ now
ReadCause before now (Err (Damaged at)) = ⊥
ReadCause before now (Err Disk) = (before ≤ now) × Rose before now
ReadCause before now (Err Memory) = before ≤ now

-- reading a frame also fails where it passes the area
abbrev pub FrameCause : {T : Type 0} → ℕ → ℕ → ℕ → Told → Told → Result T LogFault → Type 0
FrameCause start room gate old new (Ok done) = old.faults ≤ new.faults
FrameCause start room gate old new (Err (Damaged at)) = (at ≡ start + gate) × (old.faults ≤ new.faults) × (IsTrue old.tells_contents → PassesAt (field_at old.contents start room) gate)
FrameCause start room gate old new (Err Disk) = (old.faults ≤ new.faults) × Rose old.faults new.faults
FrameCause start room gate old new (Err Memory) = old.faults ≤ new.faults

-- reading the frames of an area fails where one of them passes it
abbrev pub AreaCause : {T : Type 0} → ℕ → ℕ → Told → Told → Result T LogFault → Type 0
AreaCause start room old new (Ok done) = old.faults ≤ new.faults
AreaCause start room old new (Err (Damaged at)) = (old.faults ≤ new.faults) × (IsTrue old.tells_contents → (offset : ℕ) × (at ≡ start + offset) × HasFrameThatPasses (field_at old.contents start room) offset)
AreaCause start room old new (Err Disk) = (old.faults ≤ new.faults) × Rose old.faults new.faults
AreaCause start room old new (Err Memory) = old.faults ≤ new.faults
