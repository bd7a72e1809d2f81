-- which values a summary includes
use Rattle.std.specs.Prelude.{ℤ, ◌≤ℤ◌, int_le, Bool, false, ◌&&◌}
use Rattle.block_model.specs.declared.value.Value.{Value}
use Rattle.block_model.specs.declared.value.Value.TheVariants.{Int}
use Rattle.opclass_minmax.specs.Bounds.{Bounds, NothingYet, Between}

-- the values of the class are those of int8
abbrev pub IsInt : Value → Type 0
IsInt (Int v) = Unit {0}
IsInt v = ⊥

-- from the least to the greatest
abbrev pub IsWithin : ℤ → ℤ → Value → Type 0
IsWithin least greatest (Int v) = (least ≤ℤ v) × (v ≤ℤ greatest)
IsWithin least greatest v = ⊥

abbrev pub Includes : Bounds → Value → Type 0
Includes NothingYet v = ⊥
Includes (Between least greatest) v = IsWithin least greatest v

-- both again, as tests
abbrev pub is_within : ℤ → ℤ → Value → Bool
is_within least greatest (Int v) = int_le least v && int_le v greatest
is_within least greatest v = false

abbrev pub is_included : Bounds → Value → Bool
is_included NothingYet v = false
is_included (Between least greatest) v = is_within least greatest v
