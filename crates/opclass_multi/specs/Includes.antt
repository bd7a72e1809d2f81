-- which values a summary includes
use Rattle.std.specs.Prelude.{◌≡◌, Bool, true, false}
use Rattle.block_model.specs.declared.value.Value.{Value}
use Rattle.block_model.specs.declared.value.Value.TheVariants.{Int}
use Rattle.opclass_multi.specs.Elements.{holds}
use Rattle.opclass_multi.specs.Kept.{Kept}

-- the values of the class are those of int8
abbrev pub IsInt : Value → Type 0
IsInt (Int v) = Unit {0}
IsInt v = ⊥

-- an element holds the value
abbrev pub Includes : Kept → Value → Type 0
Includes s (Int v) = holds s.elements v v ≡ true
Includes s v = ⊥

-- the same as a test
abbrev pub is_included : Kept → Value → Bool
is_included s (Int v) = holds s.elements v v
is_included s v = false
