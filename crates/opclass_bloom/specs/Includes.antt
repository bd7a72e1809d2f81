-- which values a summary includes
use Rattle.std.specs.Prelude.{◌≡◌, Bool, true, false, ◌&&◌, List}
use Rattle.std.specs.List.{list_all}
use Rattle.block_model.specs.declared.value.Value.{Value}
use Rattle.block_model.specs.declared.value.Value.TheVariants.{Int, Net}
use Rattle.opclass_bloom.specs.Bits.{is_set}
use Rattle.opclass_bloom.specs.Parameters.{Parameters}
use Rattle.opclass_bloom.specs.Positions.{positions}

-- the values of the class are those of int8 and inet
abbrev pub HasWords : Value → Type 0
HasWords (Int v) = Unit {0}
HasWords (Net a) = Unit {0}
HasWords v = ⊥

-- all positions of the value are set
unfoldable pub has_all : Parameters → List Bool → Value → Bool
has_all p s v = list_all (is_set s) (positions p v)

abbrev pub Includes : Parameters → List Bool → Value → Type 0
Includes p s v = HasWords v × (has_all p s v ≡ true)

-- both again, as tests
abbrev pub has_words : Value → Bool
has_words (Int v) = true
has_words (Net a) = true
has_words v = false

abbrev pub is_included : Parameters → List Bool → Value → Bool
is_included p s v = has_words v && has_all p s v
