-- which conditions a summary may meet
use Rattle.std.specs.Prelude.{Bool, true, false, List}
use Rattle.std.specs.List.{list_all}
use Rattle.block_model.specs.declared.value.Value.{Value}
use Rattle.block_model.specs.declared.value.Value.TheVariants.{Null, Int, Net}
use Rattle.block_model.specs.declared.value.Op.{Op}
use Rattle.block_model.specs.declared.value.Op.TheVariants.{Eq}
use Rattle.block_model.specs.declared.row.Cond.{Cond}
use Rattle.opclass_bloom.specs.Includes.{has_all}
use Rattle.opclass_bloom.specs.Parameters.{Parameters}

-- a value of the class may equal the key where all positions of the key are set; none equals a range
abbrev pub equal_holds : Parameters → List Bool → Value → Bool
equal_holds p s (Int k) = has_all p s (Int k)
equal_holds p s (Net k) = has_all p s (Net k)
equal_holds p s k = false

-- each operator but `=` holds
abbrev pub operator_holds : Parameters → List Bool → Op → Value → Bool
operator_holds p s Eq k = equal_holds p s k
operator_holds p s op k = true

-- a null key holds nothing
abbrev pub key_holds : Parameters → List Bool → Op → Value → Bool
key_holds p s op Null = false
key_holds p s op k = operator_holds p s op k

-- each condition holds
abbrev pub consistent : Parameters → List Bool → List Cond → Bool
consistent p s conds = list_all (λ c. key_holds p s c.op c.key) conds
