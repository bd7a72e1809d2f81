-- which conditions numbers from a least to a greatest may meet
use Rattle.std.specs.Prelude.{ℤ, int_lt, int_le, Bool, false, ◌&&◌}
use Rattle.block_model.specs.declared.value.Value.{Value}
use Rattle.block_model.specs.declared.value.Value.TheVariants.{Int}
use Rattle.block_model.specs.declared.value.Op.{Op}
use Rattle.block_model.specs.declared.value.Op.TheVariants.{Lt, Le, Eq, Ge, Gt}

-- a condition with a key of int8; the other operators hold nothing
abbrev pub number_holds : ℤ → ℤ → Op → ℤ → Bool
number_holds least greatest Lt k = int_lt least k
number_holds least greatest Le k = int_le least k
number_holds least greatest Eq k = int_le least k && int_le k greatest
number_holds least greatest Ge k = int_le k greatest
number_holds least greatest Gt k = int_lt k greatest
number_holds least greatest op k = false

-- no other key holds
abbrev pub key_holds : ℤ → ℤ → Op → Value → Bool
key_holds least greatest op (Int k) = number_holds least greatest op k
key_holds least greatest op k = false
