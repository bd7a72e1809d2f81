-- whether a value is null
use Rattle.std.specs.Prelude.{◌≡◌, ◌≢◌, ◌↔◌, true}
use Rattle.block_model.specs.declared.value.Value.{Value}
use Rattle.block_model.specs.declared.value.Value.TheVariants.{Null}
use Rattle.block_model.specs.declared.value.Op.TheVariants.{IsNull, NotNull}
use Rattle.block_model.specs.Matches.{matches}

-- a null alone meets `is null`, and any other value `is not null`, whatever the key
pub record NullTests : Type 0 where
  pub null : (value key : Value) → (matches value IsNull key ≡ true) ↔ (value ≡ Null)
  pub not_null : (value key : Value) → (matches value NotNull key ≡ true) ↔ (value ≢ Null)
