-- the exact summary of a list of values, whatever their order
use Rattle.std.specs.Prelude.{◌≡◌, ℤ, List, [], All, Contains, fold}
use Rattle.block_model.specs.declared.value.Value.{Value}
use Rattle.block_model.specs.declared.value.Value.TheVariants.{Int}
use Rattle.opclass_minmax.specs.Bounds.{Bounds, NothingYet, Between, with_value}
use Rattle.opclass_minmax.specs.Includes.{IsWithin}

-- the least and the greatest are among the values, and no value is beyond them
pub record AreExtremes (values : List Value) (least greatest : ℤ) : Type 0 where
  pub has_least : Contains values (Int least)
  pub has_greatest : Contains values (Int greatest)
  pub none_beyond : All (IsWithin least greatest) values

-- nothing yet where there is no value
abbrev pub ExactSummary : List Value → Bounds → Type 0
ExactSummary values NothingYet = values ≡ []
ExactSummary values (Between least greatest) = AreExtremes values least greatest

-- the summary of values that are added one by one, in their order
abbrev pub summary_of : List Value → Bounds
summary_of values = fold with_value NothingYet values
