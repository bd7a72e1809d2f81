-- `<<=` as an order of networks
use Rattle.std.specs.Prelude.{◌≡◌, true}
use Rattle.block_model.specs.declared.value.Value.TheVariants.{Net}
use Rattle.block_model.specs.declared.value.Op.TheVariants.{WithinEq}
use Rattle.block_model.specs.Matches.{matches}
use Rattle.block_model.specs.Networks.{Network}

-- `<<=` holds
abbrev pub IsWithin : Network → Network → Type 0
IsWithin v k = matches (Net v) WithinEq (Net k) ≡ true

-- each network is within itself, and one within another is within all that the other is within
pub record WithinIsPreorder : Type 0 where
  pub reflexive : (v : Network) → IsWithin v v
  pub transitive : (v m k : Network) → IsWithin v m → IsWithin m k → IsWithin v k
