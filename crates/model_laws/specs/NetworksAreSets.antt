-- the operators of networks as sets of addresses
use Rattle.std.specs.Prelude.{◌≡◌, ◌↔◌, ℕ, true}
use Rattle.block_model.specs.declared.value.Value.TheVariants.{Net}
use Rattle.block_model.specs.declared.value.Op.{Op}
use Rattle.block_model.specs.declared.value.Op.TheVariants.{Overlaps, Before, After, WithinEq, ContainsEq}
use Rattle.block_model.specs.Matches.{matches}
use Rattle.block_model.specs.Networks.{Network}
use Rattle.model_laws.specs.AddressesOfNetworks.{HasAddress, IsInternetNetwork}

-- the operator holds of two networks exactly where this does
abbrev pub MeansOfNetworks : Op → (Network → Network → Type 0) → Type 0
MeansOfNetworks op P = (v k : Network) → IsInternetNetwork v → IsInternetNetwork k → (matches (Net v) op (Net k) ≡ true) ↔ P v k

-- they are of one family, and each address of the first is one of the second
pub record IsSubnet (v k : Network) : Type 0 where
  pub family : v.family ≡ k.family
  pub each : (address : ℕ) → HasAddress v address → HasAddress k address

-- the first is a subnet, and the second has an address more
pub record IsProperSubnet (v k : Network) : Type 0 where
  pub subnet : IsSubnet v k
  pub more : (address : ℕ) × HasAddress k address × ¬ (HasAddress v address)

-- they are of one family, and some address is in both
pub record HaveCommonAddress (v k : Network) : Type 0 where
  pub family : v.family ≡ k.family
  pub both : (address : ℕ) × HasAddress v address × HasAddress k address

-- what each operator says of the two sets
pub record NetworksAreSets : Type 0 where
  pub within_or_equal : MeansOfNetworks WithinEq IsSubnet
  pub contains_or_equal : MeansOfNetworks ContainsEq (λ v k. IsSubnet k v)
  pub within : MeansOfNetworks Before IsProperSubnet
  pub contains : MeansOfNetworks After (λ v k. IsProperSubnet k v)
  pub overlaps : MeansOfNetworks Overlaps HaveCommonAddress
