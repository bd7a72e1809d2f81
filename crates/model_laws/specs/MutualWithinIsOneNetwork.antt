-- addresses that are within each other
use Rattle.std.specs.Prelude.{◌≡◌, ◌↔◌}
use Rattle.block_model.specs.Networks.{Network, leading_bits}
use Rattle.model_laws.specs.WithinIsPreorder.{IsWithin}

-- the same family, prefix and bits of the prefix: no more than the bits behind it, those of a host, differ
pub record AreOfOneNetwork (v k : Network) : Type 0 where
  pub family : v.family ≡ k.family
  pub prefix : v.prefix ≡ k.prefix
  pub leading : leading_bits v v.prefix ≡ leading_bits k k.prefix

-- two are within each other exactly where this holds
abbrev pub MutualWithinIsOneNetwork : Type 0
MutualWithinIsOneNetwork = (v k : Network) → (IsWithin v k × IsWithin k v) ↔ AreOfOneNetwork v k
