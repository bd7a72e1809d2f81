-- how an address is kept: in two words
use Rattle.std.specs.Prelude.{◌≡◌, ℕ, ◌+◌, ◌*◌, ◌/◌, ◌%◌, ◌^◌, ◌<◌, ◌≤◌}
use Rattle.std.proofs.Common.{arith}
use Rattle.block_model.specs.declared.net.Net.TheInside.{Inside}
use Rattle.block_model.specs.Networks.{Network}

abbrev pub network_of : Inside → Network
network_of n = record { family = n.family; prefix = n.prefix; address = n.high * 2 ^ 64 + n.low }

-- today's addresses have 32 bits
pub record HasNetworkForm (n : Inside) : Type 0 where
  pub family : n.family ≡ 4
  pub prefix : n.prefix ≤ 32
  pub high : n.high ≡ 0
  pub low : n.low < 2 ^ 32

abbrev pub net_of : Network → Inside
net_of n = record { family = n.family; prefix = n.prefix; high = n.address / 2 ^ 64; low = n.address % 2 ^ 64 }

high_word : (h l : ℕ) → h ≡ 0 → l < 2 ^ 32 → (h * 2 ^ 64 + l) / 2 ^ 64 ≡ h
high_word h l e b = omega arith

low_word : (h l : ℕ) → h ≡ 0 → l < 2 ^ 32 → (h * 2 ^ 64 + l) % 2 ^ 64 ≡ l
low_word h l e b = omega arith

pub net_of_network : (n : Inside) → HasNetworkForm n → net_of (network_of n) ≡ n
net_of_network n k = λ i. record { family = n.family; prefix = n.prefix; high = high_word n.high n.low k.high k.low i; low = low_word n.high n.low k.high k.low i }
