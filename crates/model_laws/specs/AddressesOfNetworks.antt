-- networks as the sets of their addresses ("Network Address Types")
use Rattle.std.specs.Prelude.{◌≡◌, ◌↔◌, ◌⊎◌, ℕ, ◌+◌, ◌-◌, ◌/◌, ◌%◌, ◌^◌, ◌==◌, ◌<◌, ◌≤◌, if◌then◌else◌}
use Rattle.block_model.specs.Networks.{Network}

-- how many bits an address has: 32 in IPv4, and 128 in IPv6
abbrev pub address_bits : ℕ → ℕ
address_bits family = if family == 4 then 32 else 128

-- the bit of that place, counted from the front, of an address of so many bits
abbrev pub bit_at : ℕ → ℕ → ℕ → ℕ
bit_at bits address place = address / 2 ^ (bits - (place + 1)) % 2

-- the number is an address of the network's family, and its first bits are the network's, as many as the prefix says
pub record HasAddress (n : Network) (address : ℕ) : Type 0 where
  pub whole : address < 2 ^ address_bits n.family
  pub first_bits : (place : ℕ) → place < n.prefix → bit_at (address_bits n.family) address place ≡ bit_at (address_bits n.family) n.address place

-- a network of IPv4 or of IPv6, whose address and prefix have at most as many bits as its family's addresses
pub record IsInternetNetwork (n : Network) : Type 0 where
  pub family : (n.family ≡ 4) ⊎ (n.family ≡ 6)
  pub prefix : n.prefix ≤ address_bits n.family
  pub address : n.address < 2 ^ address_bits n.family

-- how many addresses have the first bits of the network
abbrev pub address_count : Network → ℕ
address_count n = 2 ^ (address_bits n.family - n.prefix)

-- the least of them: no bit is set behind the prefix
abbrev pub first_address : Network → ℕ
first_address n = n.address - n.address % address_count n

-- a network has exactly so many addresses, one after the other from the first one on
abbrev pub NetworkIsBlock : Type 0
NetworkIsBlock = (n : Network) → IsInternetNetwork n → (address : ℕ)
    → HasAddress n address ↔ ((first_address n ≤ address) × (address < first_address n + address_count n))
