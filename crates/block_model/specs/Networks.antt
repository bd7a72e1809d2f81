-- addresses with the length of their network's prefix ("Network Address Types")
use Rattle.std.specs.Prelude.{ℕ, ◌-◌, ◌/◌, ◌^◌, ◌==◌, if◌then◌else◌, ◌≤◌, ◌<◌, ◌≡◌}

pub record Network : Type 0 where
  pub family : ℕ
  pub prefix : ℕ
  pub address : ℕ

-- how many bits an address of the family has
abbrev pub width_of : ℕ → ℕ
width_of family = if family == 4 then 32 else 128

-- the first bits of an address, as a number
abbrev pub leading_bits : Network → ℕ → ℕ
leading_bits n bits = n.address / 2 ^ (width_of n.family - bits)

-- an address of the fourth family, of which there is one kind today
pub record IsNetwork (n : Network) : Type 0 where
  pub family : n.family ≡ 4
  pub prefix : n.prefix ≤ 32
  pub address : n.address < 2 ^ 32

abbrev pub network_v4 : ℕ → ℕ → Network
network_v4 address prefix = record { family = 4; prefix = prefix; address = address }
