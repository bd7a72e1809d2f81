-- the texts of inet ("Network Address Types"): four decimal numbers and the length of a prefix
use Rattle.std.specs.Prelude.{ℕ, ◌+◌, ◌*◌, ◌^◌, ◌≤◌, unwrap_or, List, [], ◌++◌, codes, decimal, Option, None, Some, IfSome}
use Rattle.block_model.specs.Networks.{Network, network_v4}

-- an address as it is written
pub record NetText : Type 0 where
  pub first : ℕ
  pub second : ℕ
  pub third : ℕ
  pub fourth : ℕ
  pub prefix : Option ℕ

-- its numbers are bytes, and its prefix is one of an address of 32 bits
pub record IsNet (n : NetText) : Type 0 where
  pub first : n.first ≤ 255
  pub second : n.second ≤ 255
  pub third : n.third ≤ 255
  pub fourth : n.fourth ≤ 255
  pub prefix : IfSome n.prefix (λ bits. bits ≤ 32)

-- the length of a prefix behind its `/`, or nothing
abbrev pub prefix_bytes : Option ℕ → List ℕ
prefix_bytes None = []
prefix_bytes (Some bits) = codes "/" ++ decimal bits

-- the bytes that write it, each number without leading zeros
abbrev pub net_bytes : NetText → List ℕ
net_bytes n = decimal n.first ++ codes "." ++ decimal n.second ++ codes "." ++ decimal n.third ++ codes "." ++ decimal n.fourth ++ prefix_bytes n.prefix

-- the address that is written, by itself where no prefix is
abbrev pub network_of : NetText → Network
network_of n = network_v4 (n.first * 2 ^ 24 + n.second * 2 ^ 16 + n.third * 2 ^ 8 + n.fourth) (unwrap_or n.prefix 32)
