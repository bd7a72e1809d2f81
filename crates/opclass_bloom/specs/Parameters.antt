-- the parameters of the class
use Rattle.std.specs.Prelude.{◌≡◌, ℕ, ◌%◌, ◌≤◌}

-- how many bits a summary has, and how many positions a value
pub record Parameters : Type 0 where
  pub bits : ℕ
  pub hashes : ℕ

-- from 8 to 2048 whole bytes, and from 1 to 16 hashes
pub record AreWithinLimits (p : Parameters) : Type 0 where
  pub whole_bytes : p.bits % 8 ≡ 0
  pub least_bits : 64 ≤ p.bits
  pub most_bits : p.bits ≤ 16384
  pub least_hashes : 1 ≤ p.hashes
  pub most_hashes : p.hashes ≤ 16
