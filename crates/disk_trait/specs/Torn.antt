-- what a write may leave that a crash or a fault cuts short
use Rattle.std.specs.Prelude.{◌≡◌, ℕ, ◌+◌, List, length, take, drop}

-- any n bytes from an offset on, and all else as it was
pub record Torn (at n : ℕ) (old new : List ℕ) : Type 0 where
  pub length : length new ≡ length old
  pub before : take at new ≡ take at old
  pub after : drop (at + n) new ≡ drop (at + n) old
