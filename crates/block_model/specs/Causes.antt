-- when a fault may be answered: a count of faults never falls, and has risen in a call that answers one
use Rattle.std.specs.Prelude.{ℕ, ◌+◌, ◌-◌, ◌^◌, ◌≤◌, min, OnErr}
use Rattle.std.specs.declared.result.Result.{Result}
use Rattle.std.proofs.Common.{arith}

-- the count has risen, or stands at its type's end
abbrev pub Rose : ℕ → ℕ → Type 0
Rose before now = min (before + 1) (2 ^ 64 - 1) ≤ now

-- the count has not fallen, and has risen where the call failed
pub record HasCause {T E : Type 0} (before now : ℕ) (result : Result T E) : Type 0 where
  pub later : before ≤ now
  pub failed : OnErr result (Rose before now)

-- a rise after an earlier moment is one from that moment on
pub rose_earlier : (a b c : ℕ) → a ≤ b → Rose b c → Rose a c
rose_earlier a b c h r = let p : min (b + 1) (2 ^ 64 - 1) ≤ c = r in omega arith
