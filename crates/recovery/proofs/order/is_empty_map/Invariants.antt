use Rattle.std.proofs.Common.{◌≡◌, ℕ, ◌<◌}
use Rattle.std.specs.Prelude.{slice_index}
use Rattle.recovery.proofs.order.is_empty_map.Given as goal

-- each byte below that one but the first is zero
abbrev pub invariant-rest : goal.invariant-rest
invariant-rest l = (at : ℕ) → 0 < at → at < l.at → slice_index l.bytes at ≡ 0
