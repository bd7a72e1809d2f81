use Rattle.std.proofs.Common.{◌≡◌, fold, map}
use Rattle.std.specs.List.{range_with_len}
use Rattle.opclass_bloom.specs.Bits.{with_position}
use Rattle.opclass_bloom.specs.Positions.{position}
use Rattle.opclass_bloom.proofs.class.Bloom.set_positions.Given as goal

abbrev pub invariant-positions : goal.invariant-positions
invariant-positions l = l.s ≡ fold with_position l.initial.s (map (position l.self.bits l.hash) (range_with_len 0 l.i))
