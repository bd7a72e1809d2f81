use Rattle.std.proofs.Common.{◌≡◌, ◌++◌, drop, length}
use Rattle.packed_requests.specs.Reading.{values_in}
use Rattle.packed_requests.proofs.reading.values_in.Given as goal

-- the values so far, and then those of the shapes that are left
abbrev pub invariant-shapes : goal.invariant-shapes
invariant-shapes l = record {
  told : l.values ++ values_in (drop l.shape-index l.shapes) l.rest ≡ values_in l.shapes l.numbers;
  count : length l.values ≡ l.shape-index;
}
