use Rattle.std.proofs.Common.{◌≡◌, drop}
use Rattle.packed_requests.specs.Reading.{numbers_behind}
use Rattle.packed_requests.proofs.reading.numbers_behind.Given as goal

-- the numbers behind those of the shapes that are left
abbrev pub invariant-shapes : goal.invariant-shapes
invariant-shapes l = numbers_behind (drop l.shape-index l.shapes) l.rest ≡ numbers_behind l.shapes l.numbers
