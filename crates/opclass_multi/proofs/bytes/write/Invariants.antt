use Rattle.std.proofs.Common.{◌≡◌, ◌+◌, ◌++◌, length, take}
use Rattle.std.specs.Int.{bytes_high_first}
use Rattle.std.specs.List.{flat_map}
use Rattle.opclass_multi.specs.Encoding.{element_bytes, written_at}
use Rattle.opclass_multi.proofs.bytes.write.Given as goal

abbrev pub invariant-elements : goal.invariant-elements
invariant-elements l = record {
  place : l.at ≡ 2 + length (flat_map element_bytes (take l.element-index l.elements));
  so_far : l.out ≡ written_at 0 (bytes_high_first 2 (length l.elements) ++ flat_map element_bytes (take l.element-index l.elements)) l.fn.out;
}
