use Rattle.std.proofs.Common.{◌≡◌, ◌≤◌, length, vec_capacity}
use Rattle.std.specs.List.{filter, range_with_len}
use Rattle.bitmap_scan.specs.ScanHands.{is_candidate}
use Rattle.bitmap_scan.proofs.explain.list.Given as goal

abbrev pub invariant-candidates : goal.invariant-candidates
invariant-candidates l = record {
  block : l.block ≡ l.candidate-index;
  listed : l.blocks.items ≡ filter (is_candidate l.candidates) (range_with_len 0 l.candidate-index);
  few : length l.blocks.items ≤ l.candidate-index;
  room : vec_capacity l.blocks ≡ vec_capacity l.initial.blocks;
}
