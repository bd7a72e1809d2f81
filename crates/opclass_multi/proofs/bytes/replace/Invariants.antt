use Rattle.std.proofs.Common.{◌≡◌, ◌≤◌, length, take, vec_len, vec_capacity}
use Rattle.opclass_multi.proofs.bytes.replace.Given as goal

abbrev pub invariant-others : goal.invariant-others
invariant-others l = record {
  bound : l.at ≤ length l.others;
  size : vec_len l.elements ≡ l.at;
  room : vec_capacity l.elements ≡ vec_capacity l.fn.elements;
  so_far : l.elements.items ≡ take l.at l.others;
}
