use Rattle.std.proofs.Common.{◌≡◌, ◌+◌, ◌++◌, take, vec_len, vec_capacity}
use Rattle.opclass_multi.proofs.join.open.Given as goal

abbrev pub invariant-others : goal.invariant-others
invariant-others l = record {
  size : vec_len l.elements ≡ vec_len l.fn.elements + l.other-index;
  room : vec_capacity l.elements ≡ vec_capacity l.fn.elements;
  so_far : l.elements.items ≡ l.fn.elements.items ++ take l.other-index l.others;
}
