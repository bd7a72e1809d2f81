use Rattle.std.proofs.Common.{◌≡◌, None}
use Rattle.range_tuple.specs.TupleFaults.{are_nothing, first, state_is_wrong}
use Rattle.range_tuple.proofs.head.wrong_state.Given as goal

abbrev pub invariant-states : goal.invariant-states
invariant-states l = record {
  none : first (state_is_wrong l.count l.bytes) l.k ≡ None;
  nothing : l.nothing ≡ are_nothing l.bytes l.k;
}
