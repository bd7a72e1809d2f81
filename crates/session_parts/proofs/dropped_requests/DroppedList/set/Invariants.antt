use Rattle.std.proofs.Common.{◌≡◌, ◌+◌, ◌-◌, ◌≤◌, length, take}
use Rattle.std.specs.Vec.{vec_capacity}
use Rattle.session_parts.specs.HandsAsk.{named_requests}
use Rattle.session_parts.proofs.dropped_requests.DroppedList.set.Given as goal

abbrev pub invariant-requests : goal.invariant-requests
invariant-requests l = record {
  so_far : l.self-inside.requests.items ≡ named_requests l.layout (take l.request-index l.requests);
  room : length l.self-inside.requests.items + (length l.requests - l.request-index) ≤ vec_capacity l.self-inside.requests;
  enough : 8 ≤ vec_capacity l.self-inside.requests;
}
