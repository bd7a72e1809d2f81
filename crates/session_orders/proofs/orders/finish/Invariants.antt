use Rattle.std.proofs.Common.{◌≡◌}
use Rattle.std.specs.Prelude.{IsSome}
use Rattle.script_semantics.specs.Moves.{MovedIn}
use Rattle.session_parts.specs.StoreStates.{hand_at}
use Rattle.session_orders.specs.Leading.{PlacesLead}
use Rattle.session_orders.proofs.orders.finish.Given as goal

abbrev pub invariant-steps : goal.invariant-steps
invariant-steps g l = record {
  names : l.store.names ≡ l.initial.store.names;
  hand : IsSome (hand_at l.store l.session);
  leads : PlacesLead g.D.Disk.told l.initial.store l.store (MovedIn l.session l.counter);
}
