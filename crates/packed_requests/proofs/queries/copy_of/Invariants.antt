use Rattle.std.proofs.Common.{◌≡◌, take}
use Rattle.packed_requests.proofs.queries.copy_of.Given as goal

abbrev pub invariant-conds : goal.invariant-conds
invariant-conds l = l.conds ≡ take l.cond-index l.cond-items
