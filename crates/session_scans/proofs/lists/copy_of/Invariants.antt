use Rattle.std.proofs.Common.{◌≡◌, take}
use Rattle.session_scans.proofs.lists.copy_of.Given as goal

abbrev pub invariant-conds : goal.invariant-conds
invariant-conds l = l.conds ≡ take l.cond-index l.cond-items
