use Rattle.std.proofs.Common.{◌≡◌, take}
use Rattle.session_scans.specs.FoundLists.{rows_of}
use Rattle.session_scans.proofs.lists.rows_of.Given as goal

abbrev pub invariant-found : goal.invariant-found
invariant-found l = l.rows ≡ rows_of (take l.found-index l.initial.found)
