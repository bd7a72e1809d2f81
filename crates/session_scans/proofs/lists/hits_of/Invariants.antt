use Rattle.std.proofs.Common.{◌≡◌, take}
use Rattle.session_scans.specs.FoundLists.{hits_of}
use Rattle.session_scans.proofs.lists.hits_of.Given as goal

abbrev pub invariant-found : goal.invariant-found
invariant-found l = l.hits.items ≡ hits_of (take l.found-index l.initial.found)
