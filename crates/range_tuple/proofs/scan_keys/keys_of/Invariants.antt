use Rattle.std.proofs.Common.{◌≡◌, ◌==◌, false, take}
use Rattle.std.specs.List.{list_any}
use Rattle.range_tuple.proofs.scan_keys.keys_of.Given as goal

abbrev pub invariant-columns : goal.invariant-columns
invariant-columns l = list_any (λ k. k.column == l.place) (take l.keys-index l.columns) ≡ false
