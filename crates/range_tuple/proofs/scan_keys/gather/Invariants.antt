use Rattle.std.proofs.Common.{◌≡◌, ◌≤◌, ◌==◌, ℕ, All, true, length, take}
use Rattle.std.specs.List.{filter, list_any}
use Rattle.block_model.specs.declared.limits.TheConstants.{MAX_CONDITIONS}
use Rattle.range_tuple.proofs.Gathering.{IsBefore, asked_among, is_on_one}
use Rattle.range_tuple.proofs.scan_keys.gather.Given as goal

abbrev pub invariant-conds : goal.invariant-conds
invariant-conds l = record {
  few : l.count ≤ l.at;
  places : length l.columns ≡ MAX_CONDITIONS;
  room : l.end ≤ length (filter (asked_among l.conds l.at) l.conds);
  each : All (IsBefore l.conds l.comparisons l.end) (take l.count l.columns);
  all : (place : ℕ) → is_on_one place (take l.at l.conds) ≡ true → list_any (λ k. k.column == place) (take l.count l.columns) ≡ true;
}
