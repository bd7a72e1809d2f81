use Rattle.std.proofs.Common.{◌≡◌, ℕ, ◌<◌, ◌≤◌}
use Rattle.tx_table.specs.PageEntries.{entry_on}
use Rattle.tx_table.proofs.opening.used_on.Given as goal

-- each entry from there on is unused
abbrev pub invariant-entries : goal.invariant-entries
invariant-entries l = record {
  few : l.used ≤ 32640;
  behind : (entry : ℕ) → l.used ≤ entry → entry < 32640 → entry_on l.page entry ≡ 0;
}

abbrev pub decreases-entries : goal.decreases-entries
decreases-entries l = l.used
