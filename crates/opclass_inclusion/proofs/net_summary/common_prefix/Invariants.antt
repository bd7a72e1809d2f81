use Rattle.std.proofs.Common.{◌≡◌, ◌≤◌}
use Rattle.opclass_inclusion.specs.NetHulls.{agreeing_bits, common_prefix}
use Rattle.opclass_inclusion.proofs.net_summary.common_prefix.Given as goal

abbrev pub invariant-shorter : goal.invariant-shorter
invariant-shorter l = record {
  same : agreeing_bits l.a l.b l.prefix ≡ common_prefix l.a l.b;
  within_first : l.prefix ≤ l.a.prefix;
  within_second : l.prefix ≤ l.b.prefix;
}

abbrev pub decreases-shorter : goal.decreases-shorter
decreases-shorter l = l.prefix
