use Rattle.std.proofs.Common.{◌≡◌}
use Rattle.std.specs.List.{filter, range_with_len}
use Rattle.summary_directory.specs.Verdicts.{all_keep}
use Rattle.summary_directory.proofs.listing.list.Given as goal

abbrev pub invariant-candidates : goal.invariant-candidates
invariant-candidates l = l.blocks ≡ filter (all_keep l.verdicts) (range_with_len 0 l.block)
