use Rattle.opclass_multi.proofs.Reducing.{reduces, one_reduction}
use Rattle.opclass_multi.proofs.Widening.{within_limit}
use Rattle.opclass_multi.proofs.laws.reduced_in_one_way.Goals as goal

pub returns : goal.returns
returns c = record {
  reduced = reduces;
  no_other = one_reduction;
  within = within_limit;
}
