use Rattle.std.proofs.Common.{refl}
use Rattle.page_layout.proofs.SlotsRead.{one_list, started_has, unstarted_free}
use Rattle.page_layout.proofs.laws.slots_are_read.Goals as goal

pub returns : goal.returns
returns c = record {
  one = λ form page slots has. one_list form page slots has;
  started = λ form page heap started. started_has form page heap started;
  unstarted = λ form page zeros. unstarted_free form page 8192 refl zeros;
}
