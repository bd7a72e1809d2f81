use Rattle.coverage.proofs.Covered.{kept_covered, read_formed}
use Rattle.coverage.proofs.Runs.{run_kept, run_blocks, entries_stay, named_past_map}
use Rattle.coverage.proofs.index_laws.index_stays_covered.Goals as goal

pub returns : goal.returns
returns c = record {
  kept = run_kept;
  covered = kept_covered;
  formed = λ w x t kept here. kept.sound.formed x t here;
  read = read_formed;
  entries = λ s w v kept step free range. entries_stay s w v kept step free range;
  past_map = named_past_map;
  blocks = run_blocks;
}
