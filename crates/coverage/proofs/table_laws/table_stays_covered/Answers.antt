use Rattle.coverage.proofs.TableOpening.{table_covered, table_opened, table_stopped, new_table_kept}
use Rattle.coverage.proofs.TableSeen.{table_run_kept, table_between_kept, table_run_blocks}
use Rattle.coverage.proofs.TableEntries.{step_entry}
use Rattle.coverage.proofs.table_laws.table_stays_covered.Goals as goal

pub returns : goal.returns
returns c = record {
  kept = table_run_kept;
  between = table_between_kept;
  entries = step_entry;
  blocks = table_run_blocks;
  covered = table_covered;
  opened = table_opened;
  stopped = table_stopped;
  new = new_table_kept;
}
