use Rattle.heap_rows.proofs.TableBlocks.{no_blocks}
use Rattle.heap_rows.proofs.laws.unstarted_tables_have_no_blocks.Goals as goal

pub returns : goal.returns
returns c = no_blocks
