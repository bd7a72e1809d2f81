use Rattle.heap_rows.proofs.TableBlocks.{blocks_first, one_list}
use Rattle.heap_rows.proofs.laws.blocks_of_a_table_are_one_list.Goals as goal

pub returns-clause-one : goal.returns-clause-one
returns-clause-one c = one_list c.slots_are_read.ensures.one

pub returns-clause-first : goal.returns-clause-first
returns-clause-first c = blocks_first
