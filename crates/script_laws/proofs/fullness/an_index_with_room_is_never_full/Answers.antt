use Rattle.script_laws.proofs.FullIndexes.{never_full, three_blocks}
use Rattle.script_laws.proofs.fullness.an_index_with_room_is_never_full.Goals as goal

pub returns-clause-ranges : goal.returns-clause-ranges
returns-clause-ranges c = never_full

pub returns-clause-three : goal.returns-clause-three
returns-clause-three c = three_blocks c.tuples_of_an_index_are_lawful.ensures.shapes
