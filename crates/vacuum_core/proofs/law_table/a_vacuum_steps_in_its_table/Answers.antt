use Rattle.vacuum_core.proofs.InTable.{does_in_table, none_spared, tells_counts}
use Rattle.vacuum_core.proofs.law_table.a_vacuum_steps_in_its_table.Goals as goal

pub returns-clause-steps : goal.returns-clause-steps
returns-clause-steps c = λ step a b answer of does.
    does_in_table c.a_table_steps_with_its_index.ensures.sweeps c.a_table_steps_with_its_index.ensures.here c.a_table_steps_with_its_index.ensures.others c.every_index_of_a_table_is_listed.ensures.ascending step a b answer of does

pub returns-clause-counted : goal.returns-clause-counted
returns-clause-counted c = λ a b count account counted told. tells_counts a.standing a b count account counted told

pub returns-clause-spared : goal.returns-clause-spared
returns-clause-spared c = λ s old new u same. none_spared s old new u same
