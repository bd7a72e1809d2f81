use Rattle.summarise_core.proofs.DesummariseInTable.{does_in_table, tells_count}
use Rattle.summarise_core.proofs.desummarise_laws.a_desummarise_steps_in_its_table.Goals as goal

pub returns-clause-steps : goal.returns-clause-steps
returns-clause-steps c = λ step at a b answer there rest does.
    does_in_table c.a_table_steps_with_its_index.ensures.maintain_goes c.a_table_steps_with_its_index.ensures.maintain_completes c.machines_in_one_index.ensures.maintain_knows
    c.a_table_steps_with_its_index.ensures.here c.a_table_steps_with_its_index.ensures.others step at a b answer there rest does

pub returns-clause-counted : goal.returns-clause-counted
returns-clause-counted c = λ before after count account counted told. tells_count before after count account counted told
