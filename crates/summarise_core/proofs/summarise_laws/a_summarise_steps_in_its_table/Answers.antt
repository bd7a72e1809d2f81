use Rattle.summarise_core.specs.Summarises.{count_of}
use Rattle.summarise_core.proofs.InTable.{adds_count, does_in_table, full_in_table, tells_count}
use Rattle.summarise_core.proofs.summarise_laws.a_summarise_steps_in_its_table.Goals as goal

pub returns-clause-steps : goal.returns-clause-steps
returns-clause-steps c = λ step at a b answer there of rest does.
    does_in_table c.a_table_steps_with_its_index.ensures.maintain_goes c.a_table_steps_with_its_index.ensures.maintain_completes c.machines_in_one_index.ensures.maintain_knows
    c.a_table_steps_with_its_index.ensures.here c.a_table_steps_with_its_index.ensures.others step at a b answer there of rest does

pub returns-clause-full : goal.returns-clause-full
returns-clause-full c = λ layout pages locks blocks s at number a there full. full_in_table layout pages locks blocks s at number a there full

pub returns-clause-counted : goal.returns-clause-counted
returns-clause-counted c = λ a b count account other counted told. tells_count a.wish a.standing (count_of a) count (count_of b) account other counted told

pub returns-clause-added : goal.returns-clause-added
returns-clause-added c = λ a b count before account is counted told. adds_count a count before (count_of b) account is counted told
