use Rattle.brin_insert.proofs.Tables.{does_in_table}
use Rattle.brin_insert.proofs.Waiting.{full_in_table, waits_in_table}
use Rattle.brin_insert.proofs.laws.an_insert_steps_in_its_table.Goals as goal

pub returns-clause-steps : goal.returns-clause-steps
returns-clause-steps c = λ store table rows_per_page blocks at n s b k row r stage next copied after t v point there steps u task kept.
    does_in_table c.a_table_steps_with_its_index.ensures.insert_goes c.a_table_steps_with_its_index.ensures.insert_completes c.a_table_steps_with_its_index.ensures.here c.a_table_steps_with_its_index.ensures.others c.machines_in_one_index.ensures.insert_knows
    store table rows_per_page blocks at n s b k row r stage next copied after t v point there steps u task kept

pub returns-clause-waits : goal.returns-clause-waits
returns-clause-waits c = λ layout pages locks table rows_per_page blocks at n s b k page row r stage copied t there waits.
    waits_in_table layout pages locks table rows_per_page blocks at n s b k row r copied t there c.machines_in_one_index.ensures.insert_knows page stage waits

pub returns-clause-full : goal.returns-clause-full
returns-clause-full c = λ layout pages locks table rows_per_page blocks at n s b k number row r stage copied t there full.
    full_in_table layout pages locks table rows_per_page blocks at n s b k row r copied t there number stage full
