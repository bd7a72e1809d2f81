use Rattle.std.proofs.Common.{arith}
use Rattle.vacuum_core.proofs.Onward.{few_indexes}
use Rattle.session_maintenance.proofs.complete_answers.indexes_are_listed.Goals as goal

pub returns-clause-few : goal.returns-clause-few
returns-clause-few c = λ table. let few = c.tables_have_forms.ensures.few_indexes in omega (arith, few_indexes c.args.layout.now table, few)

pub returns-clause-of_table : goal.returns-clause-of_table
returns-clause-of_table c = λ table at index there. (c.every_index_of_a_table_is_listed.ensures.only c.args.layout.now table at index there).1
