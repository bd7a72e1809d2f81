use Rattle.summarise_core.proofs.Declared.{row_taken}
use Rattle.summarise_core.proofs.rows.rows_are_taken.Goals as goal

pub returns : goal.returns
returns c = λ values have. row_taken c.rows_of_the_table_are_taken.ensures c.args.layout.now c.args.index c.declared_index.ensures.columns c.declared_index.ensures.classes values have
