use Rattle.brin_insert.proofs.Numbers.{new_columns}
use Rattle.brin_insert.proofs.index_insert.IndexInsert.new.Goals as goal

pub returns-clause-of_index : goal.returns-clause-of_index
returns-clause-of_index c =
    new_columns c.args.layout.now c.args.index c.schema.result.now c.declared_index-declared.result.now c.in_ok-widened.widened c.in_ok-widened.ensures.placeholder c.schema.ensures c.declared_index-declared.ensures.is
