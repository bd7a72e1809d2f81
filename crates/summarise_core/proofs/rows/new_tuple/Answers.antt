use Rattle.summarise_core.proofs.Declared.{parts_new}
use Rattle.summarise_core.proofs.rows.new_tuple.Goals as goal

pub returns-in-Ok : goal.returns-in-Ok
returns-in-Ok c = parts_new c.args.layout.now c.args.index c.schema-schema.result.now c.declared_index-declared.result.now c.in-Ok.tuple c.schema-schema.ensures c.declared_index-declared.ensures.is c.in-Ok.ensures.placeholder
