use Rattle.std.proofs.Common.{length, ap, arith}
use Rattle.block_model.specs.declared.schema.Schema.{Schema}
use Rattle.store_layout.specs.RelationCounts.{count_relations}
use Rattle.store_layout.proofs.relations.count_relations.Goals as goal

pub returns : goal.returns
returns c =
    omega (arith, count_relations c.args.layout.now, c.len.ensures, c.len-2.ensures, ap (λ (s : Schema). length s.tables) c.schema-schema.ensures, ap (λ (s : Schema). length s.indexes) c.schema-schema.ensures)
