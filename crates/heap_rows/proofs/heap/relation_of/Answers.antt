use Rattle.std.proofs.Common.{◌+◌, refl, arith}
use Rattle.store_layout.specs.RelationCounts.{count_relations}
use Rattle.heap_rows.proofs.Heaps.{limit_is}
use Rattle.heap_rows.proofs.heap.relation_of.Goals as goal

pub returns-clause-there : goal.returns-clause-there
returns-clause-there c = omega (arith, c.requires, count_relations c.args.layout.now)

pub returns-clause-limit : goal.returns-clause-limit
returns-clause-limit c = limit_is c.args.layout.now c.args.table (c.args.table + 1) refl c.requires
