use Rattle.std.proofs.Common.{ℕ, ◌+◌, ap, ◌∙◌, arith}
use Rattle.store_layout.specs.RelationCounts.{count_relations}
use Rattle.recovery.specs.Forms.{form_of}
use Rattle.recovery.specs.PageMap.{block_limit}
use Rattle.index_contents.proofs.Relations.{form_is, limit_is}
use Rattle.index_contents.proofs.index.relation_of.Goals as goal

pub returns-clause-there : goal.returns-clause-there
returns-clause-there c = omega (arith, c.requires, count_relations c.args.layout.now, c.table_count-tables.ensures.count)

pub returns-clause-limit : goal.returns-clause-limit
returns-clause-limit c = ap (λ (n : ℕ). block_limit c.args.layout.now (n + c.args.index + 1)) c.table_count-tables.ensures.count ∙ limit_is c.args.layout.now c.args.index c.requires

pub returns-clause-form : goal.returns-clause-form
returns-clause-form c = ap (λ (n : ℕ). form_of c.args.layout.now (n + c.args.index + 1)) c.table_count-tables.ensures.count ∙ form_is c.args.layout.now c.args.index c.requires
