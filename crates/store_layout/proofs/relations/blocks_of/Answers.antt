use Rattle.std.proofs.Common.{◌≡◌, ◌≤◌, ◌<◌, length, sym, ◌∙◌, ap, arith}
use Rattle.block_model.specs.declared.schema.Schema.{Schema}
use Rattle.block_model.specs.declared.schema.Sizes.{Sizes}
use Rattle.store_layout.specs.RelationCounts.{blocks_of_index, blocks_of_statuses, blocks_of_table, count_relations}
use Rattle.store_layout.proofs.relations.blocks_of.Goals as goal

pub returns-then-relation-eq0 : goal.returns-then-relation-eq0
returns-then-relation-eq0 c =
    let first : c.args.relation ≡ 0 = omega (arith, c.if-relation-eq0.true) in
    ap (λ (s : Sizes). s.status_blocks) c.sizes-sizes.ensures ∙ sym (blocks_of_statuses c.args.layout.now c.args.relation first)

pub returns-then-from-len : goal.returns-then-from-len
returns-then-from-len c =
    let some : 0 < c.args.relation = omega (arith, c.if-relation-eq0.false) in
    let low : c.args.relation ≤ length c.args.layout.now.schema.tables = omega (arith, c.if-from-len.true, c.from.ensures, c.len.ensures, ap (λ (s : Schema). length s.tables) c.schema.ensures) in
    ap (λ (s : Sizes). s.heap_blocks) c.sizes-sizes.ensures ∙ sym (blocks_of_table c.args.layout.now c.args.relation some low)

pub returns : goal.returns
returns c =
    let past : length c.args.layout.now.schema.tables < c.args.relation = omega (arith, c.if-from-len.false, c.from.ensures, c.len.ensures, ap (λ (s : Schema). length s.tables) c.schema.ensures) in
    ap (λ (s : Sizes). s.index_blocks) c.sizes-sizes.ensures
    ∙ sym (blocks_of_index c.args.layout.now c.args.relation past (omega (arith, c.requires, count_relations c.args.layout.now)))
