use Rattle.std.proofs.Common.{◌≡◌, ℕ, ◌+◌, ◌-◌, ◌≤◌, suc, min, length, ap, sym, arith}
use Rattle.block_model.specs.declared.schema.Schema.{Schema}
use Rattle.block_model.specs.declared.schema.Sizes.{Sizes}
use Rattle.store_layout.specs.RelationCounts.{count_relations}
use Rattle.store_layout.proofs.DiskPlaces.{front_of_relation}
use Rattle.store_layout.proofs.layout.Layout.blocks_before.Goals as goal

pub blocks_of-requires-2 : goal.blocks_of-requires-2
blocks_of-requires-2 c =
    let tables : length c.schema-schema.result.now.tables ≡ length c.args.self.now.schema.tables = ap (λ (s : Schema). length s.tables) c.schema-schema.ensures in
    omega (arith, count_relations c.args.self.now, tables)

pub returns-clause-exact : goal.returns-clause-exact
returns-clause-exact c =
    let d = c.args.self.now in
    let before : ℕ = c.args.relation - 1 in
    let next : c.args.relation ≡ suc before = omega arith in
    let within : before ≤ length d.schema.tables + length d.schema.indexes = omega (arith, count_relations d) in
    let tables : length c.schema-schema.result.now.tables ≡ length d.schema.tables = ap (λ (s : Schema). length s.tables) c.schema-schema.ensures in
    let heaps : c.min-heaps.result ≡ min before (length d.schema.tables) = rw (sym tables, sym c.from-before.ensures) (omega arith) in
    rw (c.blocks_of.ensures.exact, c.blocks_of-2.ensures.exact, heaps, c.sizes-sizes.ensures, c.from-before.ensures, front_of_relation d c.args.relation before next within)
    (omega (arith, c.from.ensures, ap (λ (s : Sizes). s.status_blocks) c.sizes-sizes.ensures))
