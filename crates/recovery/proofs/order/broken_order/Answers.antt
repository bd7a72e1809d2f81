use Rattle.std.proofs.Common.{◌≡◌, ℕ, ◌<◌, ◌≤◌, length, ap, subst, arith}
use Rattle.std.specs.Prelude.{IsTrue, slice_index}
use Rattle.block_model.specs.declared.schema.Schema.{Schema}
use Rattle.store_layout.specs.DiskLayout.{relation_blocks}
use Rattle.recovery.specs.ShownPages.{shown_pages}
use Rattle.recovery.specs.Orders.{AreFirstStarted, IsLate, OrderedAt, StandsInOrder, kind_in}
use Rattle.recovery.proofs.AllOrder.{late_amiss, none_weaker, some_weaker, statuses_amiss, statuses_ordered, table_ordered}
use Rattle.recovery.proofs.order.broken_order.Goals as goal

pub returns-then-relation-eq-STATUSES-clause-none : goal.returns-then-relation-eq-STATUSES-clause-none
returns-then-relation-eq-STATUSES-clause-none g c =
    let layout = c.args.layout.now in
    let old = g.D.Disk.told c.args.disk.now in
    none_weaker c.unstarted_status.result ((block : ℕ) → block < c.blocks_of-limit.result → kind_in c.args.kinds.now block ≡ 1)
    (IsTrue old.tells_contents → OrderedAt layout (shown_pages layout c.args.pool.now old.contents) c.args.relation)
    (λ each tells.
    statuses_ordered layout c.args.pool.now old c.args.relation c.requires.relation c.args.kinds.now c.requires.kinds tells c.if-relation-eq-STATUSES.true (λ block low. each block (omega (arith, low, c.blocks_of-limit.ensures))))
    c.unstarted_status.ensures.none

pub returns-then-relation-eq-STATUSES-clause-some : goal.returns-then-relation-eq-STATUSES-clause-some
returns-then-relation-eq-STATUSES-clause-some g c =
    let layout = c.args.layout.now in
    let old = g.D.Disk.told c.args.disk.now in
    some_weaker c.unstarted_status.result (λ block. (block < c.blocks_of-limit.result) × (kind_in c.args.kinds.now block ≡ 1 → ⊥))
    (λ block. (block < slice_index (relation_blocks layout) c.args.relation) × (IsTrue old.tells_contents → StandsInOrder layout (shown_pages layout c.args.pool.now old.contents) (record { relation = c.args.relation; block = block }) → ⊥))
    (λ block amiss.
    let low : block < slice_index (relation_blocks layout) c.args.relation = omega (arith, amiss.0, c.blocks_of-limit.ensures) in
    (low, λ tells stands. statuses_amiss layout c.args.pool.now old c.args.relation c.requires.relation c.args.kinds.now c.requires.kinds tells c.if-relation-eq-STATUSES.true block low amiss.1 stands))
    c.unstarted_status.ensures.some

pub returns-then-from-len-clause-none : goal.returns-then-from-len-clause-none
returns-then-from-len-clause-none g c =
    let layout = c.args.layout.now in
    let old = g.D.Disk.told c.args.disk.now in
    let within : c.args.relation ≤ length layout.schema.tables = omega (arith, c.if-from-len.true, c.from.ensures, c.len.ensures, ap (λ (s : Schema). length s.tables) c.schema.ensures) in
    none_weaker c.started_late.result (AreFirstStarted c.blocks_of-limit.result c.args.kinds.now) (IsTrue old.tells_contents → OrderedAt layout (shown_pages layout c.args.pool.now old.contents) c.args.relation)
    (λ first tells.
    table_ordered layout c.args.pool.now old c.args.relation c.requires.relation c.args.kinds.now c.requires.kinds tells (omega (arith, c.if-relation-eq-STATUSES.false)) within
    (subst (λ (n : ℕ). AreFirstStarted n c.args.kinds.now) c.blocks_of-limit.ensures first))
    c.started_late.ensures.none

pub returns-then-from-len-clause-some : goal.returns-then-from-len-clause-some
returns-then-from-len-clause-some g c =
    let layout = c.args.layout.now in
    let old = g.D.Disk.told c.args.disk.now in
    some_weaker c.started_late.result (λ block. (block < c.blocks_of-limit.result) × IsLate c.args.kinds.now block)
    (λ block. (block < slice_index (relation_blocks layout) c.args.relation) × (IsTrue old.tells_contents → StandsInOrder layout (shown_pages layout c.args.pool.now old.contents) (record { relation = c.args.relation; block = block }) → ⊥))
    (λ block amiss.
    let low : block < slice_index (relation_blocks layout) c.args.relation = omega (arith, amiss.0, c.blocks_of-limit.ensures) in
    (low, λ tells stands. late_amiss layout c.args.pool.now old c.args.relation c.requires.relation c.args.kinds.now c.requires.kinds tells (omega (arith, c.if-relation-eq-STATUSES.false)) block low amiss.1 stands))
    c.started_late.ensures.some
