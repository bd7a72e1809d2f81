use Rattle.std.proofs.Common.{◌≡◌, ℕ, ◌<◌, ◌≤◌, length, get_or, sym, ◌∙◌, ap, subst, arith}
use Rattle.std.specs.Prelude.{IsTrue, IfSome, Option, slice_index}
use Rattle.store_layout.specs.DiskLayout.{relation_blocks}
use Rattle.disk_trait.specs.Told.{Told}
use Rattle.buffer_pool.specs.PoolState.{PoolState}
use Rattle.page_map.specs.PageMap.{PageMap}
use Rattle.recovery.specs.ShownPages.{shown_pages}
use Rattle.recovery.specs.Judged.{AreJudgedIn}
use Rattle.recovery.specs.Orders.{StandsInOrder}
use Rattle.recovery.proofs.AllOrder.{order_of_all}
use Rattle.recovery.proofs.PagesJudged.{judged_in_after, one_judged}
use Rattle.recovery.specs.PooledPages.{HoldsDurablePages}
use Rattle.recovery.proofs.order.judge_order.Goals as goal

pub broken_order-requires-clause-kinds : goal.broken_order-requires-clause-kinds
broken_order-requires-clause-kinds g c =
    let layout = c.args.layout.now in
    let pool = c.args.pool.now in
    let old = g.D.Disk.told c.args.disk.now in
    let mid = g.D.Disk.told c.relations.disk in
    let relation = c.relations.relation in
    let kinds = c.index-facts-from.result in
    let limit = slice_index (relation_blocks layout) relation in
    let inside : relation < length (relation_blocks layout) = omega (arith, c.relations-test.true, c.count_relations-relation-end.ensures) in
    let own : kinds ≡ get_or c.args.facts.now relation kinds = c.index-facts-from.is ∙ ap (λ (n : ℕ). get_or c.args.facts.now n kinds) c.from.ensures in
    subst (λ (p : PoolState). AreJudgedIn layout p mid relation limit kinds) (sym c.relations.invariant.pool)
    (judged_in_after layout pool relation limit kinds old mid c.relations.invariant.same (one_judged layout pool old c.args.facts.now relation kinds c.requires.judged inside own))

pub returns-in-Some-clause-cause : goal.returns-in-Some-clause-cause
returns-in-Some-clause-cause g c =
    let layout = c.args.layout.now in
    let pool = c.args.pool.now in
    let old = g.D.Disk.told c.args.disk.now in
    let mid = g.D.Disk.told c.relations.disk in
    let new = g.D.Disk.told c.broken_order.new.disk in
    let relation = c.relations.relation in
    let limit = slice_index (relation_blocks layout) relation in
    let inside : relation < length (relation_blocks layout) = omega (arith, c.relations-test.true, c.count_relations-relation-end.ensures) in
    let some = subst (λ (o : Option ℕ). IfSome o (λ block. (block < limit) × (IsTrue mid.tells_contents → StandsInOrder layout (shown_pages layout c.relations.pool mid.contents) (record { relation = relation; block = block }) → ⊥))) c.in-Some.is c.in-Ok.ensures.some in
    let same : shown_pages layout pool old.contents ≡ shown_pages layout c.relations.pool mid.contents =
    ap (λ (p : PoolState). shown_pages layout p old.contents) (sym c.relations.invariant.pool) ∙ ap (λ (t : Told). shown_pages layout c.relations.pool t.contents) (sym c.relations.invariant.same) in
    let rose : mid.faults ≤ new.faults = c.in-Ok.ensures.cause.later in (
      λ tells. record {
        place = record { relation = relation; block = c.in-Some.block };
        is = record { relation = inside; block = some.0 };
        begins = c.page_at-at.ensures;
        breaks = λ stands.
            some.1 (ap (λ (t : Told). t.tells_contents) c.relations.invariant.same ∙ tells) (subst (λ (m : PageMap). StandsInOrder layout m (record { relation = relation; block = c.in-Some.block })) same stands);
      },
      omega (arith, c.relations.invariant.later, rose),
    )

pub returns-clause-order : goal.returns-clause-order
returns-clause-order g c = λ tells.
    order_of_all c.args.layout.now (shown_pages c.args.layout.now c.args.pool.now (g.D.Disk.told c.args.disk.now).contents) c.relations.relation (omega (arith, c.relations-test.false, c.count_relations-relation-end.ensures)) (c.relations.invariant.order tells)

pub broken_order-requires-clause-held : goal.broken_order-requires-clause-held
broken_order-requires-clause-held g c = subst (HoldsDurablePages c.args.layout.now) (sym c.relations.invariant.pool) c.requires.held
