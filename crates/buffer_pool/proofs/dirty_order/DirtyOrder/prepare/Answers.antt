use Rattle.std.proofs.Common.{sym, subst}
use Rattle.std.specs.Box.{boxed_slice_items}
use Rattle.buffer_pool.specs.InOrder.{IsInOrder, Walk}
use Rattle.buffer_pool.proofs.Orders.{reached}
use Rattle.buffer_pool.proofs.dirty_order.DirtyOrder.prepare.Goals as goal

pub returns-then-reaches-clause-order : goal.returns-then-reaches-clause-order
returns-then-reaches-clause-order c =
    let low = c.reaches.ensures c.if-reaches.true in
    let walk : Walk = record { pages = boxed_slice_items c.self.inside.pages; count = c.self.inside.count; next = c.self.inside.next; from = c.self.inside.from } in
    reached c.args.slots.now walk low.0 c.args.from low.1 low.2 (subst (λ (w : Walk). IsInOrder c.args.slots.now w) (sym c.self.view_is) c.requires.order)
