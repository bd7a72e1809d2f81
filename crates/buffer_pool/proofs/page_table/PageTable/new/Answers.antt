use Rattle.std.proofs.Common.{List, Option, rules, sym, subst}
use Rattle.buffer_pool.specs.declared.held.Held.{Held}
use Rattle.buffer_pool.specs.Table.{IsTable}
use Rattle.buffer_pool.proofs.Tables.{empty_table}
use Rattle.buffer_pool.proofs.page_table.PageTable.new.Goals as goal

pub invariant_of-result : goal.invariant_of-result
invariant_of-result c =
    let mask = c.mask_for-mask.result in
    let placed = c.in_ok-buckets.buckets in
    let clock = c.in_ok-clock.clock in
    let order = c.in_ok-order.order in
    subst (λ (s : List (Option Held)). IsTable s placed mask clock order) (sym c.in_ok-slots.ensures)
    (empty_table c.args.frames mask placed clock order c.in_ok-buckets.ensures.frames c.in_ok-buckets.ensures.heads c.in_ok-buckets.ensures.last c.in_ok-clock.ensures c.in_ok-order.ensures (search rules) (search rules))
