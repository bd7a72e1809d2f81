use Rattle.std.proofs.Common.{length, arith}
use Rattle.std.proofs.lemmas.List.{get_or_append_left, length-take-le}
use Rattle.buffer_pool.proofs.Orders.{put_in}
use Rattle.buffer_pool.proofs.dirty_order.refill.Goals as goal

pub returns-clause-order : goal.returns-clause-order
returns-clause-order c =
    put_in c.args.slots.now c.args.frames.now c.put_in_order.new.pages _ c.args.from (length c.args.frames.now) (omega (arith, length-take-le (length c.args.frames.now) c.args.pages.now c.requires.room)) (λ s less. get_or_append_left c.put_in_order.new.pages _ 0 s less)
    c.put_in_order.ensures.rising c.put_in_order.ensures.all c.requires.all
