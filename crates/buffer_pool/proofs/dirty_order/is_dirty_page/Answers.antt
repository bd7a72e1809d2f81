use Rattle.std.proofs.Common.{sym, ◌∙◌, ap}
use Rattle.std.specs.Prelude.{is_some}
use Rattle.buffer_pool.proofs.Orders.{untold}
use Rattle.buffer_pool.proofs.dirty_order.is_dirty_page.Goals as goal

pub returns-clause-none : goal.returns-clause-none
returns-clause-none c = λ none.
    untold c.args.slots.now c.args.from c.args.page c.in-Some.frame c.requires.apart c.in-Some.ensures.found (sym (c.is_some.ensures ∙ ap is_some c.dirty_page.ensures) ∙ none)
