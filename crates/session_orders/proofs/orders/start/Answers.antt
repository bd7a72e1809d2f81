use Rattle.std.proofs.Common.{None, Some}
use Rattle.script_semantics.specs.LineTexts.{Submits}
use Rattle.query_words.specs.declared.line.Order.TheVariants as orders
use Rattle.demo_script.specs.declared.answer.Answer.TheVariants as answers
use Rattle.session_orders.specs.Orders.{DoesSo}
use Rattle.session_orders.proofs.Leading.{led_beside}
use Rattle.session_orders.proofs.Stepping.{start_refused, started, submit_keeps}
use Rattle.session_orders.proofs.orders.start.Goals as goal

pub returns-in-Ok-clause-ok : goal.returns-in-Ok-clause-ok
returns-in-Ok-clause-ok g c =
    led_beside g.D.Disk.told c.args.store.now c.submit.new.self (λ p q. Submits p c.args.session c.args.statement None q) (DoesSo c.args.session (orders.Start c.args.statement) answers.Started) (g.met.D.Disk.since_now_is_now c.args.store.now.pages.disk)
    c.submit.ensures.pages c.in-Ok.ensures.submits (λ p q is. submit_keeps p q c.args.session c.args.statement None is) (started c.args.session c.args.statement)

pub returns-in-Err-clause-ok : goal.returns-in-Err-clause-ok
returns-in-Err-clause-ok g c =
    led_beside g.D.Disk.told c.args.store.now c.submit.new.self (λ p q. Submits p c.args.session c.args.statement (Some c.in-Err.refusal) q)
    (DoesSo c.args.session (orders.Start c.args.statement) (answers.Refused c.in-Err.refusal)) (g.met.D.Disk.since_now_is_now c.args.store.now.pages.disk)
    c.submit.ensures.pages c.in-Err.ensures.submits (λ p q is. submit_keeps p q c.args.session c.args.statement (Some c.in-Err.refusal) is)
    (start_refused c.args.session c.args.statement c.in-Err.refusal)
