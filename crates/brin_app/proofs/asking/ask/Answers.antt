use Rattle.std.proofs.Common.{◌≡◌, ap}
use Rattle.script_semantics.specs.LineTexts.{named}
use Rattle.script_semantics.specs.Place.{Place}
use Rattle.session_parts.specs.StoreStates.{StoreState}
use Rattle.brin_app.proofs.Heeding.{ask_done, ask_lost, ask_refused}
use Rattle.session_orders.proofs.Leading.{led_beside}
use Rattle.brin_app.proofs.Saying.{say_unmade}
use Rattle.session_orders.proofs.Stepping.{naming_keeps}
use Rattle.brin_app.proofs.asking.ask.Goals as goal

pub returns-in-Ok-clause-ok : goal.returns-in-Ok-clause-ok
returns-in-Ok-clause-ok g c =
    let Made = λ (p m : Place). m ≡ named p c.args.session.now in
    ask_done g.D.Disk.told c.args.store.now c.session.new.self c.act.new.store c.args.session.now c.args.order c.in-Ok.number c.act.result c.in-Ok.ensures.named.0 c.in-Ok.ensures.named.1
    (led_beside g.D.Disk.told c.args.store.now c.session.new.self Made Made (g.met.D.Disk.since_now_is_now c.args.store.now.pages.disk) (ap (λ (t : StoreState _). t.pages) c.in-Ok.ensures.named.2) c.in-Ok.ensures.places
    (λ p m is. naming_keeps p m c.args.session.now is) (λ p m is. is)) c.act.ensures.ok

pub returns-in-Ok-clause-stops : goal.returns-in-Ok-clause-stops
returns-in-Ok-clause-stops g c =
    let Made = λ (p m : Place). m ≡ named p c.args.session.now in
    ask_lost g.D.Disk.told c.args.store.now c.session.new.self c.act.new.store c.args.session.now c.args.order c.in-Ok.number c.act.result c.in-Ok.ensures.named.0 c.in-Ok.ensures.named.1
    (led_beside g.D.Disk.told c.args.store.now c.session.new.self Made Made (g.met.D.Disk.since_now_is_now c.args.store.now.pages.disk) (ap (λ (t : StoreState _). t.pages) c.in-Ok.ensures.named.2) c.in-Ok.ensures.places
    (λ p m is. naming_keeps p m c.args.session.now is) (λ p m is. is)) c.act.ensures.stops

pub returns-in-Err-clause-ok : goal.returns-in-Err-clause-ok
returns-in-Err-clause-ok g c =
    ask_refused g.D.Disk.told c.args.store.now c.session.new.self c.args.session.now c.args.order c.in-Err.fault c.past_sessions.result (g.met.D.Disk.since_now_is_now c.args.store.now.pages.disk) c.in-Err.ensures.named
    c.past_sessions.ensures.ok

pub returns-in-Err-clause-stops : goal.returns-in-Err-clause-stops
returns-in-Err-clause-stops g c =
    say_unmade g.D.Disk.told c.args.store.now c.session.new.self c.args.session.now c.args.order c.in-Err.fault c.past_sessions.result (g.met.D.Disk.since_now_is_now c.args.store.now.pages.disk) c.in-Err.ensures.named c.past_sessions.ensures.memory
