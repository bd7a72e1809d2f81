use Rattle.std.proofs.Common.{◌≤◌, length, ◌∙◌, arith}
use Rattle.session_stepper.proofs.Naming.{all_made, none_made, one_made, pages_stay}
use Rattle.session_stepper.proofs.transcribed_store.make_sessions.Goals as goal

pub names-init : goal.names-init
names-init g c = none_made g.D.Disk.told c.args.script.now.script.names c.args.store.now c.requires.none.0 c.requires.none.1

pub names-preserved : goal.names-preserved
names-preserved g c =
    one_made g.D.Disk.told c.args.script.now.script.names c.args.store.now c.requires.sessions.apart c.names.store c.session.new.self c.names.session c.in-Ok.field-0 c.name.result c.names.invariant
    c.name.ensures c.in-Ok.ensures.named c.in-Ok.ensures.places

pub returns-in_default-clause-pages : goal.returns-in_default-clause-pages
returns-in_default-clause-pages g c = pages_stay c.names.store c.session.new.self c.name.result c.session.result c.session.ensures.named ∙ c.names.invariant.pages

pub returns-clause-ok : goal.returns-clause-ok
returns-clause-ok g c =
    let past : length c.args.script.now.script.names ≤ c.names.session = omega (arith, c.names-test.false, c.sessions-session-end.ensures) in
    all_made g.D.Disk.told c.args.script.now.script.names c.args.store.now c.names.store c.names.session c.names.invariant past
