use Rattle.std.proofs.Common.{Ok, Err, sym, subst}
use Rattle.script_run.specs.declared.engine.AnswerFault.{AnswerFault}
use Rattle.demo_script.specs.declared.answer.Answer.{Answer}
use Rattle.session_orders.specs.Leading.{LeavesUnmade, PlacesLead, PlacesStop}
use Rattle.session_orders.specs.OneStep.{IsOfStep, LeavesHands, TellsRoom}
use Rattle.session_orders.specs.Orders.{IsNotMade, StepsSo}
use Rattle.session_orders.proofs.OneStep.{hands_made, hands_unmade, of_step, room_told, tables_left}
use Rattle.session_orders.proofs.Stepping.{step_leaves, step_led, step_unmade}
use Rattle.session_orders.proofs.orders.step.Goals as goal

pub returns-in-Ok-clause-ok : goal.returns-in-Ok-clause-ok
returns-in-Ok-clause-ok g c =
    subst (λ (a : Answer). PlacesLead g.D.Disk.told c.args.store.now c.step.new.self (StepsSo c.args.session a)) (sym c.told.ensures)
    (step_led g.D.Disk.told c.a_shown_store_is_an_image.ensures c.a_commit_makes_its_table.ensures c.requests_are_entered_in_place.ensures.own c.args.store.now c.step.new.self c.args.session
    c.in-Ok.ensures.leaves c.in-Ok.step c.in-Ok.ensures.steps c.in-Ok.ensures.ready c.in-Ok.ensures.names c.in-Ok.ensures.stops)

pub returns-in-Err-clause-stops : goal.returns-in-Err-clause-stops
returns-in-Err-clause-stops g c =
    subst (λ (a : AnswerFault). PlacesStop g.D.Disk.told c.args.store.now c.step.new.self c.args.session a (IsNotMade c.args.session a)) (sym c.fault_of_step.ensures)
    (step_unmade g.D.Disk.told c.a_shown_store_is_an_image.ensures c.a_commit_makes_its_table.ensures c.requests_are_entered_in_place.ensures.own c.args.store.now c.step.new.self c.args.session
    c.in-Err.ensures.leaves c.in-Err.fault c.in-Err.ensures.steps c.in-Err.ensures.cause c.requires.hand c.in-Err.ensures.survives c.in-Err.ensures.stops)

pub returns-in-Err-clause-unmade : goal.returns-in-Err-clause-unmade
returns-in-Err-clause-unmade g c =
    subst (λ (a : AnswerFault). LeavesUnmade g.D.Disk.told c.args.store.now c.step.new.self a) (sym c.fault_of_step.ensures)
    (step_leaves g.D.Disk.told c.args.store.now c.step.new.self c.in-Err.fault c.in-Err.ensures.cause c.in-Err.ensures.still)

pub returns-in-Ok-clause-made : goal.returns-in-Ok-clause-made
returns-in-Ok-clause-made g c = subst (λ (a : Answer). IsOfStep a) (sym c.told.ensures) (of_step c.step.new.self.names c.in-Ok.step)

pub returns-in-Ok-clause-hands : goal.returns-in-Ok-clause-hands
returns-in-Ok-clause-hands g c =
    subst (λ (a : Answer). LeavesHands c.args.store.now c.step.new.self c.args.session (Ok a)) (sym c.told.ensures)
    (hands_made c.args.store.now c.step.new.self c.args.session c.in-Ok.ensures.others.hands c.step.new.self.names c.in-Ok.step c.in-Ok.ensures.hand)

pub returns-in-Err-clause-hands : goal.returns-in-Err-clause-hands
returns-in-Err-clause-hands g c =
    subst (λ (a : AnswerFault). LeavesHands c.args.store.now c.step.new.self c.args.session (Err a)) (sym c.fault_of_step.ensures)
    (hands_unmade c.args.store.now c.step.new.self c.args.session c.in-Err.ensures.others.hands c.in-Err.fault c.in-Err.ensures.hand)

pub returns-in-Err-clause-room : goal.returns-in-Err-clause-room
returns-in-Err-clause-room g c =
    subst (λ (a : AnswerFault). TellsRoom c.step.new.self c.args.session a) (sym c.fault_of_step.ensures)
    (room_told g.D.Disk.told c.args.store.now c.step.new.self c.args.session c.in-Err.fault c.requires.hand c.in-Err.ensures.hand c.in-Err.ensures.statement c.in-Err.ensures.journal_told c.in-Err.ensures.still)

pub returns-in-Ok-clause-tables : goal.returns-in-Ok-clause-tables
returns-in-Ok-clause-tables g c = tables_left g.D.Disk.told c.args.store.now c.step.new.self c.args.session (Ok c.in-Ok.step) c.in-Ok.ensures.stops

pub returns-in-Err-clause-tables : goal.returns-in-Err-clause-tables
returns-in-Err-clause-tables g c = tables_left g.D.Disk.told c.args.store.now c.step.new.self c.args.session (Err c.in-Err.fault) c.in-Err.ensures.stops
