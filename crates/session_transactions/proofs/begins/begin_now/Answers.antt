use Rattle.std.proofs.Common.{Err, refl, sym, subst}
use Rattle.script_semantics.specs.Place.{database_at}
use Rattle.tx_table.specs.declared.faults.BeginFault.{BeginFault}
use Rattle.tx_table.specs.BeginAnswers.{BeginOutcome, NamesStatusPage}
use Rattle.block_model.specs.declared.reply.Reply.TheVariants as replies
use Rattle.session_parts.specs.declared.hand.Hand.TheVariants as hands
use Rattle.session_parts.specs.declared.hand.Stepped.TheVariants as stepped
use Rattle.session_parts.specs.declared.parts.Parts.{Parts}
use Rattle.session_parts.specs.DamagedPages.{statuses_names}
use Rattle.session_parts.specs.UndoneLaws.{StepsSo}
use Rattle.session_transactions.proofs.Beginning.{begun, the_begin_laws}
use Rattle.session_transactions.proofs.Undoing.{refused_by}
use Rattle.session_transactions.proofs.begins.begin_now.Goals as goal

pub begin-requires-clause-shown : goal.begin-requires-clause-shown
begin-requires-clause-shown g c = λ tells. let shown = c.requires.shown tells c.requires.ready in (database_at shown.3.0, shown.3.1.database)

pub returns-in-Ok : goal.returns-in-Ok
returns-in-Ok g c =
    let told = g.D.Disk.told in
    let old : Parts _ = c.args.parts.now in
    let laws = c.laws_of_transactions.ensures in
    let made = c.in-Ok.ensures in
    let r : StepsSo told old (record old { pages = c.begin.new.pages; transactions = c.begin.new.self; journal = c.enter.new.self }) c.args.session (hands.Begins c.args.numbers) (stepped.Done (replies.Begun c.in-Ok.t)) =
    begun told (the_begin_laws laws.sessions laws.begin_unseen laws.begun laws.rows) old c.args.session c.args.numbers c.requires.fit c.requires.ready c.begin.new.pages c.begin.new.self c.enter.new.self c.in-Ok.t
    made.outcome.1.1 c.begin.ensures.over c.begin.ensures.rest c.known.ensures.places c.requires.some made.begun made.statuses made.database c.enter.ensures.entries c.enter.ensures.promised c.requires.room in
    record { steps = r.steps; fit = r.fit; others = r.others; stays = r.stays; cause = r.cause; survives = c.begin.ensures.survives }

pub returns-in-Store : goal.returns-in-Store
returns-in-Store g c =
    let told = g.D.Disk.told in
    let old : Parts _ = c.args.parts.now in
    let new : Parts _ = record old { pages = c.begin.new.pages; transactions = c.begin.new.self } in
    let r : StepsSo told old new c.args.session (hands.Begins c.args.numbers) (stepped.Undone c.fault_of.result (hands.Begins c.in-Err.unbegun.active)) =
    subst (λ active. StepsSo told old new c.args.session (hands.Begins c.args.numbers) (stepped.Undone c.fault_of.result (hands.Begins active))) (sym c.in-Err.ensures.back)
    (refused_by told old new c.args.session (hands.Begins c.args.numbers) c.in-Store.error c.fault_of.result c.requires.fit c.begin.ensures.over c.begin.ensures.rest.leaves
    (record { transactions = c.in-Err.ensures.same; locks = refl; rights = refl; journal = refl; queue = refl; dropped = refl })
    (subst (λ (f : BeginFault). BeginOutcome told old.transactions.tx.next old.pages c.begin.new.pages (Err f)) c.in-Store.is c.in-Err.ensures.outcome).1
    (statuses_names old.pages.layout c.in-Store.error (subst (λ (f : BeginFault). NamesStatusPage old.pages.layout f) c.in-Store.is c.in-Err.ensures.names)) c.fault_of.ensures) in
    record { steps = r.steps; fit = r.fit; others = r.others; stays = r.stays; cause = r.cause; survives = c.begin.ensures.survives }
