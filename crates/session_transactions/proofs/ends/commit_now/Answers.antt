use Rattle.std.proofs.Common.{refl, sym, subst}
use Rattle.block_model.specs.declared.reply.Reply.{Reply}
use Rattle.script_semantics.specs.Place.{database_at}
use Rattle.session_parts.specs.declared.hand.Hand.TheVariants as hands
use Rattle.session_parts.specs.declared.hand.Stepped.TheVariants as stepped
use Rattle.session_parts.specs.declared.parts.Parts.{Parts}
use Rattle.session_parts.specs.DamagedPages.{statuses_names}
use Rattle.session_parts.specs.UndoneLaws.{StepsSo}
use Rattle.session_parts.proofs.Undone.{fit_of_parts}
use Rattle.session_transactions.proofs.Stopping.{sure_refused, sure_then}
use Rattle.session_transactions.proofs.Ending.{commits}
use Rattle.session_transactions.proofs.Undoing.{refused_by}
use Rattle.session_transactions.proofs.ends.commit_now.Goals as goal

pub commit-requires-clause-shown : goal.commit-requires-clause-shown
commit-requires-clause-shown g c = λ tells. let shown = c.requires.shown tells c.requires.ready in (database_at shown.3.0, shown.3.1.database)

pub returns-in-Ok : goal.returns-in-Ok
returns-in-Ok g c =
    let told = g.D.Disk.told in
    let old : Parts _ = c.args.parts.now in
    let new : Parts _ = record old { pages = c.commit.new.pages; transactions = c.commit.new.self; journal = c.release.new.self } in
    let laws = c.laws_of_transactions.ensures in
    let made = c.in-Ok.ensures in
    let r : StepsSo told old new c.args.session hands.Commits (stepped.Done c.end_reply.result) =
    subst (λ (reply : Reply). StepsSo told old new c.args.session hands.Commits (stepped.Done reply)) (sym c.end_reply.ensures)
    (commits told (record { sessions = laws.sessions; unseen = laws.end_unseen; committed = laws.committed; rolled_back = laws.rolled_back }) old c.commit.new.pages c.commit.new.self c.enter.new.self c.release.new.self
    c.args.session c.entries_unneeded-unneeded.result c.requires.ready made.outcome.1 c.commit.ensures.over c.commit.ensures.rest made.ended c.requires.room c.entries_unneeded-unneeded.ensures c.enter.ensures.promised c.release.ensures.promised
    c.release.ensures.entries c.requires.fit c.in-Ok.committed (fit_of_parts told old c.args.session hands.Commits c.requires.fit).in_hand made.answer made.database made.statuses c.enter.ensures.entries) in
    record { steps = r.steps; fit = r.fit; others = r.others; stays = r.stays; cause = r.cause; survives = c.commit.ensures.survives; sure = sure_then told old.pages c.commit.new.pages c.in-Ok.committed c.end_reply.result c.end_reply.ensures made.durable }

pub returns-in-Err : goal.returns-in-Err
returns-in-Err g c =
    let told = g.D.Disk.told in
    let old : Parts _ = c.args.parts.now in
    let new : Parts _ = record old { pages = c.commit.new.pages; transactions = c.commit.new.self } in
    let r : StepsSo told old new c.args.session hands.Commits (stepped.Undone c.fault_of.result hands.Commits) =
    refused_by told old new c.args.session hands.Commits c.in-Err.error c.fault_of.result c.requires.fit c.commit.ensures.over c.commit.ensures.rest.leaves
    (record { transactions = c.in-Err.ensures.same; locks = refl; rights = refl; journal = refl; queue = refl; dropped = refl }) c.in-Err.ensures.outcome (statuses_names old.pages.layout c.in-Err.error c.in-Err.ensures.at) c.fault_of.ensures in
    record { steps = r.steps; fit = r.fit; others = r.others; stays = r.stays; cause = r.cause; survives = c.commit.ensures.survives; sure = sure_refused told old.pages new.pages c.in-Err.error hands.Commits c.fault_of.result c.fault_of.ensures }
