use Rattle.std.proofs.Common.{Ok, refl, sym, ap, ◌∙◌}
use Rattle.std.proofs.lemmas.Option.{same_Some}
use Rattle.snapshot_core.specs.declared.sessions.Open.{Open}
use Rattle.session_parts.specs.declared.hand.Hand.TheVariants as hands
use Rattle.session_parts.specs.declared.hand.Stepped.TheVariants as stepped
use Rattle.session_parts.specs.declared.parts.Parts.{Parts}
use Rattle.session_parts.specs.DamagedPages.{heap_names}
use Rattle.session_parts.specs.StepIs.{stepped_in}
use Rattle.session_parts.specs.UndoneLaws.{StepsSo}
use Rattle.session_parts.proofs.Undone.{fit_of_parts}
use Rattle.session_transactions.proofs.Finals.{marks_so}
use Rattle.session_transactions.proofs.Frames.{over_marked}
use Rattle.session_transactions.proofs.Hits.{hit_within}
use Rattle.session_transactions.proofs.Lacking.{more_entries}
use Rattle.session_transactions.proofs.Undoing.{refused_by}
use Rattle.session_transactions.proofs.marks.mark_hit.Goals as goal

pub returns-in-Ok : goal.returns-in-Ok
returns-in-Ok g c =
    let told = g.D.Disk.told in
    let old : Parts _ = c.args.parts.now in
    let laws = c.laws_of_marks.ensures in
    let r : StepsSo told old (record old { pages = c.mark.new.pages; journal = c.enter.new.self }) c.args.session (hands.Marks c.args.marking.now) (stepped_in (hands.Marks c.behind.new.marking) (Ok c.behind.result)) =
    marks_so told old c.args.session c.args.marking.now c.next_hit-hit.result c.requires.fit c.requires.ready c.next_hit-hit.ensures
    (record { sessions = laws.sessions; copies = laws.copies; mark = laws.mark; unseen = laws.unseen }) c.mark.new.pages c.enter_look.new.journal c.enter.new.self c.open.result.now.t c.requires.free
    (λ o is. ap (λ (x : Open). x.t) (same_Some _ _ (sym c.open.ensures ∙ is))) c.in-Ok.ensures.outcome.1 c.in-Ok.ensures.marked c.in-Ok.ensures.slots c.mark.ensures.others c.enter_look.ensures.entries c.enter_look.ensures.promised
    c.enter.ensures.entries c.enter.ensures.promised (more_entries c.args.marking.now.look c.args.session _ _ _ _ c.requires.room c.enter.ensures.entries c.enter_look.ensures.entries) (stepped_in (hands.Marks c.behind.new.marking) (Ok c.behind.result)) c.behind.ensures in
    record { steps = r.steps; fit = r.fit; others = r.others; stays = r.stays; cause = r.cause; survives = c.mark.ensures.survives }

pub returns-in-Err : goal.returns-in-Err
returns-in-Err g c =
    let told = g.D.Disk.told in
    let old : Parts _ = c.args.parts.now in
    let in_hand = (fit_of_parts told old c.args.session (hands.Marks c.args.marking.now) c.requires.fit).in_hand in
    let r : StepsSo told old (record old { pages = c.mark.new.pages }) c.args.session (hands.Marks c.args.marking.now) (stepped.Undone c.fault_of.result (hands.Marks c.args.marking.now)) =
    refused_by told old (record old { pages = c.mark.new.pages }) c.args.session (hands.Marks c.args.marking.now) c.in-Err.error c.fault_of.result c.requires.fit
    (over_marked told old.transactions.tx c.args.marking.now.query.table old.pages c.mark.new.pages (fit_of_parts told old c.args.session (hands.Marks c.args.marking.now) c.requires.fit).over c.mark.ensures.others)
    c.mark.ensures.others.leaves (record { transactions = refl; locks = refl; rights = refl; journal = refl; queue = refl; dropped = refl }) c.in-Err.ensures.outcome
    (heap_names old.pages.layout c.args.marking.now.query.table c.next_hit-hit.result.spot.block c.in-Err.error in_hand.1.table (hit_within old.pages.layout.sizes.heap_blocks c.args.marking.now.hits.items c.args.marking.now.next c.next_hit-hit.result in_hand.1.within c.next_hit-hit.ensures) c.in-Err.ensures.at)
    c.fault_of.ensures in
    record { steps = r.steps; fit = r.fit; others = r.others; stays = r.stays; cause = r.cause; survives = c.mark.ensures.survives }
