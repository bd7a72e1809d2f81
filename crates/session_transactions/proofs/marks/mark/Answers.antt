use Rattle.std.proofs.Common.{Option, refl, sym, ◌∙◌, subst}
use Rattle.std.specs.Prelude.{IfSome}
use Rattle.heap_rows.specs.RowPlaces.{IsInUse}
use Rattle.page_store.specs.Survives.{Survives}
use Rattle.page_map.specs.PageMap.{View}
use Rattle.tx_table.specs.Durable.{IsBefore}
use Rattle.tx_table.proofs.Parts.{before_then}
use Rattle.session_parts.specs.declared.hand.Hand.TheVariants as hands
use Rattle.session_parts.specs.declared.hand.Hit.{Hit}
use Rattle.session_parts.specs.declared.parts.Parts.{Parts}
use Rattle.session_parts.specs.declared.hand.Stepped.TheVariants as stepped
use Rattle.session_parts.specs.UndoneLaws.{StepsSo}
use Rattle.session_parts.specs.StepIs.{stepped_in}
use Rattle.session_parts.proofs.Undone.{fit_of_parts}
use Rattle.session_transactions.proofs.Behind.{behind, in_use, over_still, still_in_use}
use Rattle.session_transactions.proofs.Undoing.{refused_by}
use Rattle.session_transactions.proofs.marks.mark.Goals as goal

pub hit_conflicts-requires-clause-used : goal.hit_conflicts-requires-clause-used
hit_conflicts-requires-clause-used g c = λ tells.
    in_use g.D.Disk.told c.laws_of_marks.ensures.sessions c.laws_of_marks.ensures.copies c.args.parts.now c.args.session c.args.marking.now c.next_hit-hit.result c.requires.fit c.requires.shown c.in-Ok.ensures.outcome.0
    c.next_hit-hit.ensures tells

pub mark_hit-requires-clause-used : goal.mark_hit-requires-clause-used
mark_hit-requires-clause-used g c = λ tells.
    let told = g.D.Disk.told in
    let old : Parts _ = c.args.parts.now in
    let pages = c.hit_conflicts.new.pages in
    let keeps = c.hit_conflicts.ensures.kept in
    let before = sym keeps.leaves.tells ∙ tells in
    subst (λ (x : Option Hit). IfSome x (λ (hit : Hit). IsInUse pages.layout pages.pages c.args.marking.now.query.table hit.spot)) (sym c.next_hit-hit.ensures)
    (still_in_use told old pages c.args.session c.args.marking.now keeps c.args.marking.now.query.table c.next_hit-hit.result
    (in_use told c.laws_of_marks.ensures.sessions c.laws_of_marks.ensures.copies old c.args.session c.args.marking.now c.next_hit-hit.result c.requires.fit c.requires.shown c.in-Ok.ensures.outcome.0 c.next_hit-hit.ensures before)
    before)

pub returns-in-Ok-true : goal.returns-in-Ok-true
returns-in-Ok-true g c =
    let made = c.refuse.ensures in
    let r = behind g.D.Disk.told c.args.parts.now c.hit_conflicts.new.pages c.args.session c.args.marking.now c.hit_conflicts.ensures.kept c.refuse.new.parts (stepped_in (hands.Marks c.refuse.new.marking) c.refuse.result) c.in-Ok.ensures.outcome.0 c.in-Ok-true.ensures.outcome.1
    (record { steps = made.steps; fit = made.fit; others = made.others; stays = made.stays; cause = made.cause }) in
    record { steps = r.steps; fit = r.fit; others = r.others; stays = r.stays; cause = r.cause; survives = subst (λ (new : View _). Survives g.D.Disk.told (IsBefore c.args.parts.now.pages) c.args.parts.now.pages new) (sym made.pages) c.hit_conflicts.ensures.survives }

pub returns-in-Ok-false : goal.returns-in-Ok-false
returns-in-Ok-false g c =
    let made = c.mark_hit.ensures in
    let r = behind g.D.Disk.told c.args.parts.now c.hit_conflicts.new.pages c.args.session c.args.marking.now c.hit_conflicts.ensures.kept c.mark_hit.new.parts (stepped_in (hands.Marks c.mark_hit.new.marking) c.mark_hit.result) c.in-Ok.ensures.outcome.0 c.in-Ok-false.ensures.outcome.1
    (record { steps = made.steps; fit = made.fit; others = made.others; stays = made.stays; cause = made.cause }) in
    record { steps = r.steps; fit = r.fit; others = r.others; stays = r.stays; cause = r.cause; survives = before_then g.D.Disk.told c.args.parts.now.pages c.hit_conflicts.new.pages c.mark_hit.new.parts.pages c.hit_conflicts.ensures.kept c.hit_conflicts.ensures.survives made.survives }

pub returns-in-Err-hit_conflicts : goal.returns-in-Err-hit_conflicts
returns-in-Err-hit_conflicts g c =
    let told = g.D.Disk.told in
    let old : Parts _ = c.args.parts.now in
    let new : Parts _ = record old { pages = c.hit_conflicts.new.pages } in
    let keeps = c.hit_conflicts.ensures.kept in
    let r : StepsSo told old new c.args.session (hands.Marks c.args.marking.now) (stepped.Undone c.fault_of-in-Err-hit_conflicts.result (hands.Marks c.args.marking.now)) =
    refused_by told old new c.args.session (hands.Marks c.args.marking.now) c.in-Err-hit_conflicts.error c.fault_of-in-Err-hit_conflicts.result c.requires.fit
    (over_still told old.transactions.tx old.pages c.hit_conflicts.new.pages (fit_of_parts told old c.args.session (hands.Marks c.args.marking.now) c.requires.fit).over keeps) keeps.leaves
    (record { transactions = refl; locks = refl; rights = refl; journal = refl; queue = refl; dropped = refl }) c.in-Err-hit_conflicts.ensures.outcome c.in-Err-hit_conflicts.ensures.names c.fault_of-in-Err-hit_conflicts.ensures in
    record { steps = r.steps; fit = r.fit; others = r.others; stays = r.stays; cause = r.cause; survives = c.hit_conflicts.ensures.survives }
