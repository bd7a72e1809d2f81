use Rattle.std.proofs.Common.{sym, subst}
use Rattle.session_parts.specs.declared.hand.Hand.{Hand}
use Rattle.session_parts.specs.declared.hand.Hand.TheVariants as hands
use Rattle.session_parts.specs.StepIs.{stepped_in}
use Rattle.session_parts.specs.UndoneLaws.{StepsSo}
use Rattle.session_starts.specs.Stops.{StopsSo}
use Rattle.session_core.proofs.steps.step_on.Goals as goal

pub returns-in-Selects-clause-so : goal.returns-in-Selects-clause-so
returns-in-Selects-clause-so g c =
    let is = c.select_on.ensures in
    record { steps = is.steps; fit = is.fit; others = is.others; stays = is.stays; cause = is.cause }

pub returns-in-Deletes-clause-so : goal.returns-in-Deletes-clause-so
returns-in-Deletes-clause-so g c =
    let is = c.delete_on.ensures in
    record { steps = is.steps; fit = is.fit; others = is.others; stays = is.stays; cause = is.cause }

pub returns-in-Explains-clause-so : goal.returns-in-Explains-clause-so
returns-in-Explains-clause-so g c =
    let is = c.explain_on.ensures in
    record { steps = is.steps; fit = is.fit; others = is.others; stays = is.stays; cause = is.cause }

pub returns-in-Cleans-clause-so : goal.returns-in-Cleans-clause-so
returns-in-Cleans-clause-so g c =
    let is = c.clean_on.ensures in
    record { steps = is.steps; fit = is.fit; others = is.others; stays = is.stays; cause = is.cause }

pub returns-in-Marks-clause-so : goal.returns-in-Marks-clause-so
returns-in-Marks-clause-so g c =
    let is = c.mark.ensures in
    subst (λ (hand : Hand). StepsSo g.D.Disk.told c.args.parts.now c.mark.new.parts c.args.session hand (stepped_in (hands.Marks c.mark.new.marking) c.mark.result)) (sym c.in-Marks.is)
    (record { steps = is.steps; fit = is.fit; others = is.others; stays = is.stays; cause = is.cause })

pub returns-in-Summarises-clause-so : goal.returns-in-Summarises-clause-so
returns-in-Summarises-clause-so g c =
    let is = c.summarise_on.ensures in
    subst (λ (hand : Hand). StepsSo g.D.Disk.told c.args.parts.now c.summarise_on.new.parts c.args.session hand (stepped_in (hands.Summarises c.summarise_on.new.summarise) c.summarise_on.result)) (sym c.in-Summarises.is)
    (record { steps = is.steps; fit = is.fit; others = is.others; stays = is.stays; cause = is.cause })

pub returns-in-Desummarises-clause-so : goal.returns-in-Desummarises-clause-so
returns-in-Desummarises-clause-so g c =
    let is = c.desummarise_on.ensures in
    subst (λ (hand : Hand). StepsSo g.D.Disk.told c.args.parts.now c.desummarise_on.new.parts c.args.session hand (stepped_in (hands.Desummarises c.desummarise_on.new.desummarise) c.desummarise_on.result)) (sym c.in-Desummarises.is)
    (record { steps = is.steps; fit = is.fit; others = is.others; stays = is.stays; cause = is.cause })

pub returns-in-Completes-clause-so : goal.returns-in-Completes-clause-so
returns-in-Completes-clause-so g c =
    let is = c.complete_on.ensures in
    subst (λ (hand : Hand). StepsSo g.D.Disk.told c.args.parts.now c.complete_on.new.parts c.args.session hand (stepped_in (hands.Completes c.complete_on.new.completing) c.complete_on.result)) (sym c.in-Completes.is)
    (record { steps = is.steps; fit = is.fit; others = is.others; stays = is.stays; cause = is.cause })

pub returns-in-Works-clause-so : goal.returns-in-Works-clause-so
returns-in-Works-clause-so g c =
    let is = c.work_on.ensures in
    subst (λ (hand : Hand). StepsSo g.D.Disk.told c.args.parts.now c.work_on.new.parts c.args.session hand (stepped_in (hands.Works c.work_on.new.requested) c.work_on.result)) (sym c.in-Works.is)
    (record { steps = is.steps; fit = is.fit; others = is.others; stays = is.stays; cause = is.cause })

pub returns-in-Selects-clause-survives : goal.returns-in-Selects-clause-survives
returns-in-Selects-clause-survives g c =
    let old = c.args.parts.now in
    let new = c.select_on.new.parts in
    subst (λ (hand : Hand). StopsSo g.D.Disk.told old.transactions c.args.session old.pages new.pages hand c.select_on.result) (sym c.in-Selects.is) c.select_on.ensures.survives

pub returns-in-Deletes-clause-survives : goal.returns-in-Deletes-clause-survives
returns-in-Deletes-clause-survives g c =
    let old = c.args.parts.now in
    let new = c.delete_on.new.parts in
    subst (λ (hand : Hand). StopsSo g.D.Disk.told old.transactions c.args.session old.pages new.pages hand c.delete_on.result) (sym c.in-Deletes.is) c.delete_on.ensures.survives

pub returns-in-Explains-clause-survives : goal.returns-in-Explains-clause-survives
returns-in-Explains-clause-survives g c =
    let old = c.args.parts.now in
    let new = c.explain_on.new.parts in
    subst (λ (hand : Hand). StopsSo g.D.Disk.told old.transactions c.args.session old.pages new.pages hand c.explain_on.result) (sym c.in-Explains.is) c.explain_on.ensures.survives

pub returns-in-Cleans-clause-survives : goal.returns-in-Cleans-clause-survives
returns-in-Cleans-clause-survives g c =
    let old = c.args.parts.now in
    let new = c.clean_on.new.parts in
    subst (λ (hand : Hand). StopsSo g.D.Disk.told old.transactions c.args.session old.pages new.pages hand c.clean_on.result) (sym c.in-Cleans.is) c.clean_on.ensures.survives

pub returns-in-Marks-clause-survives : goal.returns-in-Marks-clause-survives
returns-in-Marks-clause-survives g c =
    let old = c.args.parts.now in
    let new = c.mark.new.parts in
    subst (λ (hand : Hand). StopsSo g.D.Disk.told old.transactions c.args.session old.pages new.pages hand c.mark.result) (sym c.in-Marks.is) c.mark.ensures.survives

pub returns-in-Summarises-clause-survives : goal.returns-in-Summarises-clause-survives
returns-in-Summarises-clause-survives g c =
    let old = c.args.parts.now in
    let new = c.summarise_on.new.parts in
    subst (λ (hand : Hand). StopsSo g.D.Disk.told old.transactions c.args.session old.pages new.pages hand c.summarise_on.result) (sym c.in-Summarises.is) c.summarise_on.ensures.survives

pub returns-in-Desummarises-clause-survives : goal.returns-in-Desummarises-clause-survives
returns-in-Desummarises-clause-survives g c =
    let old = c.args.parts.now in
    let new = c.desummarise_on.new.parts in
    subst (λ (hand : Hand). StopsSo g.D.Disk.told old.transactions c.args.session old.pages new.pages hand c.desummarise_on.result) (sym c.in-Desummarises.is) c.desummarise_on.ensures.survives

pub returns-in-Completes-clause-survives : goal.returns-in-Completes-clause-survives
returns-in-Completes-clause-survives g c =
    let old = c.args.parts.now in
    let new = c.complete_on.new.parts in
    subst (λ (hand : Hand). StopsSo g.D.Disk.told old.transactions c.args.session old.pages new.pages hand c.complete_on.result) (sym c.in-Completes.is) c.complete_on.ensures.survives

pub returns-in-Works-clause-survives : goal.returns-in-Works-clause-survives
returns-in-Works-clause-survives g c =
    let old = c.args.parts.now in
    let new = c.work_on.new.parts in
    subst (λ (hand : Hand). StopsSo g.D.Disk.told old.transactions c.args.session old.pages new.pages hand c.work_on.result) (sym c.in-Works.is) c.work_on.ensures.survives

pub select_on-requires-clause-scans : goal.select_on-requires-clause-scans
select_on-requires-clause-scans g c = (c.in-Selects.field-0, c.in-Selects.is)

pub delete_on-requires-clause-scans : goal.delete_on-requires-clause-scans
delete_on-requires-clause-scans g c = (c.in-Deletes.field-0, c.in-Deletes.is)

pub explain_on-requires-clause-which : goal.explain_on-requires-clause-which
explain_on-requires-clause-which g c = (c.in-Explains.field-0, c.in-Explains.is)

pub clean_on-requires-clause-which : goal.clean_on-requires-clause-which
clean_on-requires-clause-which g c = (c.in-Cleans.field-0, c.in-Cleans.is)
