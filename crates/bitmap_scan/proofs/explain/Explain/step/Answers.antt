use Rattle.std.proofs.Common.{ap, subst, ◌∙◌}
use Rattle.page_locks.specs.declared.did.Did.TheVariants as did
use Rattle.bitmap_scan.specs.Explains.{ExplainHand, ExplainSteps}
use Rattle.bitmap_scan.specs.ScanSteps.{point_at}
use Rattle.bitmap_scan.proofs.Explaining.{ends, goes_on}
use Rattle.bitmap_scan.proofs.explain.Explain.step.Goals as goal

pub returns-then-is_judged-clause-stepped : goal.returns-then-is_judged-clause-stepped
returns-then-is_judged-clause-stepped g c = λ tells.
    let store = c.args.pages.now in
    let old = c.self.inside.judging in
    let new = c.step.new.self in
    subst (λ (h : ExplainHand). ExplainSteps store.layout store.pages h.judging new (did.Finished c.point_at-point.result)) c.self.view_is
    (ends store.layout store.pages old new c.step.ensures.scan.indexes c.step.ensures.query (c.in_ok-step.ensures.judged tells) c.point_at-point.result (c.point_at-point.ensures ∙ ap point_at c.stage.ensures)
    (c.is_judged.ensures.yes c.if-is_judged.true))

pub returns-else-is_judged-clause-stepped : goal.returns-else-is_judged-clause-stepped
returns-else-is_judged-clause-stepped g c = λ tells.
    let store = c.args.pages.now in
    let old = c.self.inside.judging in
    let new = c.step.new.self in
    subst (λ (h : ExplainHand). ExplainSteps store.layout store.pages h.judging new (did.Moved c.point_at-point.result)) c.self.view_is
    (goes_on store.layout store.pages old new c.step.ensures.scan.indexes c.step.ensures.query (c.in_ok-step.ensures.judged tells) c.point_at-point.result (c.point_at-point.ensures ∙ ap point_at c.stage.ensures)
    (c.in_ok-step.ensures.at) (c.is_judged.ensures.no c.if-is_judged.false))
