use Rattle.std.proofs.Common.{◌≡◌, ℕ, Bool, List, sym, ap, subst, ◌∙◌}
use Rattle.page_locks.specs.declared.did.Did.{Did}
use Rattle.page_locks.specs.declared.did.Did.TheVariants as did
use Rattle.bitmap_scan.specs.Finds.{FindHand, FindSteps, IsNext}
use Rattle.bitmap_scan.specs.ScanHands.{IsJudging}
use Rattle.bitmap_scan.specs.ScanSteps.{point_at}
use Rattle.bitmap_scan.proofs.Finding.{comes_to, goes_on}
use Rattle.bitmap_scan.proofs.Next.{reads_none}
use Rattle.bitmap_scan.proofs.scan.Scan.judge_range.Goals as goal

pub returns-then-is_judged-clause-stepped : goal.returns-then-is_judged-clause-stepped
returns-then-is_judged-clause-stepped g c = λ tells sight.
    let store = c.args.pages.now in
    let self = c.self.inside in
    let judging = c.step.new.self in
    let next = c.next_candidate-self-inside.result in
    let old : FindHand = record { judging = self.judging; read = self.read; next = self.next; found = self.found.items; last = self.last; room = self.rows.room } in
    let new : FindHand = record { judging = judging; read = self.read; next = next; found = self.found.items; last = self.last; room = self.rows.room } in
    let work : IsJudging self.judging.stage = subst (λ (h : FindHand). IsJudging h.judging.stage) (sym c.self.view_is) c.requires.work in
    let none : self.read ≡ 0 = reads_none self.judging.stage old work c.self.invariant.0.at in
    let first : IsNext judging.candidates 0 next = subst (λ (l : List Bool). IsNext l 0 next) c.candidates.ensures c.next_candidate-self-inside.ensures in
    let point = c.point_at-point.ensures ∙ ap point_at c.stage.ensures in
    subst (λ (h : FindHand). FindSteps store.layout store.pages sight h new c.did_at.result) c.self.view_is
    (subst (λ (d : Did). FindSteps store.layout store.pages sight old new d) (sym c.did_at.ensures)
    (comes_to store.layout store.pages sight old judging c.step.ensures.scan.indexes c.step.ensures.query (c.in_ok-step.ensures.judged tells) c.point_at-point.result point
    (c.is_judged.ensures.yes c.if-is_judged.true) next (subst (λ (n : ℕ). IsNext judging.candidates n next) (sym none) first)))

pub returns-else-is_judged-clause-stepped : goal.returns-else-is_judged-clause-stepped
returns-else-is_judged-clause-stepped g c = λ tells sight.
    let store = c.args.pages.now in
    let self = c.self.inside in
    let judging = c.step.new.self in
    let old : FindHand = record { judging = self.judging; read = self.read; next = self.next; found = self.found.items; last = self.last; room = self.rows.room } in
    let new : FindHand = record { judging = judging; read = self.read; next = self.next; found = self.found.items; last = self.last; room = self.rows.room } in
    let point = c.point_at-point.ensures ∙ ap point_at c.stage.ensures in
    subst (λ (h : FindHand). FindSteps store.layout store.pages sight h new (did.Moved c.point_at-point.result)) c.self.view_is
    (goes_on store.layout store.pages sight old judging c.step.ensures.scan.indexes c.step.ensures.query (c.in_ok-step.ensures.judged tells) c.point_at-point.result point
    c.in_ok-step.ensures.at (c.is_judged.ensures.no c.if-is_judged.false))
