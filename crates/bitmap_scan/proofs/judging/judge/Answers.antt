use Rattle.std.proofs.Common.{refl, sym, subst}
use Rattle.std.proofs.lemmas.Result.{IfOk-weaker}
use Rattle.bitmap_scan.specs.declared.stage.Stage.{Stage}
use Rattle.bitmap_scan.specs.IndexReaders.{hand_at}
use Rattle.bitmap_scan.specs.ScanSteps.{JudgesTo}
use Rattle.bitmap_scan.proofs.judging.judge.Goals as goal

pub returns-in-Extent-clause-judged : goal.returns-in-Extent-clause-judged
returns-in-Extent-clause-judged g c =
    let store = c.args.pages.now in
    let query = c.args.query.now in
    IfOk-weaker c.begin.result _ _
    (λ o begun tells.
    subst (λ (stage : Stage). JudgesTo store.layout store.pages (hand_at query c.args.readers.now stage c.args.extent c.args.candidates.now) (hand_at query c.args.readers.now o.1 o.0 c.begin.new.candidates)) (sym c.in-Extent.is)
    (begun tells query c.args.extent refl c.requires.scan.indexes))
    c.begin.ensures.judged

pub returns-in_ok-stage-in-Map-clause-judged : goal.returns-in_ok-stage-in-Map-clause-judged
returns-in_ok-stage-in-Map-clause-judged g c = λ tells.
    let store = c.args.pages.now in
    let query = c.args.query.now in
    subst (λ (stage : Stage). JudgesTo store.layout store.pages (hand_at query c.args.readers.now stage c.args.extent c.args.candidates.now) (hand_at query c.args.readers.now c.in_ok-stage-in-Map.stage c.args.extent c.args.candidates.now)) (sym c.in-Map.is)
    (c.in_ok-stage-in-Map.ensures.judged tells query c.args.candidates.now c.requires.scan.indexes)

pub returns-in_ok-stage-in-Tuple-clause-judged : goal.returns-in_ok-stage-in-Tuple-clause-judged
returns-in_ok-stage-in-Tuple-clause-judged g c = λ tells.
    let store = c.args.pages.now in
    let query = c.args.query.now in
    subst (λ (stage : Stage). JudgesTo store.layout store.pages (hand_at query c.args.readers.now stage c.args.extent c.args.candidates.now) (hand_at query c.judge_tuple.new.readers c.in_ok-stage-in-Tuple.stage c.args.extent c.judge_tuple.new.candidates)) (sym c.in-Tuple.is)
    (c.in_ok-stage-in-Tuple.ensures.judged tells query (sym c.as_slice-conds.ensures.conds) c.requires.scan.indexes)
