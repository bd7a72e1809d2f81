use Rattle.std.proofs.Common.{sym, subst}
use Rattle.std.proofs.lemmas.Result.{IfOk-weaker, on_ok_weaker}
use Rattle.bitmap_scan.specs.ScanAnswers.{IsDamagedAt}
use Rattle.bitmap_scan.specs.declared.stage.Stage.{Stage}
use Rattle.bitmap_scan.proofs.VisibleRows.{sight_of}
use Rattle.bitmap_scan.proofs.scan.Scan.step.Goals as goal

pub returns-in-None-clause-stepped : goal.returns-in-None-clause-stepped
returns-in-None-clause-stepped g c =
    IfOk-weaker c.judge_range.result _ _ (λ did stepped tells statuses had. stepped tells (sight_of c.args.snapshot.now c.args.own c.args.tx.now.first statuses)) c.judge_range.ensures.stepped

pub returns-in-Some-clause-undamaged : goal.returns-in-Some-clause-undamaged
returns-in-Some-clause-undamaged g c =
    let store = c.args.pages.now in
    on_ok_weaker c.read_block.result
    (λ begun tells. subst (λ (stage : Stage). IsDamagedAt store.layout store.pages c.args.self.now.judging.indexes stage → ⊥) (sym c.read_block.ensures.judged) (λ damage. damage))
    c.read_block.ensures.begun
