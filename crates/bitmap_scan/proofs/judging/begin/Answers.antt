use Rattle.std.proofs.Common.{ℕ, sym, ap, subst, ◌∙◌}
use Rattle.heap_rows.specs.HeapBlocks.{HasBlocks}
use Rattle.bitmap_scan.specs.declared.stage.Stage.{Stage}
use Rattle.bitmap_scan.specs.declared.stage.Stage.TheVariants as stages
use Rattle.bitmap_scan.specs.IndexReaders.{all_scanned, hand_at}
use Rattle.bitmap_scan.specs.ScanHands.{scanned_indexes}
use Rattle.bitmap_scan.specs.ScanSteps.{JudgesTo}
use Rattle.bitmap_scan.proofs.JudgedRanges.{begins}
use Rattle.bitmap_scan.proofs.Ahead.{names_none}
use Rattle.bitmap_scan.proofs.judging.begin.Goals as goal

pub returns-clause-judged : goal.returns-clause-judged
returns-clause-judged g c = λ tells query before on is.
    let store = c.args.pages.now in
    let extent = c.blocks-extent.result in
    let there = is ∙ ap (scanned_indexes store.layout) (sym on) in
    subst (λ (stage : Stage). JudgesTo store.layout store.pages (hand_at query c.args.readers.now stages.Extent before c.args.candidates.now) (hand_at query c.args.readers.now stage extent c.begin_with.new.candidates)) (sym c.first_range.ensures)
    (begins store.layout store.pages query (all_scanned c.args.readers.now) there before extent c.args.candidates.now c.begin_with.new.candidates
    (λ blocks has. c.blocks-extent.ensures.count tells blocks (subst (λ (t : ℕ). HasBlocks store.layout store.pages t blocks) on has)) c.begin_with.ensures)

pub returns-in-Err-clause-names : goal.returns-in-Err-clause-names
returns-in-Err-clause-names g c = names_none c.in-Err.error c.in-Err.ensures.reopen
