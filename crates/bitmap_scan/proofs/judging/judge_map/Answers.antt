use Rattle.std.proofs.Common.{ℕ, get_or, sym, ap, subst, ◌∙◌}
use Rattle.index_contents.specs.IndexContents.{contents}
use Rattle.index_steps.specs.Readings.{IsMisnamed}
use Rattle.bitmap_scan.specs.declared.stage.Stage.{Stage}
use Rattle.bitmap_scan.specs.declared.stage.Stage.TheVariants as stages
use Rattle.bitmap_scan.specs.IndexReaders.{all_scanned, hand_at}
use Rattle.bitmap_scan.specs.ScanHands.{ScannedIndex}
use Rattle.bitmap_scan.specs.ScanSteps.{JudgesTo}
use Rattle.bitmap_scan.proofs.JudgedRanges.{named, unnamed}
use Rattle.bitmap_scan.proofs.MadeReaders.{reads_index, there_is, within}
use Rattle.bitmap_scan.proofs.judging.judge_map.Goals as goal

pub read_map-requires : goal.read_map-requires
read_map-requires g c =
    let readers = c.args.readers.now in
    let reader = get_or readers c.args.at c.index-readers-at.result in
    let there = ap (get_or readers c.args.at) c.index-readers-at.is in
    record { index = (reads_index c.args.pages.now.layout c.requires.table.0 readers c.args.at reader c.requires.table.1 c.requires.at.0 there).declared }

pub returns-in-Ok-Some-clause-judged : goal.returns-in-Ok-Some-clause-judged
returns-in-Ok-Some-clause-judged g c = λ tells query candidates is.
    let store = c.args.pages.now in
    let readers = c.args.readers.now in
    let reader = get_or readers c.args.at c.index-readers-at.result in
    let there = ap (get_or readers c.args.at) c.index-readers-at.is in
    let number = ap (λ (x : ScannedIndex). x.number) (there_is readers c.args.at reader (within readers c.args.at c.requires.at.0) there) in
    named store.layout store.pages query (all_scanned readers) is c.args.extent c.args.at c.args.range c.requires.at candidates c.in-Ok-Some.spot
    (ap (λ (n : ℕ). (contents store.layout store.pages n).entry c.args.range) number ∙ c.in-Ok-Some.ensures.entry tells ∙ c.in-Ok-Some.field-0-is)

pub returns-in-Ok-None-clause-judged : goal.returns-in-Ok-None-clause-judged
returns-in-Ok-None-clause-judged g c = λ tells query candidates is.
    let store = c.args.pages.now in
    let readers = c.args.readers.now in
    let reader = get_or readers c.args.at c.index-readers-at.result in
    let there = ap (get_or readers c.args.at) c.index-readers-at.is in
    let number = ap (λ (x : ScannedIndex). x.number) (there_is readers c.args.at reader (within readers c.args.at c.requires.at.0) there) in
    subst (λ (stage : Stage). JudgesTo store.layout store.pages (hand_at query readers (stages.Map c.args.at c.args.range) c.args.extent candidates) (hand_at query readers stage c.args.extent candidates)) (sym c.next_range.ensures)
    (unnamed store.layout store.pages query (all_scanned readers) is c.args.extent c.args.at c.args.range c.requires.at candidates
    (ap (λ (n : ℕ). (contents store.layout store.pages n).entry c.args.range) number ∙ c.in-Ok-None.ensures.entry tells ∙ c.in-Ok-None.field-0-is))

pub returns-in-Ok-Some-clause-undamaged : goal.returns-in-Ok-Some-clause-undamaged
returns-in-Ok-Some-clause-undamaged g c = λ tells damage.
    let store = c.args.pages.now in
    let readers = c.args.readers.now in
    let reader = get_or readers c.args.at c.index-readers-at.result in
    let there = ap (get_or readers c.args.at) c.index-readers-at.is in
    let number = ap (λ (x : ScannedIndex). x.number) (there_is readers c.args.at reader (within readers c.args.at c.requires.at.0) there) in
    c.in-Ok-Some.ensures.undamaged tells (subst (λ (n : ℕ). IsMisnamed (contents store.layout store.pages n) c.args.range) number damage)

pub returns-in-Ok-None-clause-undamaged : goal.returns-in-Ok-None-clause-undamaged
returns-in-Ok-None-clause-undamaged g c = λ tells damage.
    let store = c.args.pages.now in
    let readers = c.args.readers.now in
    let reader = get_or readers c.args.at c.index-readers-at.result in
    let there = ap (get_or readers c.args.at) c.index-readers-at.is in
    let number = ap (λ (x : ScannedIndex). x.number) (there_is readers c.args.at reader (within readers c.args.at c.requires.at.0) there) in
    c.in-Ok-None.ensures.undamaged tells (subst (λ (n : ℕ). IsMisnamed (contents store.layout store.pages n) c.args.range) number damage)
