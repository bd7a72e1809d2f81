use Rattle.std.proofs.Common.{◌≡◌, ◌<◌, ℕ, ◌+◌, List, length, get_or, set, sym, ap, subst, ◌∙◌}
use Rattle.index_contents.specs.IndexContents.{contents}
use Rattle.index_steps.specs.IndexTuples.{shape_of}
use Rattle.index_steps.specs.Readings.{IsMisread}
use Rattle.bitmap_scan.specs.declared.judging.Judged.TheVariants as verdicts
use Rattle.bitmap_scan.specs.declared.stage.Stage.{Stage}
use Rattle.bitmap_scan.specs.declared.stage.Stage.TheVariants as stages
use Rattle.bitmap_scan.specs.IndexReaders.{all_scanned}
use Rattle.bitmap_scan.specs.NextRanges.{LeavesOut, range_from}
use Rattle.bitmap_scan.specs.ScanHands.{IsBegunAt, ScannedIndex, scanned_at}
use Rattle.bitmap_scan.specs.ScanSteps.{JudgesTo}
use Rattle.bitmap_scan.proofs.JudgedRanges.{gone, hand, kept, left_out}
use Rattle.bitmap_scan.proofs.MadeReaders.{judged_at, reads_index, still_scanned, there_is, within}
use Rattle.bitmap_scan.proofs.Onwards.{begun_from}
use Rattle.bitmap_scan.proofs.judging.judge_tuple.Goals as goal

pub read_tuple-judged-requires-clause-index : goal.read_tuple-judged-requires-clause-index
read_tuple-judged-requires-clause-index g c =
    let held = c.args.held in
    let readers = c.args.readers.now in
    let reader = get_or readers held.at c.index-readers-at.result in
    let there = ap (get_or readers held.at) c.index-readers-at.is in
    (reads_index c.args.pages.now.layout c.requires.table.0 readers held.at reader c.requires.table.1 c.requires.at.0 there).declared

pub read_tuple-judged-requires-clause-classes : goal.read_tuple-judged-requires-clause-classes
read_tuple-judged-requires-clause-classes g c =
    let held = c.args.held in
    let readers = c.args.readers.now in
    let reader = get_or readers held.at c.index-readers-at.result in
    let there = ap (get_or readers held.at) c.index-readers-at.is in
    (reads_index c.args.pages.now.layout c.requires.table.0 readers held.at reader c.requires.table.1 c.requires.at.0 there).classes

pub returns-in-Ok-Gone-clause-indexes : goal.returns-in-Ok-Gone-clause-indexes
returns-in-Ok-Gone-clause-indexes g c =
    let held = c.args.held in
    let readers = c.args.readers.now in
    let reader = get_or readers held.at c.index-readers-at.result in
    let there = ap (get_or readers held.at) c.index-readers-at.is in
    still_scanned readers held.at reader c.read_tuple-judged.new.reader c.read_tuple-judged.ensures.scanned there

pub returns-in-Ok-Kept-clause-indexes : goal.returns-in-Ok-Kept-clause-indexes
returns-in-Ok-Kept-clause-indexes g c =
    let held = c.args.held in
    let readers = c.args.readers.now in
    let reader = get_or readers held.at c.index-readers-at.result in
    let there = ap (get_or readers held.at) c.index-readers-at.is in
    still_scanned readers held.at reader c.read_tuple-judged.new.reader c.read_tuple-judged.ensures.scanned there

pub returns-in-Ok-LeftOut-clause-indexes : goal.returns-in-Ok-LeftOut-clause-indexes
returns-in-Ok-LeftOut-clause-indexes g c =
    let held = c.args.held in
    let readers = c.args.readers.now in
    let reader = get_or readers held.at c.index-readers-at.result in
    let there = ap (get_or readers held.at) c.index-readers-at.is in
    still_scanned readers held.at reader c.read_tuple-judged.new.reader c.read_tuple-judged.ensures.scanned there

pub returns-in-Err-clause-indexes : goal.returns-in-Err-clause-indexes
returns-in-Err-clause-indexes g c =
    let held = c.args.held in
    let readers = c.args.readers.now in
    let reader = get_or readers held.at c.index-readers-at.result in
    let there = ap (get_or readers held.at) c.index-readers-at.is in
    still_scanned readers held.at reader c.read_tuple-judged.new.reader c.read_tuple-judged.ensures.scanned there

pub returns-in-Ok-Gone-clause-judged : goal.returns-in-Ok-Gone-clause-judged
returns-in-Ok-Gone-clause-judged g c = λ tells query conds is.
    let says = rw c.in-Ok-Gone.is at c.read_tuple-judged.ensures.tells in
    let verdict = rw c.in-Ok-Gone.is at c.in-Ok-Gone.field-0-is in
    let store = c.args.pages.now in
    let held = c.args.held in
    let readers = c.args.readers.now in
    let reader = get_or readers held.at c.index-readers-at.result in
    let there = ap (get_or readers held.at) c.index-readers-at.is in
    let indexes = all_scanned readers in
    let same = still_scanned readers held.at reader c.read_tuple-judged.new.reader c.read_tuple-judged.ensures.scanned there in
    subst (λ (l : List ScannedIndex). JudgesTo store.layout store.pages (hand query indexes c.args.extent (stages.Tuple held.at held.range held.spot) c.args.candidates.now) (hand query l c.args.extent (stages.Map held.at held.range) c.args.candidates.now)) (sym same)
    (gone store.layout store.pages query indexes is c.args.extent held.at held.range c.requires.at held.spot c.args.candidates.now
    (judged_at store.layout store.pages readers held.at reader held.range held.spot c.args.conds.now query.conds c.in-Ok-Gone.field-0 verdicts.Gone c.requires.at.0 there conds verdict (says tells)))

pub returns-in-Ok-Kept-clause-at : goal.returns-in-Ok-Kept-clause-at
returns-in-Ok-Kept-clause-at g c =
    let held = c.args.held in
    let readers = c.args.readers.now in
    let reader = get_or readers held.at c.index-readers-at.result in
    let there = ap (get_or readers held.at) c.index-readers-at.is in
    let indexes = all_scanned readers in
    let same = still_scanned readers held.at reader c.read_tuple-judged.new.reader c.read_tuple-judged.ensures.scanned there in
    let stage = c.next_range.ensures ∙ ap (λ (l : List ScannedIndex). range_from l c.args.extent held.at (held.range + 1)) same in
    subst (λ (s : Stage). IsBegunAt indexes c.args.extent s) (sym stage) (begun_from indexes c.args.extent held.at (held.range + 1) c.requires.at.0)

pub returns-in-Ok-Kept-clause-judged : goal.returns-in-Ok-Kept-clause-judged
returns-in-Ok-Kept-clause-judged g c = λ tells query conds is.
    let says = rw c.in-Ok-Kept.is at c.read_tuple-judged.ensures.tells in
    let verdict = rw c.in-Ok-Kept.is at c.in-Ok-Kept.field-0-is in
    let store = c.args.pages.now in
    let held = c.args.held in
    let readers = c.args.readers.now in
    let reader = get_or readers held.at c.index-readers-at.result in
    let there = ap (get_or readers held.at) c.index-readers-at.is in
    let indexes = all_scanned readers in
    let same = still_scanned readers held.at reader c.read_tuple-judged.new.reader c.read_tuple-judged.ensures.scanned there in
    let stage = c.next_range.ensures ∙ ap (λ (l : List ScannedIndex). range_from l c.args.extent held.at (held.range + 1)) same in
    subst (λ (l : List ScannedIndex). JudgesTo store.layout store.pages (hand query indexes c.args.extent (stages.Tuple held.at held.range held.spot) c.args.candidates.now) (hand query l c.args.extent c.next_range.result c.args.candidates.now)) (sym same)
    (subst (λ (s : Stage). JudgesTo store.layout store.pages (hand query indexes c.args.extent (stages.Tuple held.at held.range held.spot) c.args.candidates.now) (hand query indexes c.args.extent s c.args.candidates.now)) (sym stage)
    (kept store.layout store.pages query indexes is c.args.extent held.at held.range c.requires.at held.spot c.args.candidates.now
    (judged_at store.layout store.pages readers held.at reader held.range held.spot c.args.conds.now query.conds c.in-Ok-Kept.field-0 verdicts.Kept c.requires.at.0 there conds verdict (says tells))))

pub returns-in-Ok-LeftOut-clause-at : goal.returns-in-Ok-LeftOut-clause-at
returns-in-Ok-LeftOut-clause-at g c =
    let held = c.args.held in
    let readers = c.args.readers.now in
    let reader = get_or readers held.at c.index-readers-at.result in
    let there = ap (get_or readers held.at) c.index-readers-at.is in
    let indexes = all_scanned readers in
    let same = still_scanned readers held.at reader c.read_tuple-judged.new.reader c.read_tuple-judged.ensures.scanned there in
    let stage = c.next_range-in-Ok-LeftOut.ensures ∙ ap (λ (l : List ScannedIndex). range_from l c.args.extent held.at (held.range + 1)) same in
    subst (λ (s : Stage). IsBegunAt indexes c.args.extent s) (sym stage) (begun_from indexes c.args.extent held.at (held.range + 1) c.requires.at.0)

pub returns-in-Ok-LeftOut-clause-judged : goal.returns-in-Ok-LeftOut-clause-judged
returns-in-Ok-LeftOut-clause-judged g c = λ tells query conds is.
    let says = rw c.in-Ok-LeftOut.is at c.read_tuple-judged.ensures.tells in
    let verdict = rw c.in-Ok-LeftOut.is at c.in-Ok-LeftOut.field-0-is in
    let store = c.args.pages.now in
    let held = c.args.held in
    let readers = c.args.readers.now in
    let reader = get_or readers held.at c.index-readers-at.result in
    let there = ap (get_or readers held.at) c.index-readers-at.is in
    let indexes = all_scanned readers in
    let same = still_scanned readers held.at reader c.read_tuple-judged.new.reader c.read_tuple-judged.ensures.scanned there in
    let stage = c.next_range-in-Ok-LeftOut.ensures ∙ ap (λ (l : List ScannedIndex). range_from l c.args.extent held.at (held.range + 1)) same in
    let later = set readers held.at c.read_tuple-judged.new.reader in
    let at_it = get_or later held.at c.index-readers-at-in-Ok-LeftOut.result in
    let it_is = ap (get_or later held.at) c.index-readers-at-in-Ok-LeftOut.is in
    let within_it = within later held.at (subst (λ (l : List ScannedIndex). held.at < length l) (sym same) c.requires.at.0) in
    let per : at_it.pages_per_range ≡ (scanned_at indexes held.at).pages_per_range =
    ap (λ (i : ScannedIndex). i.pages_per_range) (sym (there_is later held.at at_it within_it it_is) ∙ ap (λ (l : List ScannedIndex). scanned_at l held.at) same) in
    let leaves = subst (λ (n : ℕ). LeavesOut n held.range c.args.candidates.now c.leave_out.new.candidates) per c.leave_out.ensures in
    subst (λ (l : List ScannedIndex). JudgesTo store.layout store.pages (hand query indexes c.args.extent (stages.Tuple held.at held.range held.spot) c.args.candidates.now) (hand query l c.args.extent c.next_range-in-Ok-LeftOut.result c.leave_out.new.candidates)) (sym same)
    (subst (λ (s : Stage). JudgesTo store.layout store.pages (hand query indexes c.args.extent (stages.Tuple held.at held.range held.spot) c.args.candidates.now) (hand query indexes c.args.extent s c.leave_out.new.candidates)) (sym stage)
    (left_out store.layout store.pages query indexes is c.args.extent held.at held.range c.requires.at held.spot c.args.candidates.now c.leave_out.new.candidates
    (judged_at store.layout store.pages readers held.at reader held.range held.spot c.args.conds.now query.conds c.in-Ok-LeftOut.field-0 verdicts.LeftOut c.requires.at.0 there conds verdict (says tells)) leaves))

pub returns-in-Ok-Gone-clause-undamaged : goal.returns-in-Ok-Gone-clause-undamaged
returns-in-Ok-Gone-clause-undamaged g c = λ tells damage.
    let fine = rw c.in-Ok-Gone.is at c.read_tuple-judged.ensures.undamaged in
    let store = c.args.pages.now in
    let held = c.args.held in
    let readers = c.args.readers.now in
    let reader = get_or readers held.at c.index-readers-at.result in
    let there = ap (get_or readers held.at) c.index-readers-at.is in
    fine tells (subst (λ (i : ScannedIndex). IsMisread (shape_of store.layout i.number) (contents store.layout store.pages i.number) held.range held.spot)
    (there_is readers held.at reader (within readers held.at c.requires.at.0) there) damage)

pub returns-in-Ok-Kept-clause-undamaged : goal.returns-in-Ok-Kept-clause-undamaged
returns-in-Ok-Kept-clause-undamaged g c = λ tells damage.
    let fine = rw c.in-Ok-Kept.is at c.read_tuple-judged.ensures.undamaged in
    let store = c.args.pages.now in
    let held = c.args.held in
    let readers = c.args.readers.now in
    let reader = get_or readers held.at c.index-readers-at.result in
    let there = ap (get_or readers held.at) c.index-readers-at.is in
    fine tells (subst (λ (i : ScannedIndex). IsMisread (shape_of store.layout i.number) (contents store.layout store.pages i.number) held.range held.spot)
    (there_is readers held.at reader (within readers held.at c.requires.at.0) there) damage)

pub returns-in-Ok-LeftOut-clause-undamaged : goal.returns-in-Ok-LeftOut-clause-undamaged
returns-in-Ok-LeftOut-clause-undamaged g c = λ tells damage.
    let fine = rw c.in-Ok-LeftOut.is at c.read_tuple-judged.ensures.undamaged in
    let store = c.args.pages.now in
    let held = c.args.held in
    let readers = c.args.readers.now in
    let reader = get_or readers held.at c.index-readers-at.result in
    let there = ap (get_or readers held.at) c.index-readers-at.is in
    fine tells (subst (λ (i : ScannedIndex). IsMisread (shape_of store.layout i.number) (contents store.layout store.pages i.number) held.range held.spot)
    (there_is readers held.at reader (within readers held.at c.requires.at.0) there) damage)
