use Rattle.std.proofs.Common.{◌≡◌, length, sym, ap, subst, ◌∙◌, arith}
use Rattle.std.specs.Box.{boxed_slice_items, boxed_slice_len, boxed_slice_with_items}
use Rattle.std.proofs.lemmas.List.{length-map, with_items_is}
use Rattle.bitmap_scan.specs.IndexReaders.{hand_at, scanned}
use Rattle.bitmap_scan.specs.ScanHands.{ScanHand}
use Rattle.bitmap_scan.specs.ScanSteps.{JudgesTo}
use Rattle.bitmap_scan.proofs.judging.Judging.step.Goals as goal

pub returns-clause-judged : goal.returns-clause-judged
returns-clause-judged g c = λ tells.
    let store = c.args.pages.now in
    let a = c.self.inside in
    let readers = c.deref_mut.ensures.value in
    let candidates = c.deref_mut-2.ensures.value in
    let old : hand_at a.query c.deref_mut.result.now a.stage a.extent c.deref_mut-2.result.now ≡ c.args.self.now = (λ i. hand_at a.query (readers i) a.stage a.extent (candidates i)) ∙ c.self.view_is in
    let made = c.judge.new.readers in
    let marked = c.judge.new.candidates in
    let as_many : length made ≡ boxed_slice_len a.readers =
    omega (arith, length-map made scanned, length-map c.deref_mut.result.now scanned, ap length c.judge.ensures.indexes, c.deref_mut.ensures.len) in
    let readers_now = sym (with_items_is a.readers.items made as_many) in
    let candidates_now = sym (with_items_is a.candidates.items marked (c.judge.ensures.room ∙ c.deref_mut-2.ensures.len)) in
    let new : hand_at a.query made c.in_ok-extent.stage c.in_ok-extent.extent marked
    ≡ hand_at a.query (boxed_slice_items (boxed_slice_with_items a.readers made)) c.in_ok-extent.stage c.in_ok-extent.extent (boxed_slice_items (boxed_slice_with_items a.candidates marked)) =
    (λ i. hand_at a.query (readers_now i) c.in_ok-extent.stage c.in_ok-extent.extent (candidates_now i)) in
    subst (λ (h : ScanHand). JudgesTo store.layout store.pages c.args.self.now h) new
    (subst (λ (h : ScanHand). JudgesTo store.layout store.pages h (hand_at a.query made c.in_ok-extent.stage c.in_ok-extent.extent marked)) old (c.in_ok-extent.ensures.judged tells))
