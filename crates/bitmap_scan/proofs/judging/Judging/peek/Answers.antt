use Rattle.std.proofs.Common.{◌≡◌, List, refl, sym, ap, subst, ◌∙◌}
use Rattle.bitmap_scan.specs.IndexReaders.{hand_at}
use Rattle.bitmap_scan.specs.ScanHands.{IsBegunAt, IsScanOf, ScanHand, ScannedIndex}
use Rattle.bitmap_scan.specs.ScanSteps.{JudgesTo}
use Rattle.bitmap_scan.proofs.judging.Judging.peek.Goals as goal

pub returns-clause-comes : goal.returns-clause-comes
returns-clause-comes g c = λ tells.
    let store = c.args.pages.now in
    let a = c.self.inside in
    let copy = c.copy_from_slice.new.self in
    let readers = c.deref_mut.ensures.value in
    let copied = c.copy_from_slice.ensures.after ∙ c.deref.ensures.value in
    let old : hand_at a.query c.deref_mut.result.now a.stage a.extent copy ≡ c.args.self.now = (λ i. hand_at a.query (readers i) a.stage a.extent (copied i)) ∙ c.self.view_is in
    let of = subst (λ (h : ScanHand). IsScanOf store.layout h) (sym old) c.requires.scan in
    let new = hand_at a.query c.judge.new.readers c.in_ok-stage.stage c.in_ok-stage.field-0-0 c.judge.new.candidates in
    record {
      new = new;
      to = subst (λ (h : ScanHand). JudgesTo store.layout store.pages h new) old (c.in_ok-stage.ensures.judged tells);
      begun = subst (λ (l : List ScannedIndex). IsBegunAt l c.in_ok-stage.field-0-0 c.in_ok-stage.stage) (sym c.judge.ensures.indexes) c.in_ok-stage.ensures.at;
      scan = record { table = of.table; indexes = c.judge.ensures.indexes ∙ of.indexes; room = c.judge.ensures.room ∙ of.room };
      query = ap (λ (h : ScanHand). h.query) c.self.view_is;
      candidates = refl;
      yes = c.is_judged.ensures.yes;
      no = c.is_judged.ensures.no;
    }
