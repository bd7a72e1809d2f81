use Rattle.std.proofs.Common.{◌≡◌, ℕ, Bool, List, Option, sym, subst, ◌∙◌}
use Rattle.std.proofs.lemmas.List.{with_items_is}
use Rattle.page_locks.specs.declared.did.Did.TheVariants as did
use Rattle.bitmap_scan.specs.Finds.{FindHand, IsNext}
use Rattle.bitmap_scan.specs.LooksAhead.{ComesTo, NextIs}
use Rattle.bitmap_scan.specs.ScanHands.{IsJudging}
use Rattle.bitmap_scan.proofs.Ahead.{ends_ranges, goes_to_blocks, goes_to_range}
use Rattle.bitmap_scan.proofs.Next.{none_left, one_left, reads_none}
use Rattle.bitmap_scan.proofs.scan.Scan.peek_range.Goals as goal

pub returns-then-not-all-clause-goes : goal.returns-then-not-all-clause-goes
returns-then-not-all-clause-goes g c = λ more tells.
    let store = c.args.pages.now in
    let self = c.self.inside in
    let ahead = c.peek.new.ahead in
    let old : FindHand = record { judging = self.judging; read = self.read; next = self.next; found = self.found.items; last = self.last; room = self.rows.room } in
    let comes = subst (λ (all : Bool). ComesTo store.layout store.pages self.judging ahead all) c.if-not-all.true (c.in_ok-all.ensures.comes tells) in
    subst (λ (h : FindHand). NextIs store.layout store.pages h did.Moved) c.self.view_is (goes_to_range store.layout store.pages old ahead comes)

pub returns-clause-goes : goal.returns-clause-goes
returns-clause-goes g c = λ more tells.
    let store = c.args.pages.now in
    let self = c.self.inside in
    let ahead = c.peek.new.ahead in
    let next : Option ℕ = c.next_candidate.result in
    let old : FindHand = record { judging = self.judging; read = self.read; next = self.next; found = self.found.items; last = self.last; room = self.rows.room } in
    let work : IsJudging self.judging.stage = subst (λ (h : FindHand). IsJudging h.judging.stage) (sym c.self.view_is) c.requires.work in
    let none : self.read ≡ 0 = reads_none self.judging.stage old work c.self.invariant.0.at in
    let comes = subst (λ (all : Bool). ComesTo store.layout store.pages self.judging ahead all) c.if-not-all.false (c.in_ok-all.ensures.comes tells) in
    let same : c.deref.result.now ≡ ahead = c.deref.ensures.value ∙ with_items_is self.ahead.items ahead (c.peek.ensures.room ∙ c.deref_mut.ensures.len) in
    let first : IsNext ahead 0 next = subst (λ (l : List Bool). IsNext l 0 next) same c.next_candidate.ensures in
    let one = one_left ahead 0 next c.is_none.result c.is_none.ensures more first in
    subst (λ (h : FindHand). NextIs store.layout store.pages h did.Moved) c.self.view_is (goes_to_blocks store.layout store.pages old ahead none one.0 comes one.1)

pub returns-clause-ends : goal.returns-clause-ends
returns-clause-ends g c = λ last tells.
    let store = c.args.pages.now in
    let self = c.self.inside in
    let ahead = c.peek.new.ahead in
    let next : Option ℕ = c.next_candidate.result in
    let old : FindHand = record { judging = self.judging; read = self.read; next = self.next; found = self.found.items; last = self.last; room = self.rows.room } in
    let work : IsJudging self.judging.stage = subst (λ (h : FindHand). IsJudging h.judging.stage) (sym c.self.view_is) c.requires.work in
    let none : self.read ≡ 0 = reads_none self.judging.stage old work c.self.invariant.0.at in
    let comes = subst (λ (all : Bool). ComesTo store.layout store.pages self.judging ahead all) c.if-not-all.false (c.in_ok-all.ensures.comes tells) in
    let same : c.deref.result.now ≡ ahead = c.deref.ensures.value ∙ with_items_is self.ahead.items ahead (c.peek.ensures.room ∙ c.deref_mut.ensures.len) in
    let first : IsNext ahead 0 next = subst (λ (l : List Bool). IsNext l 0 next) same c.next_candidate.ensures in
    let last_one = none_left ahead 0 next c.is_none.result c.is_none.ensures last first in
    subst (λ (h : FindHand). NextIs store.layout store.pages h did.Finished) c.self.view_is (ends_ranges store.layout store.pages old ahead none comes last_one)
