use Rattle.std.proofs.Common.{◌≡◌, ℕ, ◌+◌, Bool, List, Option, Some, sym, ap, subst, ◌∙◌}
use Rattle.page_locks.specs.declared.did.Did.TheVariants as did
use Rattle.bitmap_scan.specs.Finds.{FindHand, IsFindOf, IsNext}
use Rattle.bitmap_scan.specs.LooksAhead.{NextIs}
use Rattle.bitmap_scan.proofs.Ahead.{ends_block, goes_block, names_reopen}
use Rattle.bitmap_scan.proofs.Next.{none_left, one_left, reads_next}
use Rattle.bitmap_scan.proofs.scan.Scan.peek_block.Goals as goal

pub returns-in-Err-clause-names : goal.returns-in-Err-clause-names
returns-in-Err-clause-names g c = names_reopen c.args.pages.now.layout c.args.self.now.judging.query.table c.args.block c.in-Err.error c.in-Err.ensures.reopen

pub returns-clause-goes : goal.returns-clause-goes
returns-clause-goes g c = λ more.
    let store = c.args.pages.now in
    let self = c.self.inside in
    let b : ℕ = c.args.block in
    let next : Option ℕ = c.next_candidate.result in
    let old : FindHand = record { judging = self.judging; read = self.read; next = self.next; found = self.found.items; last = self.last; room = self.rows.room } in
    let is : self.next ≡ Some b = ap (λ (h : FindHand). h.next) c.self.view_is ∙ c.requires.next in
    let of = subst (λ (h : FindHand). IsFindOf store.layout h) (sym c.self.view_is) c.requires.scan in
    let first : IsNext self.judging.candidates (b + 1) next = subst (λ (l : List Bool). IsNext l (b + 1) next) c.candidates.ensures c.next_candidate.ensures in
    let one = one_left self.judging.candidates (b + 1) next c.is_none.result c.is_none.ensures more first in
    subst (λ (h : FindHand). NextIs store.layout store.pages h did.Moved) c.self.view_is
    (goes_block store.layout store.pages old of b is (reads_next old b is c.self.invariant.0) one.0 one.1)

pub returns-clause-ends : goal.returns-clause-ends
returns-clause-ends g c = λ all.
    let store = c.args.pages.now in
    let self = c.self.inside in
    let b : ℕ = c.args.block in
    let next : Option ℕ = c.next_candidate.result in
    let old : FindHand = record { judging = self.judging; read = self.read; next = self.next; found = self.found.items; last = self.last; room = self.rows.room } in
    let is : self.next ≡ Some b = ap (λ (h : FindHand). h.next) c.self.view_is ∙ c.requires.next in
    let of = subst (λ (h : FindHand). IsFindOf store.layout h) (sym c.self.view_is) c.requires.scan in
    let first : IsNext self.judging.candidates (b + 1) next = subst (λ (l : List Bool). IsNext l (b + 1) next) c.candidates.ensures c.next_candidate.ensures in
    subst (λ (h : FindHand). NextIs store.layout store.pages h did.Finished) c.self.view_is
    (ends_block store.layout store.pages old of b is (reads_next old b is c.self.invariant.0) (none_left self.judging.candidates (b + 1) next c.is_none.result c.is_none.ensures all first))
