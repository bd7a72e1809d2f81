use Rattle.std.proofs.Common.{◌≡◌, ℕ, ◌+◌, ◌++◌, Bool, List, Some, sym, ap, subst, ◌∙◌}
use Rattle.block_model.specs.declared.row.Query.{Query}
use Rattle.page_layout.specs.PageContents.{Slot}
use Rattle.page_locks.specs.declared.did.Did.{Did}
use Rattle.heap_rows.specs.HeapBlocks.{HasBlocks, slots_of}
use Rattle.heap_rows.specs.StoredRows.{stored_rows}
use Rattle.bitmap_scan.specs.Finds.{FindHand, FindSteps, IsFindOf, IsFinding, IsNext, visible_matches}
use Rattle.bitmap_scan.proofs.Finding.{reads_on}
use Rattle.bitmap_scan.proofs.Next.{read_on, reads_next}
use Rattle.bitmap_scan.proofs.VisibleRows.{sight_of}
use Rattle.bitmap_scan.proofs.scan.Scan.read_block.Goals as goal

pub invariant_of-self-2 : goal.invariant_of-self-2
invariant_of-self-2 g c =
    let self = c.self.inside in
    let b : ℕ = c.args.block in
    let next = c.next_candidate-self-inside.result in
    let was : FindHand = record { judging = self.judging; read = self.read; next = self.next; found = self.found.items; last = self.last; room = self.rows.room } in
    let hand : FindHand = record was { room = c.find_on.new.rows.room } in
    let finding : IsFinding hand = subst (λ (n : ℕ). IsFinding (record was { room = n })) (sym c.find_on.ensures.room) c.self.invariant.0 in
    let is : self.next ≡ Some b = ap (λ (h : FindHand). h.next) c.self.view_is ∙ c.requires.next in
    let first : IsNext self.judging.candidates (b + 1) next = subst (λ (l : List Bool). IsNext l (b + 1) next) c.candidates.ensures c.next_candidate-self-inside.ensures in
    (read_on hand b next c.find_on.new.found.items c.find_on.new.last (reads_next hand b is finding) finding c.in_ok-find_on.ensures.order first, c.self.invariant.1)

pub returns-clause-stepped : goal.returns-clause-stepped
returns-clause-stepped g c = λ tells statuses had.
    let store = c.args.pages.now in
    let self = c.self.inside in
    let b : ℕ = c.args.block in
    let next = c.next_candidate-self-inside.result in
    let found = c.find_on.new.found.items in
    let sight = sight_of c.args.snapshot.now c.args.own c.args.tx.now.first statuses in
    let old : FindHand = record { judging = self.judging; read = self.read; next = self.next; found = self.found.items; last = self.last; room = self.rows.room } in
    let new : FindHand = record { judging = self.judging; read = b + 1; next = next; found = found; last = c.find_on.new.last; room = self.rows.room } in
    let is : self.next ≡ Some b = ap (λ (h : FindHand). h.next) c.self.view_is ∙ c.requires.next in
    let reads = reads_next old b is c.self.invariant.0 in
    let first : IsNext self.judging.candidates (b + 1) next = subst (λ (l : List Bool). IsNext l (b + 1) next) c.candidates.ensures c.next_candidate-self-inside.ensures in
    let of = subst (λ (h : FindHand). IsFindOf store.layout h) (sym c.self.view_is) c.requires.scan in
    let finds = subst (λ (q : Query). (blocks : List (List Slot)) → HasBlocks store.layout store.pages q.table blocks → found ≡ self.found.items ++ visible_matches sight q b (stored_rows (slots_of blocks b))) c.query-query.ensures
    (λ blocks has. c.in_ok-find_on.ensures.found tells blocks has statuses had) in
    subst (λ (h : FindHand). FindSteps store.layout store.pages sight h new c.did_at.result) c.self.view_is
    (subst (λ (d : Did). FindSteps store.layout store.pages sight old new d) (sym c.did_at.ensures)
    (reads_on store.layout store.pages sight old of.judging.indexes b found next reads.first first finds reads.all is))
