use Rattle.std.proofs.Common.{◌≡◌, ℕ, ◌+◌, ◌*◌, min, length, refl, sym, ap, subst, ◌∙◌, arith}
use Rattle.std.proofs.Math.Nat.{add-mul}
use Rattle.heap_rows.specs.HeapBlocks.{HasBlocks}
use Rattle.store_layout.specs.DiskLayout.{DiskLayout}
use Rattle.index_contents.specs.IndexContents.{contents}
use Rattle.index_steps.specs.IndexTuples.{index_at, shape_of}
use Rattle.index_steps.specs.ShownIndex.{lock_in}
use Rattle.summarise_core.specs.ShownHeap.{heap_of}
use Rattle.summarise_core.specs.SummariseHands.{table_of}
use Rattle.summarise_core.proofs.Stepped.{extent_is}
use Rattle.summarise_core.proofs.Exact.{begins_exact}
use Rattle.summarise_core.proofs.Locking.{reopen_names}
use Rattle.summarise_core.proofs.in_range.read_extent.Goals as goal

next_range : (range each : ℕ) → (range + 1) * each ≡ range * each + each
next_range range each = add-mul range 1 each ∙ (omega arith)

pub returns-clause-stepped : goal.returns-clause-stepped
returns-clause-stepped g c = λ tells blocks has locks hand.
    let store = c.args.pages.now in
    let at = c.args.at in
    let shape = shape_of store.layout at.index in
    let was = contents store.layout store.pages at.index in
    let lock = lock_in store.layout locks at.index in
    let layout : c.layout-layout.result.now ≡ store.layout = c.layout-layout.ensures in
    let table : c.table_of-table.result ≡ table_of store.layout at.index = c.table_of-table.ensures.number ∙ ap (λ (l : DiskLayout). table_of l at.index) layout in
    let each : c.blocks_a_range-in_range.result ≡ (index_at store.layout at.index).pages_per_range = c.blocks_a_range-in_range.ensures.number ∙ ap (λ (l : DiskLayout). (index_at l at.index).pages_per_range) layout in
    let has_too : HasBlocks store.layout store.pages c.table_of-table.result blocks = subst (λ (t : ℕ). HasBlocks store.layout store.pages t blocks) (sym table) has in
    let count : c.blocks-2.result ≡ length blocks = c.blocks-2.ensures.count tells blocks has_too in
    let first : c.first_block-first.result ≡ at.range * (index_at store.layout at.index).pages_per_range = c.first_block-first.ensures.number ∙ ap (λ (n : ℕ). at.range * n) each in
    extent_is shape (heap_of store.layout at.index blocks) at.actor at.range was was lock hand (λ w shows none. c.an_index_that_stays_is_read.ensures shape was was lock lock w at.actor shows refl refl none)
    c.args.running.now c.restart.new.self c.lesser-end.result c.first_block-first.result c.requires.tuple c.restart.ensures.restarted
    (c.lesser-end.ensures
    ∙ ap (λ (n : ℕ). min n (c.first_block-first.result + c.from.result)) (c.from-extent.ensures ∙ count)
    ∙ ap (λ (n : ℕ). min (length blocks) n) (omega (arith, first, each, c.from.ensures, next_range at.range (index_at store.layout at.index).pages_per_range)))
    first

pub returns-clause-exact : goal.returns-clause-exact
returns-clause-exact g c = λ tells blocks has.
    let store = c.args.pages.now in
    let at = c.args.at in
    let shape = shape_of store.layout at.index in
    let layout : c.layout-layout.result.now ≡ store.layout = c.layout-layout.ensures in
    let table : c.table_of-table.result ≡ table_of store.layout at.index = c.table_of-table.ensures.number ∙ ap (λ (l : DiskLayout). table_of l at.index) layout in
    let each : c.blocks_a_range-in_range.result ≡ (index_at store.layout at.index).pages_per_range = c.blocks_a_range-in_range.ensures.number ∙ ap (λ (l : DiskLayout). (index_at l at.index).pages_per_range) layout in
    let has_too : HasBlocks store.layout store.pages c.table_of-table.result blocks = subst (λ (t : ℕ). HasBlocks store.layout store.pages t blocks) (sym table) has in
    let count : c.blocks-2.result ≡ length blocks = c.blocks-2.ensures.count tells blocks has_too in
    let first : c.first_block-first.result ≡ at.range * (index_at store.layout at.index).pages_per_range = c.first_block-first.ensures.number ∙ ap (λ (n : ℕ). at.range * n) each in
    begins_exact shape (heap_of store.layout at.index blocks) at.range c.lesser-end.result c.first_block-first.result c.restart.new.self c.args.running.now c.requires.tuple c.restart.ensures.restarted
    (c.lesser-end.ensures
    ∙ ap (λ (n : ℕ). min n (c.first_block-first.result + c.from.result)) (c.from-extent.ensures ∙ count)
    ∙ ap (λ (n : ℕ). min (length blocks) n) (omega (arith, first, each, c.from.ensures, next_range at.range (index_at store.layout at.index).pages_per_range)))
    first

pub returns-in-Err-clause-at : goal.returns-in-Err-clause-at
returns-in-Err-clause-at g c = reopen_names c.args.pages.now.layout c.args.at.index c.in-Err.error c.in-Err.ensures.reopen
