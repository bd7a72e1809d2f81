use Rattle.std.proofs.Common.{ℕ, length, sym, subst}
use Rattle.page_map.specs.PageMap.{block_at}
use Rattle.page_map.specs.Started.{AreFirst}
use Rattle.heap_rows.proofs.Heaps.{limit_is}
use Rattle.heap_rows.proofs.TableBlocks.{blocks_first}
use Rattle.heap_rows.proofs.reading.blocks.Goals as goal

pub returns-clause-count : goal.returns-clause-count
returns-clause-count g c = λ tells blocks has.
    let store = c.args.pages.now in
    let relation = c.relation_of-relation.result in
    let number = c.relation_of-relation.ensures.number in
    let limit = limit_is store.layout c.args.table relation number c.requires in
    c.blocks-2.ensures.first tells (length blocks)
    (subst (λ (k : ℕ). AreFirst k (block_at store.pages relation) (length blocks)) (sym limit)
    (subst (λ (r : ℕ). AreFirst store.layout.sizes.heap_blocks (block_at store.pages r) (length blocks)) (sym number) (blocks_first store.layout store.pages c.args.table blocks has)))
