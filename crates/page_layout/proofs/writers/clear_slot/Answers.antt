use Rattle.page_layout.proofs.Writes.{free_by}
use Rattle.page_layout.proofs.writers.clear_slot.Goals as goal

pub returns-in-Heap : goal.returns-in-Heap
returns-in-Heap c = record {
  freed = λ slots has. free_by c.args.form c.in-Heap.row c.in-Heap.slots c.in-Heap.kinds c.in-Heap.format c.args.page.now c.clear.new.self c.args.slot c.from-row.result c.from.result slots c.in-Heap.is c.from-row.ensures c.from.ensures c.requires.form c.requires.slot has c.clear.ensures.cleared;
}
