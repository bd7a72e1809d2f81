use Rattle.std.proofs.Common.{◌+◌, ◌*◌, arith}
use Rattle.page_layout.proofs.Writes.{mark_by}
use Rattle.page_layout.proofs.writers.mark_row.Goals as goal

pub returns-in-Heap : goal.returns-in-Heap
returns-in-Heap c = record {
  marked = λ slots row has there. mark_by c.args.form c.in-Heap.row c.in-Heap.slots c.in-Heap.kinds c.in-Heap.format c.args.page.now c.write.new.self c.to_be_bytes.result c.args.slot (32 + c.from.result * c.from-in-Heap.result + 13) c.args.deleter slots row c.to_be_bytes.ensures c.in-Heap.is (λ i. 32 + c.from.ensures i * c.from-in-Heap.ensures i + 13) (omega arith) c.requires.form has there c.write.ensures.written;
}
