use Rattle.page_layout.proofs.Writes.{put-by, row_room_of}
use Rattle.page_layout.proofs.writers.put_row.Goals as goal

pub write-requires : goal.write-requires
write-requires c =
    let room = row_room_of c.args.form c.in-Heap.row c.in-Heap.slots c.in-Heap.kinds c.in-Heap.format c.args.slot c.args.bytes.now c.in-Heap.is c.requires.form c.requires.slot c.requires.row in
    record { within = rw (c.from.ensures, c.from-in-Heap.ensures) room }

pub returns-in-Heap : goal.returns-in-Heap
returns-in-Heap c = record {
  put = λ slots row has bytes. put-by c.args.form c.in-Heap.row c.in-Heap.slots c.in-Heap.kinds c.in-Heap.format c.args.page.now c.write.new.self c.args.bytes.now c.args.slot c.from-in-Heap.result c.from.result slots row c.in-Heap.is c.from-in-Heap.ensures c.from.ensures c.requires.form c.requires.slot has bytes c.write.ensures.written;
}
