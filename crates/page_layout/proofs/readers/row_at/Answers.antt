use Rattle.std.proofs.Common.{◌+◌, ◌*◌, refl, take, drop, ◌∙◌}
use Rattle.page_layout.specs.PageContents.{used_in}
use Rattle.page_layout.proofs.OnPages.{read_contents, read_unstarted, read_row, slot_room}
use Rattle.page_layout.proofs.readers.row_at.Goals as goal

pub returns-in-Heap-clause-contents : goal.returns-in-Heap-clause-contents
returns-in-Heap-clause-contents c = λ slots has.
    c.used_row.ensures
    ∙ (λ i. used_in (take (c.from.ensures i) (drop (32 + c.from-in-Heap.ensures i * c.from.ensures i) (c.as_bytes.ensures.bytes i))))
    ∙ read_contents c.args.form c.in-Heap.row c.in-Heap.slots c.in-Heap.kinds c.in-Heap.format c.args.page.now c.args.slot slots c.in-Heap.is c.requires.form c.requires.slot has

pub returns-in-Heap-clause-unstarted : goal.returns-in-Heap-clause-unstarted
returns-in-Heap-clause-unstarted c = λ zeros.
    let room = slot_room c.args.form c.in-Heap.row c.in-Heap.slots c.in-Heap.kinds c.in-Heap.format c.args.slot c.in-Heap.is c.requires.form c.requires.slot in
    c.used_row.ensures
    ∙ (λ i. used_in (take (c.from.ensures i) (drop (32 + c.from-in-Heap.ensures i * c.from.ensures i) (c.as_bytes.ensures.bytes i))))
    ∙ read_unstarted c.args.page.now 8192 (32 + c.args.slot * c.in-Heap.row) c.in-Heap.row refl room.0 room.1 zeros

pub returns-in-Heap-clause-row : goal.returns-in-Heap-clause-row
returns-in-Heap-clause-row c =
    let room = slot_room c.args.form c.in-Heap.row c.in-Heap.slots c.in-Heap.kinds c.in-Heap.format c.args.slot c.in-Heap.is c.requires.form c.requires.slot in
    read_row c.args.form c.in-Heap.row c.in-Heap.slots c.in-Heap.kinds c.in-Heap.format c.args.page.now c.args.slot c.used_row.result c.in-Heap.is c.requires.form c.requires.slot room.0 room.1 c.requires.page
    (c.used_row.ensures ∙ (λ i. used_in (take (c.from.ensures i) (drop (32 + c.from-in-Heap.ensures i * c.from.ensures i) (c.as_bytes.ensures.bytes i)))))
