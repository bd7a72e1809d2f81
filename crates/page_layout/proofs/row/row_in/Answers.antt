use Rattle.std.proofs.Common.{◌≡◌, List, ap, sym, ◌∙◌}
use Rattle.block_model.specs.declared.value.Kind.{Kind}
use Rattle.block_model.specs.RowSize.{row_size}
use Rattle.page_layout.specs.RowBytes.{StoredRow}
use Rattle.page_layout.specs.RowReading.{row_in}
use Rattle.page_layout.specs.RowFaults.{row_fault}
use Rattle.page_layout.proofs.OnPages.{row_sound, row_is}
use Rattle.page_layout.proofs.row.row_in.Goals as goal

pub read_row-requires-clause-whole : goal.read_row-requires-clause-whole
read_row-requires-clause-whole c =
    (row_sound c.args.form c.in-Heap.row c.in-Heap.slots c.in-Heap.kinds c.in-Heap.format c.args.bytes.now c.in-Heap.is c.requires.row).0 ∙ ap row_size (sym c.as_slice.ensures.kinds)

pub read_row-requires-clause-sound : goal.read_row-requires-clause-sound
read_row-requires-clause-sound c =
    ap (λ (ks : List Kind). row_fault ks c.args.bytes.now) c.as_slice.ensures.kinds ∙ (row_sound c.args.form c.in-Heap.row c.in-Heap.slots c.in-Heap.kinds c.in-Heap.format c.args.bytes.now c.in-Heap.is c.requires.row).1

pub returns : goal.returns
returns c = record {
  row = λ row has.
      let all : row_in c.as_slice.result.now c.args.bytes.now ≡ row = ap (λ (ks : List Kind). row_in ks c.args.bytes.now) c.as_slice.ensures.kinds ∙ row_is c.args.form c.in-Heap.row c.in-Heap.slots c.in-Heap.kinds c.in-Heap.format c.args.bytes.now row c.in-Heap.is has in
      (c.read_row.ensures.id ∙ ap (λ (r : StoredRow). (r.id, r.deleter)) all, c.read_row.ensures.values ∙ ap (λ (r : StoredRow). r.values) all);
}
