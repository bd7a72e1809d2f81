use Rattle.std.proofs.Common.{◌≡◌, List, length, ap, sym, ◌∙◌}
use Rattle.block_model.specs.declared.value.Kind.{Kind}
use Rattle.block_model.specs.RowSize.{row_size}
use Rattle.page_layout.specs.RowBytes.{StoredRow}
use Rattle.page_layout.specs.RowReading.{row_in}
use Rattle.page_layout.specs.RowFaults.{row_fault}
use Rattle.page_layout.proofs.Rows.{row_again, row_passes, length-row}
use Rattle.page_layout.proofs.row.decode_row.Goals as goal

pub read_row-requires-clause-whole : goal.read_row-requires-clause-whole
read_row-requires-clause-whole c =
    ap length c.requires.row.2 ∙ length-row _ c.requires.row.0 c.requires.row.1.columns ∙ ap row_size (sym (c.as_slice.ensures.kinds ∙ c.kinds_of-kinds.ensures))

pub read_row-requires-clause-sound : goal.read_row-requires-clause-sound
read_row-requires-clause-sound c =
    ap (λ (ks : List Kind). row_fault ks c.args.bytes.now) (c.as_slice.ensures.kinds ∙ c.kinds_of-kinds.ensures) ∙ ap (row_fault _) c.requires.row.2 ∙ row_passes _ c.requires.row.0 c.requires.row.1

pub returns : goal.returns
returns c = record {
  row = λ row has.
      let all : row_in c.as_slice.result.now c.args.bytes.now ≡ row = ap (λ (ks : List Kind). row_in ks c.args.bytes.now) (c.as_slice.ensures.kinds ∙ c.kinds_of-kinds.ensures) ∙ ap (row_in _) has.1 ∙ row_again _ row has.0 in
      (c.read_row.ensures.id ∙ ap (λ (r : StoredRow). (r.id, r.deleter)) all, c.read_row.ensures.values ∙ ap (λ (r : StoredRow). r.values) all);
}
