use Rattle.std.proofs.Common.{◌≡◌, ◌≤◌, ◌+◌, ◌++◌, ℕ, List, drop, length, map, sym, ap, subst, ◌∙◌}
use Rattle.block_model.specs.declared.schema.Index.{Index}
use Rattle.block_model.specs.declared.schema.Schema.{Schema}
use Rattle.index_steps.specs.IndexTuples.{index_at}
use Rattle.index_steps.specs.ShownTable.{numbers_from}
use Rattle.bitmap_scan.specs.IndexReaders.{all_scanned, scanned_if}
use Rattle.bitmap_scan.specs.ScanHands.{scanned_index}
use Rattle.bitmap_scan.proofs.MadeReaders.{at_index, one_more, whole, some_pages}
use Rattle.bitmap_scan.proofs.readers.readers_of.Goals as goal

pub returns-in_err-push_reader-clause-some_pages : goal.returns-in_err-push_reader-clause-some_pages
returns-in_err-push_reader-clause-some_pages c = some_pages c.args.layout.now c.args.table c.lawful.ensures

pub indexes-preserved : goal.indexes-preserved
indexes-preserved c =
    let layout = c.args.layout.now in
    let i = c.indexes.index-index in
    let index = c.index-item.result in
    let before = all_scanned c.indexes.readers.items in
    let items = c.as_slice-index-items.ensures ∙ ap (λ (s : Schema). s.indexes) c.schema-schema.ensures in
    let at = at_index layout c.as_slice-index-items.result.now i index items c.indexes-test.true c.index-item.is in
    let here = at.0 ∙ ap (index_at layout) (sym c.indexes.invariant.counted) in
    let all = map (scanned_index layout) (numbers_from c.args.table 0 layout.schema.indexes) in
    record {
      counted = ap (λ (n : ℕ). n + 1) c.indexes.invariant.counted;
      scanned = one_more layout c.args.table c.indexes.number before (all_scanned c.push_reader.new.readers.items) index (drop (i + 1) layout.schema.indexes) all here
          (c.in_ok-push_reader.ensures ∙ ap (λ (s : Schema). before ++ scanned_if s c.args.table c.indexes.number index) c.schema-schema.ensures)
          (subst (λ (l : List Index). before ++ map (scanned_index layout) (numbers_from c.args.table c.indexes.number l) ≡ all) at.1 c.indexes.invariant.scanned);
    }

pub returns-clause-indexes : goal.returns-clause-indexes
returns-clause-indexes c =
    let layout = c.args.layout.now in
    let items = c.as_slice-index-items.ensures ∙ ap (λ (s : Schema). s.indexes) c.schema-schema.ensures in
    let past : length layout.schema.indexes ≤ c.indexes.index-index = subst (λ (l : List Index). length l ≤ c.indexes.index-index) items c.indexes-test.false in
    ap all_scanned c.into_boxed_slice.ensures.items ∙ whole layout c.args.table c.indexes.number c.indexes.index-index (all_scanned c.indexes.readers.items) past c.indexes.invariant.scanned

pub returns-clause-some_pages : goal.returns-clause-some_pages
returns-clause-some_pages c = some_pages c.args.layout.now c.args.table c.lawful.ensures
