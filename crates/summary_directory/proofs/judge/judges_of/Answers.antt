use Rattle.std.proofs.Common.{◌≡◌, ◌≤◌, ◌+◌, ◌++◌, ℕ, List, drop, length, map, sym, ap, subst, ◌∙◌}
use Rattle.block_model.specs.declared.schema.Index.{Index}
use Rattle.block_model.specs.declared.schema.Schema.{Schema}
use Rattle.index_steps.specs.IndexTuples.{index_at}
use Rattle.index_steps.specs.ShownTable.{numbers_from}
use Rattle.bitmap_scan.specs.IndexReaders.{scanned_if}
use Rattle.bitmap_scan.specs.ScanHands.{scanned_index}
use Rattle.bitmap_scan.proofs.MadeReaders.{at_index, one_more, whole}
use Rattle.summary_directory.proofs.judge.judges_of.Goals as goal

pub indexes-preserved : goal.indexes-preserved
indexes-preserved c =
    let layout = c.args.layout.now in
    let i = c.indexes.index-index in
    let index = c.index-item.result in
    let before = c.indexes.judges.items in
    let items = c.as_slice-index-items.ensures ∙ ap (λ (s : Schema). s.indexes) c.schema-schema.ensures in
    let at = at_index layout c.as_slice-index-items.result.now i index items c.indexes-test.true c.index-item.is in
    let here = at.0 ∙ ap (index_at layout) (sym c.indexes.invariant.counted) in
    let all = map (scanned_index layout) (numbers_from c.args.table 0 layout.schema.indexes) in
    record {
      counted = ap (λ (n : ℕ). n + 1) c.indexes.invariant.counted;
      scanned = one_more layout c.args.table c.indexes.number before c.push_judge.new.judges.items index (drop (i + 1) layout.schema.indexes) all here
          (c.in_ok-push_judge.ensures ∙ ap (λ (s : Schema). before ++ scanned_if s c.args.table c.indexes.number index) c.schema-schema.ensures)
          (subst (λ (l : List Index). before ++ map (scanned_index layout) (numbers_from c.args.table c.indexes.number l) ≡ all) at.1 c.indexes.invariant.scanned);
    }

pub returns : goal.returns
returns c =
    let layout = c.args.layout.now in
    let items = c.as_slice-index-items.ensures ∙ ap (λ (s : Schema). s.indexes) c.schema-schema.ensures in
    let past : length layout.schema.indexes ≤ c.indexes.index-index = subst (λ (l : List Index). length l ≤ c.indexes.index-index) items c.indexes-test.false in
    c.into_boxed_slice.ensures.items ∙ whole layout c.args.table c.indexes.number c.indexes.index-index c.indexes.judges.items past c.indexes.invariant.scanned
