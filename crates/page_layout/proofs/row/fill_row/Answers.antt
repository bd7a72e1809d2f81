use Rattle.std.proofs.Common.{◌+◌, ◌-◌, ◌≤◌, ℕ, List, length, ◌++◌, refl, ap, ◌∙◌, arith}
use Rattle.page_layout.specs.RowBytes.{head_bytes, columns_bytes, row_bytes}
use Rattle.page_layout.proofs.Columns.{length-have}
use Rattle.page_layout.proofs.Written.{all_next}
use Rattle.page_layout.proofs.row.fill_row.Goals as goal

pub null_bits-requires : goal.null_bits-requires
null_bits-requires c = omega (arith, length-have _ c.args.values.now c.requires.kinds, c.requires.columns)

pub returns-clause-written : goal.returns-clause-written
unfolding head_bytes row_bytes
returns-clause-written c =
    let old = c.args.out.now in
    let out = c.write_head.new.out in
    let front = head_bytes c.args.id c.args.deleter c.null_bits.result in
    let long : length old ≤ 22 + (length out - 22) = omega (arith, c.write_head.auto.out) in
    all_next old out front c.write_columns.new.out 22 (length out - 22) c.write_head.ensures.written refl long
    ∙ ap (λ (l : List ℕ). front ++ l) c.write_columns.ensures.written
    ∙ (λ i. head_bytes c.args.id c.args.deleter (c.null_bits.ensures.bits i) ++ columns_bytes c.args.kinds.now c.args.values.now)
