use Rattle.std.proofs.Common.{◌<◌, length, sym, ◌∙◌, arith}
use Rattle.page_layout.proofs.Columns.{columns_none, no_columns, no_bytes}
use Rattle.page_layout.proofs.column.+write_columns.Goals as goal

pub returns-in-empty-clause-written : goal.returns-in-empty-clause-written
returns-in-empty-clause-written t c =
    let ks = c.args.kinds.now in
    let vs = c.args.values.now in
    let short : length vs < 1 = omega arith in
    no_bytes c.args.out.now (c.requires.room ∙ no_columns ks vs c.requires.kinds short) ∙ sym (columns_none ks vs c.requires.kinds short)
