use Rattle.std.proofs.Common.{◌≡◌, List, ℕ, get_or, length, sym, ap, ◌∙◌, arith}
use Rattle.index_layout.specs.Fields.{AreBytes}
use Rattle.page_layout.specs.RowFaults.{row_fault}
use Rattle.page_layout.specs.RowReading.{row_in}
use Rattle.page_layout.proofs.Rows.{row_takes, row_passes, length-row}
use Rattle.page_layout.proofs.Writes.{none_is, none_not, row_front}
use Rattle.page_layout.proofs.writers.has_row.Goals as goal

pub returns-then-bytes-row-clause-other : goal.returns-then-bytes-row-clause-other
returns-then-bytes-row-clause-other c = λ e has. absurd (let long : length c.args.bytes.now ≡ c.args.row = ap length has.2 ∙ length-row c.args.kinds.now has.0 has.1.columns ∙ sym c.requires.row in omega (arith, long, c.if-bytes-row.true))

pub returns-then-bytes-ne-IN_USE-clause-other : goal.returns-then-bytes-ne-IN_USE-clause-other
returns-then-bytes-ne-IN_USE-clause-other c = λ e has. absurd (let first : get_or c.args.bytes.now 0 0 ≡ 1 = ap (λ (l : List ℕ). get_or l 0 0) has.2 ∙ row_front c.args.kinds.now has.0 in omega (arith, first, c.if-bytes-ne-IN_USE.true))

pub returns-clause-row : goal.returns-clause-row
returns-clause-row c = λ e.
    let none = none_is c.row_fault.result c.is_none.result c.is_none.ensures e in
    let long : length c.args.bytes.now ≡ c.args.row = omega (arith, c.if-bytes-row.false) in
    let first : get_or c.args.bytes.now 0 0 ≡ 1 = omega (arith, c.if-bytes-ne-IN_USE.false) in
    let small : AreBytes c.args.bytes.now = λ i. let byte = c.type_inv.bytes i in omega (arith, byte) in
    let taken = row_takes c.args.kinds.now c.args.bytes.now (long ∙ c.requires.row) small first (sym c.row_fault.ensures.fault ∙ none) in
    (row_in c.args.kinds.now c.args.bytes.now, taken.is, sym taken.written)

pub returns-clause-other : goal.returns-clause-other
returns-clause-other c = λ e has. none_not c.row_fault.result c.is_none.result c.is_none.ensures e (c.row_fault.ensures.fault ∙ ap (row_fault c.args.kinds.now) has.2 ∙ row_passes c.args.kinds.now has.0 has.1)
