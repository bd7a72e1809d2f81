use Rattle.std.proofs.Common.{◌≡◌, ap, sym, ◌∙◌}
use Rattle.std.specs.Prelude.{Some}
use Rattle.page_layout.specs.RowBytes.{StoredRow}
use Rattle.heap_rows.proofs.RowAtSpot.{none_read}
use Rattle.heap_rows.proofs.SlotRows.{read_row}
use Rattle.heap_rows.proofs.deleters.deleter_on.Goals as goal

pub returns-in-Some : goal.returns-in-Some
returns-in-Some c = λ slots row has there.
    let read = read_row c.args.form c.args.page.now slots c.args.slot c.in-Some.bytes.now has (c.in-Some.ensures.contents slots has) in
    let told = c.row_in-deleter.ensures.row read.0 read.2 in
    let same : Some read.0 ≡ Some row = sym read.1 ∙ there in
    let one : read.0 ≡ row = cc in
    ap (λ p. Some p.1) told.0 ∙ ap (λ (r : StoredRow). Some r.deleter) one

pub returns-in-None : goal.returns-in-None
returns-in-None c = λ slots row has there. absurd (none_read c.args.form c.args.page.now slots row c.args.slot has (c.in-None.ensures.contents slots has) there)
