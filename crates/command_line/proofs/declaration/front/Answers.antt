use Rattle.std.proofs.Common.{◌≡◌, true, false, refl}
use Rattle.std.proofs.lemmas.Result.{err_from_is_err_and}
use Rattle.value_text.specs.TextReading.{begins}
use Rattle.command_line.specs.DeclarationTexts.{OfTable, OfIndex}
use Rattle.command_line.specs.Words.{index_text}
use Rattle.command_line.proofs.WordReading.{is_t, declaration_table, declaration_table_stops, declaration_index, declaration_index_stops}
use Rattle.command_line.proofs.declaration.front.Goals as goal

pub returns-then-begins_table : goal.returns-then-begins_table
returns-then-begins_table c =
    let b : begins is_t c.args.text.now ≡ true = cc in
    let table = c.in_ok-table.ensures in
    (OfTable table.0, declaration_table c.args.autos c.args.text.now table.0 c.in_ok-table.rest.now b table.1, table.2)

pub returns-in_err-table : goal.returns-in_err-table
returns-in_err-table c =
    let b : begins is_t c.args.text.now ≡ true = cc in
    let p = err_from_is_err_and c.from_residual.result c.from_residual.ensures.1 in
    rw (p.1, p.2) (declaration_table_stops c.args.autos c.args.text.now c.in_err-table.field-0.0.now b c.in_err-table.ensures)

pub returns-in_err-index : goal.returns-in_err-index
returns-in_err-index c =
    let b : begins is_t c.args.text.now ≡ false = cc in
    let p = err_from_is_err_and c.from_residual-in_err-index.result c.from_residual-in_err-index.ensures.1 in
    rw (p.1, p.2) (declaration_index_stops c.args.autos c.args.text.now c.in_err-index.field-0.0.now b c.in_err-index.ensures.read)

pub returns : goal.returns
returns c =
    let b : begins is_t c.args.text.now ≡ false = cc in
    (OfIndex (index_text c.in_ok-index.index), declaration_index c.args.autos c.args.text.now (index_text c.in_ok-index.index) c.in_ok-index.rest.now b c.in_ok-index.ensures.read, (refl, c.in_ok-index.ensures.parts))
