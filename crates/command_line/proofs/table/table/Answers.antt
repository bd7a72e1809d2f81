use Rattle.std.proofs.Common.{refl}
use Rattle.std.proofs.lemmas.Result.{err_from_is_err_and}
use Rattle.command_line.specs.Words.{said}
use Rattle.command_line.proofs.WordReading.{table_parts, table_stops_in_head, table_stops_in_columns, table_stops_behind_columns}
use Rattle.command_line.proofs.table.table.Goals as goal

pub returns-in_err-name : goal.returns-in_err-name
returns-in_err-name c =
    let p = err_from_is_err_and c.from_residual.result c.from_residual.ensures.1 in
    rw (p.1, p.2) (table_stops_in_head c.args.text.now c.in_err-name.field-0.0.now c.in_err-name.ensures)

pub returns-in_err-columns : goal.returns-in_err-columns
returns-in_err-columns c =
    let p = err_from_is_err_and c.from_residual-in_err-columns.result c.from_residual-in_err-columns.ensures.1 in
    rw (p.1, p.2) (table_stops_in_columns c.args.text.now c.in_ok-name.name.now c.in_ok-name.rest.now c.in_ok-name.ensures c.in_err-columns.field-0.0.now c.in_err-columns.ensures)

pub returns-in_err-rows : goal.returns-in_err-rows
returns-in_err-rows c =
    let p = err_from_is_err_and c.from_residual-in_err-rows.result c.from_residual-in_err-rows.ensures.1 in
    let columns = c.in_ok-columns.ensures in
    rw (p.1, p.2)
    (table_stops_behind_columns c.args.text.now c.in_ok-name.name.now c.in_ok-name.rest.now c.in_ok-name.ensures columns.0 c.in_ok-columns.rest.now c.in_err-rows.field-0.0.now columns.1 c.in_err-rows.ensures)

pub returns : goal.returns
returns c =
    let columns = c.in_ok-columns.ensures in
    let rows = said c.in_ok-rows.rows in (
      record { name = c.in_ok-name.name.now; columns = columns.0; rows = rows },
      table_parts c.args.text.now c.in_ok-name.name.now c.in_ok-name.rest.now c.in_ok-name.ensures columns.0 c.in_ok-columns.rest.now rows c.in_ok-rows.rest.now columns.1 c.in_ok-rows.ensures,
      record { name = refl; columns = columns.2; rows = refl },
    )
