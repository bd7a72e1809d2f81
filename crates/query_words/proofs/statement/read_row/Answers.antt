use Rattle.std.proofs.Common.{sym}
use Rattle.query_words.specs.LineParts.{words_left, word_here}
use Rattle.query_words.proofs.OnePass.{insert_err, insert_ok}
use Rattle.query_words.proofs.statement.read_row.Goals as goal

pub returns-in-Ok : goal.returns-in-Ok
returns-in-Ok c =
    insert_ok c.args.schema.now c.args.line_len (words_left c.args.rest) (words_left c.in-Some.rest) (word_here c.in-Some.word) c.in_ok-table.table c.in_ok-table.columns.now c.read_values.new.values
    c.in-Some.ensures.word c.in_ok-table.ensures.table c.in_ok-table.ensures.named (sym c.in-Ok.ensures)

pub returns-in-Err : goal.returns-in-Err
returns-in-Err c = λ stop.
    insert_err c.args.schema.now c.args.line_len (words_left c.args.rest) (words_left c.in-Some.rest) (word_here c.in-Some.word) c.in_ok-table.table c.in_ok-table.columns.now c.in-Err.fault
    c.in-Some.ensures.word c.in_ok-table.ensures.table (sym c.in-Err.ensures)
