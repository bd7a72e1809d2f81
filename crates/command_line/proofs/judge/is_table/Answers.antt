use Rattle.std.proofs.Common.{[], ◌∙◌}
use Rattle.command_line.proofs.Judging.{named_table, named_index}
use Rattle.command_line.proofs.judge.is_table.Goals as goal

pub returns-in-Ok-Table : goal.returns-in-Ok-Table
returns-in-Ok-Table c d i e = c.eq.ensures ∙ named_table c.args.autos [] c.args.text.now c.in-Ok-Table.field-0 c.in-Ok-Table.ensures c.args.name.now c.in-Ok-Table.table c.in-Ok-Table.field-0-is d i e

pub returns-in-Ok-Index : goal.returns-in-Ok-Index
returns-in-Ok-Index c d i e = named_index c.args.autos [] c.args.text.now c.in-Ok-Index.field-0 c.in-Ok-Index.ensures c.args.name.now c.in-Ok-Index._index c.in-Ok-Index.field-0-is d i e

pub returns-in-Err : goal.returns-in-Err
returns-in-Err c d i e = absurd (c.in-Err.ensures.refused d i e)
