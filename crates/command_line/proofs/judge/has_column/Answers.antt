use Rattle.command_line.specs.DeclarationTexts.{OfTable}
use Rattle.command_line.proofs.Judging.{sought_table, sought_index}
use Rattle.command_line.proofs.judge.has_column.Goals as goal

pub returns-in-Ok-Table : goal.returns-in-Ok-Table
returns-in-Ok-Table c t i e = sought_table c.args.autos c.args.name.now c.args.text.now c.in-Ok-Table.field-0 c.in-Ok-Table.ensures c.in-Ok-Table.table c.in-Ok-Table.field-0-is t i e

pub returns-in-Ok-Index : goal.returns-in-Ok-Index
returns-in-Ok-Index c t i e = absurd (sought_index c.args.autos c.args.name.now c.args.text.now c.in-Ok-Index.field-0 c.in-Ok-Index.ensures c.in-Ok-Index._index c.in-Ok-Index.field-0-is t i e)

pub returns-in-Err : goal.returns-in-Err
returns-in-Err c t i e = absurd (c.in-Err.ensures.refused (OfTable t) i e)
