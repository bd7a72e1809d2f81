use Rattle.std.proofs.Common.{◌≡◌, drop}
use Rattle.query_words.specs.Statements.{table_from}
use Rattle.query_words.proofs.statement.table_named.Given as goal

abbrev pub invariant-tables : goal.invariant-tables
invariant-tables l = table_from l.i (drop l.i l.tables) l.name ≡ table_from 0 l.tables l.name
