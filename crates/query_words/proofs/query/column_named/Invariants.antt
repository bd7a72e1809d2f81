use Rattle.std.proofs.Common.{◌≡◌, drop}
use Rattle.query_words.specs.Statements.{column_from}
use Rattle.query_words.proofs.query.column_named.Given as goal

abbrev pub invariant-columns : goal.invariant-columns
invariant-columns l = column_from l.i (drop l.i l.columns) l.name ≡ column_from 0 l.columns l.name
