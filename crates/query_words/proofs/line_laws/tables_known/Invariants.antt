use Rattle.std.specs.Prelude.{All, take}
use Rattle.query_words.specs.LineLaws.{IsNamedTable}
use Rattle.query_words.proofs.line_laws.tables_known.Given as goal

abbrev pub invariant-tables : goal.invariant-tables
invariant-tables l = All IsNamedTable (take l.table-index l.tables)
