use Rattle.std.proofs.Common.{subst, rules}
use Rattle.std.specs.Prelude.{All}
use Rattle.std.proofs.lemmas.List.{take_all}
use Rattle.std.proofs.lemmas.List.Elements.{All-more}
use Rattle.query_words.specs.LineLaws.{IsNamedTable}
use Rattle.query_words.proofs.line_laws.tables_known.Goals as goal

pub tables-preserved : goal.tables-preserved
tables-preserved c =
    let known : IsNamedTable c.table-item.result = record { name = c.table_known.ensures.name; columns = c.table_known.ensures.columns } in
    All-more IsNamedTable c.args.tables.now c.tables.table-index c.table-item.result (search rules) c.tables.invariant (subst IsNamedTable (search rules) known)

pub returns : goal.returns
returns c = subst (All IsNamedTable) (take_all c.tables.table-index c.args.tables.now (search rules)) c.tables.invariant
