use Rattle.std.proofs.Common.{◌≡◌, [], Some, sym, subst, inl, inr}
use Rattle.std.proofs.lemmas.Result.{on_ok_weaker}
use Rattle.command_line.specs.DeclarationTexts.{bytes_of, IsNamed, IsDeclaration}
use Rattle.value_text.specs.StopsAt.{StopsAt}
use Rattle.command_line.proofs.WordLemmas.{table_known, index_known, declares-table, declares_index, declares_fault}
use Rattle.command_line.proofs.declare.declare.Goals as goal

pub add_table-requires : goal.add_table-requires
add_table-requires c =
    let f = table_known c.args.autos c.new.result [] c.args.word.now c.in-Ok-Table.field-0 c.in-Ok-Table.table c.new.ensures c.in-Ok-Table.field-0-is c.in-Ok-Table.ensures in
    subst IsNamed (sym f.parts.name) f.of_grammar.named

pub add_index-requires : goal.add_index-requires
add_index-requires c = (index_known c.args.autos (Some c.new.result) [] c.args.word.now c.in-Ok-Index.field-0 c.in-Ok-Index.index c.in-Ok-Index.field-0-is c.in-Ok-Index.ensures).is

pub returns-in-Ok-Table-clause-ok : goal.returns-in-Ok-Table-clause-ok
returns-in-Ok-Table-clause-ok c =
    let f = table_known c.args.autos c.new.result [] c.args.word.now c.in-Ok-Table.field-0 c.in-Ok-Table.table c.new.ensures c.in-Ok-Table.field-0-is c.in-Ok-Table.ensures in
    on_ok_weaker c.add_table.result (declares-table c.args.autos c.args.schema.now c.args.word.now c.in-Ok-Table.table f c.add_table.new.tables) c.add_table.ensures.ok

pub returns-in-Ok-Index-clause-ok : goal.returns-in-Ok-Index-clause-ok
returns-in-Ok-Index-clause-ok c =
    let f = index_known c.args.autos (Some c.new.result) [] c.args.word.now c.in-Ok-Index.field-0 c.in-Ok-Index.index c.in-Ok-Index.field-0-is c.in-Ok-Index.ensures in
    on_ok_weaker c.add_index.result (declares_index c.args.autos c.args.schema.now c.as_slice.result.now c.args.word.now c.in-Ok-Index.index f c.as_slice.ensures c.add_index.new.indexes) c.add_index.ensures.ok

pub returns-in-Ok-Index-clause-form : goal.returns-in-Ok-Index-clause-form
returns-in-Ok-Index-clause-form c at e =
    let f = index_known c.args.autos (Some c.new.result) [] c.args.word.now c.in-Ok-Index.field-0 c.in-Ok-Index.index c.in-Ok-Index.field-0-is c.in-Ok-Index.ensures in
    inr (declares_fault c.args.autos c.args.schema.now c.as_slice.result.now c.args.word.now c.in-Ok-Index.index f c.as_slice.ensures at (c.add_index.ensures.form at e))

pub returns-in-Err-clause-form : goal.returns-in-Err-clause-form
returns-in-Err-clause-form c at e =
    let here : c.in-Err.at ≡ at = cc in
    inl (subst (StopsAt bytes_of (IsDeclaration c.args.autos) c.args.word.now) here c.in-Err.ensures)
