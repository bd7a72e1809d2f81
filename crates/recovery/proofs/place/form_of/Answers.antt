use Rattle.std.proofs.Common.{◌≡◌, ℕ, ◌-◌, List, length, get_or, sym, ◌∙◌, ap, arith}
use Rattle.block_model.specs.declared.schema.Schema.{Schema}
use Rattle.block_model.specs.declared.schema.Table.{Table}
use Rattle.page_layout.specs.HeapForms.{heap_form}
use Rattle.recovery.proofs.Relations.{form_index, form_status, form_table}
use Rattle.recovery.proofs.place.form_of.Goals as goal

pub returns-then-relation-eq0-clause-form : goal.returns-then-relation-eq0-clause-form
returns-then-relation-eq0-clause-form c = sym (form_status c.args.layout.now c.args.relation (omega (arith, c.if-relation-eq0.true, c.from-relation.ensures)))

pub returns-then-relation-tables-clause-form : goal.returns-then-relation-tables-clause-form
returns-then-relation-tables-clause-form c =
    let tables : c.as_slice-tables.result.now ≡ c.args.layout.now.schema.tables = c.as_slice-tables.ensures ∙ ap (λ (s : Schema). s.tables) c.schema.ensures in
    sym (form_index c.args.layout.now c.args.relation (omega (arith, c.if-relation-tables.true, c.from-relation.ensures, ap (length {A = Table}) tables)))

pub returns-clause-form : goal.returns-clause-form
returns-clause-form c =
    let tables : c.as_slice-tables.result.now ≡ c.args.layout.now.schema.tables = c.as_slice-tables.ensures ∙ ap (λ (s : Schema). s.tables) c.schema.ensures in
    let at = c.from-relation.result - 1 in
    let table = c.index-tables-relation.result in
    let same : c.from-relation.result ≡ c.args.relation = c.from-relation.ensures in
    c.heap_form.ensures ∙ ap heap_form (c.index-tables-relation.is ∙ ap (λ (l : List Table). get_or l at table) tables ∙ ap (λ (k : ℕ). get_or c.args.layout.now.schema.tables (k - 1) table) same)
    ∙ sym (form_table c.args.layout.now c.args.relation table (omega (arith, c.if-relation-eq0.false, same)) (omega (arith, c.if-relation-eq0.false, c.if-relation-tables.false, same, ap (length {A = Table}) tables)))
