use Rattle.std.proofs.Common.{◌≡◌, ◌≤◌, ◌++◌, List, [], drop, length, sym, ap, subst, ◌∙◌, arith}
use Rattle.std.proofs.lemmas.List.{append-nil, drop_all}
use Rattle.block_model.specs.declared.schema.Index.{Index}
use Rattle.block_model.specs.declared.schema.Schema.{Schema}
use Rattle.index_steps.specs.ShownTable.{numbers_from}
use Rattle.vacuum_core.proofs.Onward.{few_indexes, indexes_are}
use Rattle.vacuum_core.proofs.indexes.indexes_of.Goals as goal

pub returns-in_err-push-clause-few : goal.returns-in_err-push-clause-few
returns-in_err-push-clause-few c = omega (arith, few_indexes c.args.layout.now c.args.table, c.tables_have_forms.ensures.few_indexes)

pub returns-clause-few : goal.returns-clause-few
returns-clause-few c = omega (arith, few_indexes c.args.layout.now c.args.table, c.tables_have_forms.ensures.few_indexes)

pub returns-clause-indexes : goal.returns-clause-indexes
returns-clause-indexes c =
    let layout = c.args.layout.now in
    let items = c.as_slice-index-items.ensures ∙ ap (λ (s : Schema). s.indexes) c.schema.ensures in
    let past : length layout.schema.indexes ≤ c.indexes.index-index = subst (λ (l : List Index). length l ≤ c.indexes.index-index) items c.indexes-test.false in
    let none : drop c.indexes.index-index layout.schema.indexes ≡ [] = drop_all c.indexes.index-index layout.schema.indexes past in
    c.into_boxed_slice.ensures.items ∙ sym (append-nil c.indexes.numbers.items)
    ∙ sym (ap (λ (l : List Index). c.indexes.numbers.items ++ numbers_from c.args.table c.indexes.number l) none) ∙ c.indexes.invariant.so_far ∙ sym (indexes_are layout c.args.table)
