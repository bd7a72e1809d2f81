use Rattle.std.proofs.Common.{◌∙◌, List, ◌∷◌, ◌++◌, map, ap}
use Rattle.std.proofs.lemmas.List.{take_all}
use Rattle.block_model.specs.declared.schema.Index.{Index}
use Rattle.block_model.specs.declared.schema.Schema.{Schema}
use Rattle.page_layout.specs.declared.page.Form.{Form}
use Rattle.page_layout.specs.declared.page.Form.TheVariants as forms
use Rattle.page_layout.specs.HeapForms.{heap_form}
use Rattle.page_map.specs.Forms.{forms_of}
use Rattle.page_store.proofs.forms.forms_of.Goals as goal

pub returns : goal.returns
unfolding forms_of
returns c =
    let layout = c.args.layout.now in
    let tables : List Form = map heap_form layout.schema.tables in
    let indexes = take_all c.indexes._index-index c.as_slice-indexes.result.now c.indexes-test.false ∙ c.as_slice-indexes.ensures ∙ ap (λ (s : Schema). s.indexes) c.schema-2.ensures in
    c.indexes.invariant.made ∙ ap (λ (l : List Index). forms.Status ∷ tables ++ map (λ _. forms.Index) l) indexes
