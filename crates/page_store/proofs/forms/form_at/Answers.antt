use Rattle.std.proofs.Common.{◌≡◌, ◌<◌, ℕ, List, length, get_or, sym, ap, subst, ◌∙◌, arith}
use Rattle.std.proofs.lemmas.List.{get_or_read}
use Rattle.page_layout.specs.declared.page.Form.{Form}
use Rattle.page_layout.specs.declared.page.Form.TheVariants as variants
use Rattle.page_layout.specs.PageContents.{IsForm}
use Rattle.page_map.specs.Forms.{form_of}
use Rattle.page_store.proofs.RelationSteps.{each_form, forms_count}
use Rattle.page_store.proofs.forms.form_at.Goals as goal

pub index-requires : goal.index-requires
index-requires c = omega (arith, c.requires.relation, forms_count c.args.layout.now, ap (length {A = Form}) c.requires.forms, c.from.ensures)

pub returns-clause-form : goal.returns-clause-form
returns-clause-form c =
    let low : c.args.relation < length c.args.forms.now.items = omega (arith, c.requires.relation, forms_count c.args.layout.now, ap (length {A = Form}) c.requires.forms) in
    get_or_read c.args.forms.now.items _ _ low (c.index.ensures ∙ ap (λ (k : ℕ). get_or c.args.forms.now.items k c.index.result.now) c.from.ensures) variants.Index ∙ ap (λ (l : List Form). get_or l c.args.relation variants.Index) c.requires.forms

pub returns-clause-is : goal.returns-clause-is
returns-clause-is c =
    let low : c.args.relation < length c.args.forms.now.items = omega (arith, c.requires.relation, forms_count c.args.layout.now, ap (length {A = Form}) c.requires.forms) in
    let own : c.index.result.now ≡ form_of c.args.layout.now c.args.relation =
    get_or_read c.args.forms.now.items _ _ low (c.index.ensures ∙ ap (λ (k : ℕ). get_or c.args.forms.now.items k c.index.result.now) c.from.ensures) variants.Index ∙ ap (λ (l : List Form). get_or l c.args.relation variants.Index) c.requires.forms in
    subst IsForm (sym own) (each_form c.args.layout.now c.tables_have_forms.ensures.forms c.args.relation)
