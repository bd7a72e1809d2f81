use Rattle.std.proofs.Common.{◌≡◌, ◌<◌, ℕ, List, length, get_or, sym, ap, subst, ◌∙◌, arith}
use Rattle.std.specs.List.{All}
use Rattle.std.proofs.lemmas.List.{get_or_read}
use Rattle.store_layout.specs.DiskLayout.{DiskLayout, relation_blocks}
use Rattle.page_layout.specs.declared.page.Form.{Form}
use Rattle.page_layout.specs.declared.page.Form.TheVariants as forms_ix
use Rattle.page_layout.specs.PageContents.{IsForm}
use Rattle.page_map.specs.Forms.{HasForm, form_of}
use Rattle.page_map.specs.PageMap.{View}
use Rattle.page_store.proofs.RelationSteps.{each_form, forms_count}
use Rattle.page_store.proofs.store.PageStore.form.Goals as goal

pub index-requires : goal.index-requires
index-requires g c =
    let told = g.D.Disk.told in
    let s = c.self.inside.pages in
    let facts = c.self.inside.facts.items in
    let known = c.self.invariant.1 in
    let low : c.args.relation < length (relation_blocks s.layout) = subst (λ (v : View g.row.D.Denot). c.args.relation < length (relation_blocks v.layout)) (sym c.self.view_is) c.requires.relation in
    omega (arith, low, forms_count s.layout, ap (length {A = Form}) c.self.invariant.0, c.from.ensures)

pub returns-clause-form : goal.returns-clause-form
returns-clause-form g c =
    let told = g.D.Disk.told in
    let s = c.self.inside.pages in
    let facts = c.self.inside.facts.items in
    let known = c.self.invariant.1 in
    let low : c.args.relation < length (relation_blocks s.layout) = subst (λ (v : View g.row.D.Denot). c.args.relation < length (relation_blocks v.layout)) (sym c.self.view_is) c.requires.relation in
    let forms = c.self.inside.forms.items in
    subst (λ (v : View g.row.D.Denot). c.index.result.now ≡ form_of v.layout c.args.relation) c.self.view_is
    (get_or_read forms _ _ (omega (arith, low, forms_count s.layout, ap (length {A = Form}) c.self.invariant.0)) (c.index.ensures ∙ ap (λ (k : ℕ). get_or forms k c.index.result.now) c.from.ensures) forms_ix.Index ∙ ap (λ (l : List Form). get_or l c.args.relation forms_ix.Index) c.self.invariant.0)

pub returns-clause-is : goal.returns-clause-is
returns-clause-is g c =
    let told = g.D.Disk.told in
    let s = c.self.inside.pages in
    let facts = c.self.inside.facts.items in
    let known = c.self.invariant.1 in
    let low : c.args.relation < length (relation_blocks s.layout) = subst (λ (v : View g.row.D.Denot). c.args.relation < length (relation_blocks v.layout)) (sym c.self.view_is) c.requires.relation in
    let forms = c.self.inside.forms.items in
    let tables = subst (λ (l : DiskLayout). All HasForm l.schema.tables) c.layout.ensures c.tables_have_forms.ensures.forms in
    let own : c.index.result.now ≡ form_of s.layout c.args.relation = get_or_read forms _ _ (omega (arith, low, forms_count s.layout, ap (length {A = Form}) c.self.invariant.0)) (c.index.ensures ∙ ap (λ (k : ℕ). get_or forms k c.index.result.now) c.from.ensures) forms_ix.Index ∙ ap (λ (l : List Form). get_or l c.args.relation forms_ix.Index) c.self.invariant.0 in
    subst IsForm (sym own) (each_form s.layout tables c.args.relation)
