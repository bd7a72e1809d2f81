use Rattle.std.proofs.Common.{ap, subst, ◌≡◌, ◌∙◌}
use Rattle.store_layout.specs.DiskLayout.{DiskLayout}
use Rattle.page_layout.specs.declared.page.Form.TheVariants as forms
use Rattle.page_map.specs.Forms.{form_of}
use Rattle.index_contents.specs.IndexContents.{relation_of}
use Rattle.vacuum_core.proofs.PageKinds.{kind_found}
use Rattle.index_steps.specs.DamagedPages.{names_there}
use Rattle.vacuum_core.proofs.next_page.kind_there.Goals as goal

pub kind_on-requires : goal.kind_on-requires
kind_on-requires g c =
    c.index_pages_are_known.ensures c.args.pages.now.layout c.relation_of-relation.result c.in-Ok.page.now (subst (λ (l : DiskLayout). form_of l c.relation_of-relation.result ≡ forms.Index) c.layout.ensures c.relation_of-relation.ensures.form) c.in-Ok.ensures.form

pub returns-in-Ok-clause-kind : goal.returns-in-Ok-clause-kind
returns-in-Ok-clause-kind g c = λ tells.
    let store = c.args.pages.now in
    kind_found store.layout store.pages c.args.index c.relation_of-relation.result c.args.block c.in-Ok.page.now c.kind_on.result (c.relation_of-relation.ensures.number ∙ ap (λ (l : DiskLayout). relation_of l c.args.index) c.layout.ensures)
    (c.in-Ok.ensures.page tells) c.kind_on.ensures

pub returns-in-Err-clause-at : goal.returns-in-Err-clause-at
returns-in-Err-clause-at g c =
    names_there c.args.pages.now.layout c.args.index c.relation_of-relation.result c.args.block c.in-Err.error (c.relation_of-relation.ensures.number ∙ ap (λ (l : DiskLayout). relation_of l c.args.index) c.layout.ensures) c.requires.index c.requires.block c.in-Err.ensures.at
