use Rattle.std.proofs.Common.{ap, sym, subst, ◌∙◌, ◌≡◌}
use Rattle.store_layout.specs.DiskLayout.{DiskLayout}
use Rattle.page_layout.specs.declared.page.Form.TheVariants as forms
use Rattle.page_map.specs.Forms.{form_of}
use Rattle.index_layout.specs.IndexPages.{IsIndexPage}
use Rattle.index_contents.specs.IndexContents.{relation_of}
use Rattle.index_steps.specs.DamagedPages.{names_there}
use Rattle.vacuum_core.proofs.sweeping.copy_page.Goals as goal

pub returns-in-Ok-clause-form : goal.returns-in-Ok-clause-form
returns-in-Ok-clause-form g c =
    subst IsIndexPage (sym c.copy.ensures)
    (c.index_pages_are_known.ensures c.args.pages.now.layout c.relation_of-relation.result c.in-Ok.page.now (subst (λ (l : DiskLayout). form_of l c.relation_of-relation.result ≡ forms.Index) c.layout.ensures c.relation_of-relation.ensures.form) c.in-Ok.ensures.form)

pub returns-in-Err-clause-at : goal.returns-in-Err-clause-at
returns-in-Err-clause-at g c =
    names_there c.args.pages.now.layout c.args.index c.relation_of-relation.result c.args.block c.in-Err.error (c.relation_of-relation.ensures.number ∙ ap (λ (l : DiskLayout). relation_of l c.args.index) c.layout.ensures) c.requires.index c.requires.block c.in-Err.ensures.at
