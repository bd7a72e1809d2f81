use Rattle.std.proofs.Common.{[], ◌∷◌, ap, subst, ◌∙◌, ◌≡◌}
use Rattle.block_model.specs.declared.place.Place.{Place}
use Rattle.store_layout.specs.DiskLayout.{DiskLayout}
use Rattle.page_layout.specs.declared.page.Form.TheVariants as forms
use Rattle.page_map.specs.Forms.{form_of}
use Rattle.wal_record.specs.Changes.{MetaSet}
use Rattle.index_contents.specs.IndexContents.{relation_of}
use Rattle.index_contents.specs.PageLaws.{leaves_others}
use Rattle.index_steps.proofs.Changing.{count_fits, counted_block, counted_order, leaves_pages}
use Rattle.index_steps.proofs.changes.count_page.Goals as goal

pub change-requires-clause-fits : goal.change-requires-clause-fits
change-requires-clause-fits g c = λ tells.
    let store = c.args.pages.now in
    count_fits store.layout store.pages c.args.index c.args.block c.relation_of-relation.result (c.relation_of-relation.ensures.number ∙ ap (λ (l : DiskLayout). relation_of l c.args.index) c.layout.ensures) (subst (λ (l : DiskLayout). form_of l c.relation_of-relation.result ≡ forms.Index) c.layout.ensures c.relation_of-relation.ensures.form) (c.known.ensures.checked tells (record { relation = c.relation_of-relation.result; block = 0 })) (c.requires.next tells)

pub returns-in-Ok-clause-counted : goal.returns-in-Ok-clause-counted
returns-in-Ok-clause-counted g c = λ tells.
    let store = c.args.pages.now in
    counted_block store.layout store.pages c.change.new.self.pages c.args.index c.args.block c.relation_of-relation.result (c.relation_of-relation.ensures.number ∙ ap (λ (l : DiskLayout). relation_of l c.args.index) c.layout.ensures) (c.in-Ok.ensures.changed tells) (c.requires.next tells) c.an_index_page_has_one_list.ensures.entries c.an_index_page_has_one_list.ensures.pages

pub returns-in-Ok-clause-order : goal.returns-in-Ok-clause-order
returns-in-Ok-clause-order g c = λ tells.
    let store = c.args.pages.now in
    counted_order store.layout store.pages c.change.new.self.pages c.args.index c.args.block c.relation_of-relation.result (c.relation_of-relation.ensures.number ∙ ap (λ (l : DiskLayout). relation_of l c.args.index) c.layout.ensures) (c.in-Ok.ensures.changed tells) (c.requires.next tells) c.an_index_page_has_one_list.ensures.pages

pub returns-in-Ok-clause-others : goal.returns-in-Ok-clause-others
returns-in-Ok-clause-others g c =
    let place : Place = record { relation = c.relation_of-relation.result; block = 0 } in
    leaves_others g.D.Disk.told c.args.index place c.args.pages.now c.change.new.self (c.relation_of-relation.ensures.number ∙ ap (λ (l : DiskLayout). relation_of l c.args.index) c.layout.ensures)
    (leaves_pages g.D.Disk.told place (MetaSet place c.args.block ∷ []) c.args.pages.now c.change.new.self c.change.ensures.leaves (λ tells. c.in-Ok.ensures.changed tells))
