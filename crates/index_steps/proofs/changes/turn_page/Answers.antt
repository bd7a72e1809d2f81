use Rattle.std.proofs.Common.{[], ◌∷◌, ap, subst, ◌∙◌, ◌≡◌}
use Rattle.block_model.specs.declared.place.Place.{Place}
use Rattle.store_layout.specs.DiskLayout.{DiskLayout}
use Rattle.page_layout.specs.declared.page.Form.TheVariants as forms
use Rattle.page_map.specs.Forms.{form_of}
use Rattle.page_map.specs.PageMap.{block_at}
use Rattle.wal_record.specs.Changes.{MapPage}
use Rattle.index_contents.specs.IndexContents.{relation_of}
use Rattle.index_contents.specs.PageLaws.{leaves_others}
use Rattle.index_steps.proofs.Changing.{emptied_block, emptied_order, no_slots_left, turn_fits, leaves_pages}
use Rattle.index_steps.proofs.changes.turn_page.Goals as goal

pub change-requires-clause-fits : goal.change-requires-clause-fits
change-requires-clause-fits g c = λ tells.
    let store = c.args.pages.now in
    let page = block_at store.pages c.relation_of-relation.result c.args.block in
    let checked = c.known.ensures.checked tells (record { relation = c.relation_of-relation.result; block = c.args.block }) in
    let is = c.index_pages_are_known.ensures store.layout c.relation_of-relation.result page (subst (λ (l : DiskLayout). form_of l c.relation_of-relation.result ≡ forms.Index) c.layout.ensures c.relation_of-relation.ensures.form) checked in
    turn_fits store.layout store.pages c.args.index c.args.block c.relation_of-relation.result (c.relation_of-relation.ensures.number ∙ ap (λ (l : DiskLayout). relation_of l c.args.index) c.layout.ensures) (subst (λ (l : DiskLayout). form_of l c.relation_of-relation.result ≡ forms.Index) c.layout.ensures c.relation_of-relation.ensures.form) checked (c.requires.next tells)
    (no_slots_left store.layout store.pages c.args.index c.args.block c.relation_of-relation.result (c.relation_of-relation.ensures.number ∙ ap (λ (l : DiskLayout). relation_of l c.args.index) c.layout.ensures) (c.requires.next tells) (c.an_index_page_has_one_list.ensures.regular page is) (c.requires.empty tells))

pub returns-in-Ok-clause-turned : goal.returns-in-Ok-clause-turned
returns-in-Ok-clause-turned g c = λ tells.
    let store = c.args.pages.now in
    emptied_block store.layout store.pages c.change.new.self.pages c.args.index c.args.block c.relation_of-relation.result (c.relation_of-relation.ensures.number ∙ ap (λ (l : DiskLayout). relation_of l c.args.index) c.layout.ensures) (c.in-Ok.ensures.changed tells) (c.requires.next tells) (c.requires.empty tells)

pub returns-in-Ok-clause-order : goal.returns-in-Ok-clause-order
returns-in-Ok-clause-order g c = λ tells.
    let store = c.args.pages.now in
    emptied_order store.layout store.pages c.change.new.self.pages c.args.index c.args.block c.relation_of-relation.result (c.relation_of-relation.ensures.number ∙ ap (λ (l : DiskLayout). relation_of l c.args.index) c.layout.ensures) (c.in-Ok.ensures.changed tells) (c.requires.next tells)

pub returns-in-Ok-clause-others : goal.returns-in-Ok-clause-others
returns-in-Ok-clause-others g c =
    let place : Place = record { relation = c.relation_of-relation.result; block = c.args.block } in
    leaves_others g.D.Disk.told c.args.index place c.args.pages.now c.change.new.self (c.relation_of-relation.ensures.number ∙ ap (λ (l : DiskLayout). relation_of l c.args.index) c.layout.ensures)
    (leaves_pages g.D.Disk.told place (MapPage place ∷ []) c.args.pages.now c.change.new.self c.change.ensures.leaves (λ tells. c.in-Ok.ensures.changed tells))
