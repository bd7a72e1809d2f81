use Rattle.std.proofs.Common.{[], ◌∷◌, ap, ◌∙◌}
use Rattle.block_model.specs.declared.place.Place.{Place}
use Rattle.store_layout.specs.DiskLayout.{DiskLayout}
use Rattle.wal_record.specs.Changes.{PageStart}
use Rattle.index_layout.specs.declared.format.TheConstants.{MAP}
use Rattle.index_contents.specs.IndexContents.{relation_of}
use Rattle.index_contents.specs.PageLaws.{leaves_others}
use Rattle.index_steps.proofs.Changing.{started_block, started_order, leaves_pages}
use Rattle.index_steps.proofs.changes.start_map_page.Goals as goal

pub returns-in-Ok-clause-turned : goal.returns-in-Ok-clause-turned
returns-in-Ok-clause-turned g c = λ tells.
    let store = c.args.pages.now in
    started_block store.layout store.pages c.change.new.self.pages c.args.index c.args.block c.relation_of-relation.result (c.relation_of-relation.ensures.number ∙ ap (λ (l : DiskLayout). relation_of l c.args.index) c.layout.ensures) (c.in-Ok.ensures.changed tells) (c.requires.next tells)

pub returns-in-Ok-clause-order : goal.returns-in-Ok-clause-order
returns-in-Ok-clause-order g c = λ tells.
    let store = c.args.pages.now in
    started_order store.layout store.pages c.change.new.self.pages c.args.index c.args.block c.relation_of-relation.result (c.relation_of-relation.ensures.number ∙ ap (λ (l : DiskLayout). relation_of l c.args.index) c.layout.ensures) (c.in-Ok.ensures.changed tells) (c.requires.next tells)

pub returns-in-Ok-clause-others : goal.returns-in-Ok-clause-others
returns-in-Ok-clause-others g c =
    let place : Place = record { relation = c.relation_of-relation.result; block = c.args.block } in
    leaves_others g.D.Disk.told c.args.index place c.args.pages.now c.change.new.self (c.relation_of-relation.ensures.number ∙ ap (λ (l : DiskLayout). relation_of l c.args.index) c.layout.ensures)
    (leaves_pages g.D.Disk.told place (PageStart place MAP ∷ []) c.args.pages.now c.change.new.self c.change.ensures.leaves (λ tells. c.in-Ok.ensures.changed tells))
