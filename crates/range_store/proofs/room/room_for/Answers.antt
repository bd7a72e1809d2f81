use Rattle.std.proofs.Common.{◌≡◌, ap, subst, ◌∙◌}
use Rattle.store_layout.specs.DiskLayout.{DiskLayout}
use Rattle.page_map.specs.Keeps.{Tells}
use Rattle.page_map.specs.PageMap.{block_limit}
use Rattle.index_contents.specs.IndexContents.{relation_of}
use Rattle.index_contents.proofs.Relations.{pages_checked}
use Rattle.range_store.proofs.Targets.{no_target_at, target_at}
use Rattle.range_store.proofs.room.room_for.Goals as goal

pub returns-clause-target : goal.returns-clause-target
returns-clause-target g c =
    let store = c.args.pages.now in
    let relation = c.relation_of-relation.result in
    let at = c.relation_of-relation.ensures.number ∙ ap (λ (l : DiskLayout). relation_of l c.args.index) c.layout.ensures in
    let limit = subst (λ (l : DiskLayout). block_limit l relation ≡ l.sizes.index_blocks) c.layout.ensures c.relation_of-relation.ensures.limit in
    target_at (Tells g.D.Disk.told store) store.layout store.pages c.args.index relation (block_limit store.layout relation) c.args.bytes c.first_target.result (λ tells. pages_checked store.layout store.pages c.args.index c.requires.index (c.known.ensures.checked tells)) at limit c.first_target.ensures.first

pub returns-clause-none : goal.returns-clause-none
returns-clause-none g c = λ none tells block target.
    let store = c.args.pages.now in
    let relation = c.relation_of-relation.result in
    let at = c.relation_of-relation.ensures.number ∙ ap (λ (l : DiskLayout). relation_of l c.args.index) c.layout.ensures in
    let limit = subst (λ (l : DiskLayout). block_limit l relation ≡ l.sizes.index_blocks) c.layout.ensures c.relation_of-relation.ensures.limit in
    no_target_at store.layout store.pages c.args.index relation (block_limit store.layout relation) c.args.bytes c.first_target.result (pages_checked store.layout store.pages c.args.index c.requires.index (c.known.ensures.checked tells)) at limit none (c.first_target.ensures.first tells) block target
