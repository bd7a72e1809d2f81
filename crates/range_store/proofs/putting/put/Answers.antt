use Rattle.std.proofs.Common.{ℕ, length, subst, ap, ◌∙◌}
use Rattle.store_layout.specs.DiskLayout.{DiskLayout}
use Rattle.index_contents.specs.IndexContents.{contents, relation_of}
use Rattle.block_model.specs.declared.place.Spot.{Spot}
use Rattle.page_map.specs.Outcome.{NamesPage}
use Rattle.index_contents.specs.IndexChanges.{LeavesOtherPages}
use Rattle.index_contents.specs.PageLaws.{leaves_others}
use Rattle.index_contents.specs.OrderLaws.{order_kept}
use Rattle.index_contents.specs.OrderedCalls.{keeps_by_put}
use Rattle.index_contents.proofs.Relations.{pages_checked}
use Rattle.range_store.proofs.Spots.{puts_at, takes_either, takes_on}
use Rattle.range_store.proofs.putting.put.Goals as goal

pub put_on-requires-clause-room : goal.put_on-requires-clause-room
put_on-requires-clause-room g c = λ tells.
    let store = c.args.pages.now in
    takes_on store.layout store.pages c.args.index c.relation_of-relation.result c.args.block (length c.args.bytes.now) (c.relation_of-relation.ensures.number ∙ ap (λ (l : DiskLayout). relation_of l c.args.index) c.layout.ensures)
    (pages_checked store.layout store.pages c.args.index c.requires.index (c.known.ensures.checked tells) c.args.block) (c.requires.room tells)

pub returns-in-Ok-clause-put : goal.returns-in-Ok-clause-put
returns-in-Ok-clause-put g c = λ tells.
    let spot : Spot = record { block = c.args.block; slot = c.in-Ok.slot } in
    puts_at g.D.Disk.told c.args.index c.relation_of-relation.result spot c.args.bytes.now c.args.pages.now c.put_on.new.pages (c.relation_of-relation.ensures.number ∙ ap (λ (l : DiskLayout). relation_of l c.args.index) c.layout.ensures) tells c.put_on.ensures.others (c.in-Ok.ensures.put tells)

pub returns-in-Ok-clause-others : goal.returns-in-Ok-clause-others
returns-in-Ok-clause-others g c = leaves_others g.D.Disk.told c.args.index (record { relation = c.relation_of-relation.result; block = c.args.block }) c.args.pages.now c.put_on.new.pages (c.relation_of-relation.ensures.number ∙ ap (λ (l : DiskLayout). relation_of l c.args.index) c.layout.ensures) c.put_on.ensures.others

pub returns-in-Err-clause-others : goal.returns-in-Err-clause-others
returns-in-Err-clause-others g c = leaves_others g.D.Disk.told c.args.index (record { relation = c.relation_of-relation.result; block = c.args.block }) c.args.pages.now c.put_on.new.pages (c.relation_of-relation.ensures.number ∙ ap (λ (l : DiskLayout). relation_of l c.args.index) c.layout.ensures) c.put_on.ensures.others

pub returns-in-Err-clause-at : goal.returns-in-Err-clause-at
returns-in-Err-clause-at g c = subst (λ (r : ℕ). NamesPage c.args.pages.now.layout (record { relation = r; block = c.args.block }) c.in-Err.error) (c.relation_of-relation.ensures.number ∙ ap (λ (l : DiskLayout). relation_of l c.args.index) c.layout.ensures) c.in-Err.ensures.at

pub returns-in-Ok-clause-pages : goal.returns-in-Ok-clause-pages
returns-in-Ok-clause-pages g c =
    let store = c.args.pages.now in
    subst (λ (r : ℕ). LeavesOtherPages g.D.Disk.told (record { relation = r; block = c.args.block }) store c.put_on.new.pages) (c.relation_of-relation.ensures.number ∙ ap (λ (l : DiskLayout). relation_of l c.args.index) c.layout.ensures) c.put_on.ensures.others

pub returns-in-Err-clause-pages : goal.returns-in-Err-clause-pages
returns-in-Err-clause-pages g c =
    let store = c.args.pages.now in
    subst (λ (r : ℕ). LeavesOtherPages g.D.Disk.told (record { relation = r; block = c.args.block }) store c.put_on.new.pages) (c.relation_of-relation.ensures.number ∙ ap (λ (l : DiskLayout). relation_of l c.args.index) c.layout.ensures) c.put_on.ensures.others

pub returns-in-Ok-clause-order : goal.returns-in-Ok-clause-order
returns-in-Ok-clause-order g c = λ first.
    let store = c.args.pages.now in
    let others = subst (λ (r : ℕ). LeavesOtherPages g.D.Disk.told (record { relation = r; block = c.args.block }) store c.put_on.new.pages) (c.relation_of-relation.ensures.number ∙ ap (λ (l : DiskLayout). relation_of l c.args.index) c.layout.ensures) c.put_on.ensures.others in
    keeps_by_put g.D.Disk.told c.args.index c.args.block store c.put_on.new.pages others c.requires.block (λ tells. takes_either (contents store.layout store.pages c.args.index).pages (contents store.layout store.pages c.args.index).bytes (length c.args.bytes.now) c.args.block (c.requires.room tells))
    (λ tells. (returns-in-Ok-clause-put g c tells).page.now) first

pub returns-in-Err-clause-order : goal.returns-in-Err-clause-order
returns-in-Err-clause-order g c = λ first. order_kept g.D.Disk.told c.args.index c.args.pages.now c.put_on.new.pages c.in-Err.ensures.kept
