use Rattle.std.proofs.Common.{ℕ, subst, arith, ap, ◌∙◌, ◌≡◌, ◌<◌, length}
use Rattle.store_layout.specs.DiskLayout.{DiskLayout, relation_blocks}
use Rattle.block_model.specs.declared.schema.Sizes.{Sizes}
use Rattle.page_map.specs.PageMap.{block_at, block_limit}
use Rattle.index_contents.specs.IndexContents.{relation_of}
use Rattle.page_map.specs.Outcome.{NamesPage}
use Rattle.index_contents.specs.Calls.{past_the_limit}
use Rattle.index_contents.specs.IndexChanges.{LeavesOtherPages}
use Rattle.index_contents.specs.PageLaws.{leaves_others}
use Rattle.page_store.specs.SurvivesLaws.{survives_still}
use Rattle.index_contents.specs.PageOrder.{kind_of}
use Rattle.index_contents.specs.OrderLaws.{order_kept}
use Rattle.index_contents.specs.OrderedCalls.{keeps_by_drop}
use Rattle.range_store.specs.PageTuples.{StaysWithoutTuples}
use Rattle.range_store.proofs.Spots.{drops_at, none_changes, none_drops, none_past}
use Rattle.range_store.proofs.dropping.drop_at.Goals as goal

pub returns-in-Ok-clause-dropped : goal.returns-in-Ok-clause-dropped
returns-in-Ok-clause-dropped g c = λ tells.
    let store = c.args.pages.now in
    let there = subst (λ (l : DiskLayout). c.relation_of-relation.result < length (relation_blocks l)) c.layout.ensures c.relation_of-relation.ensures.there in
    let limit = subst (λ (l : DiskLayout). block_limit l c.relation_of-relation.result ≡ l.sizes.index_blocks) c.layout.ensures c.relation_of-relation.ensures.limit in
    let blocks = c.sizes.ensures ∙ ap (λ (l : DiskLayout). l.sizes) c.layout-2.ensures in
    let past = past_the_limit store.layout store.pages c.relation_of-relation.result c.args.spot.block c.known.ensures.whole there (omega (arith, limit, c.if-block-sizes.true, ap (λ (s : Sizes). s.index_blocks) blocks)) in
    none_drops store.layout store.pages c.args.index c.args.spot (none_past store.layout store.pages c.args.index c.relation_of-relation.result c.args.spot (c.relation_of-relation.ensures.number ∙ ap (λ (l : DiskLayout). relation_of l c.args.index) c.layout.ensures) past)

pub returns-in-Ok-drop_on-clause-dropped : goal.returns-in-Ok-drop_on-clause-dropped
returns-in-Ok-drop_on-clause-dropped g c = λ tells.
    drops_at g.D.Disk.told c.args.index c.relation_of-relation.result c.args.spot c.args.pages.now c.drop_on.new.pages (c.relation_of-relation.ensures.number ∙ ap (λ (l : DiskLayout). relation_of l c.args.index) c.layout.ensures) tells c.drop_on.ensures.others (c.in-Ok-drop_on.ensures.dropped tells)

pub returns-in-Ok-drop_on-clause-others : goal.returns-in-Ok-drop_on-clause-others
returns-in-Ok-drop_on-clause-others g c = leaves_others g.D.Disk.told c.args.index (record { relation = c.relation_of-relation.result; block = c.args.spot.block }) c.args.pages.now c.drop_on.new.pages (c.relation_of-relation.ensures.number ∙ ap (λ (l : DiskLayout). relation_of l c.args.index) c.layout.ensures) c.drop_on.ensures.others

pub returns-in-Err-drop_on-clause-others : goal.returns-in-Err-drop_on-clause-others
returns-in-Err-drop_on-clause-others g c = leaves_others g.D.Disk.told c.args.index (record { relation = c.relation_of-relation.result; block = c.args.spot.block }) c.args.pages.now c.drop_on.new.pages (c.relation_of-relation.ensures.number ∙ ap (λ (l : DiskLayout). relation_of l c.args.index) c.layout.ensures) c.drop_on.ensures.others

pub returns-in-Err-drop_on-clause-at : goal.returns-in-Err-drop_on-clause-at
returns-in-Err-drop_on-clause-at g c = subst (λ (r : ℕ). NamesPage c.args.pages.now.layout (record { relation = r; block = c.args.spot.block }) c.in-Err-drop_on.error) (c.relation_of-relation.ensures.number ∙ ap (λ (l : DiskLayout). relation_of l c.args.index) c.layout.ensures) c.in-Err-drop_on.ensures.at

pub returns-in-Err-drop_on-clause-reopen : goal.returns-in-Err-drop_on-clause-reopen
returns-in-Err-drop_on-clause-reopen g c = λ past.
    let blocks = c.sizes.ensures ∙ ap (λ (l : DiskLayout). l.sizes) c.layout-2.ensures in
    absurd (omega (arith, c.if-block-sizes.false, ap (λ (s : Sizes). s.index_blocks) blocks, past))

pub returns-in-Ok-drop_on-clause-pages : goal.returns-in-Ok-drop_on-clause-pages
returns-in-Ok-drop_on-clause-pages g c =
    let store = c.args.pages.now in
    subst (λ (r : ℕ). LeavesOtherPages g.D.Disk.told (record { relation = r; block = c.args.spot.block }) store c.drop_on.new.pages) (c.relation_of-relation.ensures.number ∙ ap (λ (l : DiskLayout). relation_of l c.args.index) c.layout.ensures) c.drop_on.ensures.others

pub returns-in-Err-drop_on-clause-pages : goal.returns-in-Err-drop_on-clause-pages
returns-in-Err-drop_on-clause-pages g c =
    let store = c.args.pages.now in
    subst (λ (r : ℕ). LeavesOtherPages g.D.Disk.told (record { relation = r; block = c.args.spot.block }) store c.drop_on.new.pages) (c.relation_of-relation.ensures.number ∙ ap (λ (l : DiskLayout). relation_of l c.args.index) c.layout.ensures) c.drop_on.ensures.others

pub returns-in-Ok-drop_on-clause-alone : goal.returns-in-Ok-drop_on-clause-alone
returns-in-Ok-drop_on-clause-alone g c = λ tells.
    let store = c.args.pages.now in
    subst (λ (r : ℕ). StaysWithoutTuples (block_at store.pages r c.args.spot.block) (block_at c.drop_on.new.pages.pages r c.args.spot.block)) (c.relation_of-relation.ensures.number ∙ ap (λ (l : DiskLayout). relation_of l c.args.index) c.layout.ensures) (c.in-Ok-drop_on.ensures.dropped tells).alone

pub returns-in-Ok-drop_on-clause-free : goal.returns-in-Ok-drop_on-clause-free
returns-in-Ok-drop_on-clause-free g c = λ tells none.
    let store = c.args.pages.now in
    none_changes store.layout store.pages c.drop_on.new.pages.pages c.args.index c.relation_of-relation.result c.args.spot (c.relation_of-relation.ensures.number ∙ ap (λ (l : DiskLayout). relation_of l c.args.index) c.layout.ensures) (c.in-Ok-drop_on.ensures.dropped tells) none

pub returns-in-Ok-clause-survives : goal.returns-in-Ok-clause-survives
returns-in-Ok-clause-survives g c = survives_still g.D.Disk.told c.args.pages.now c.ready.ensures.stays

pub returns-in-Err-clause-survives : goal.returns-in-Err-clause-survives
returns-in-Err-clause-survives g c = survives_still g.D.Disk.told c.args.pages.now c.ready.ensures.stays

pub returns-in-Ok-drop_on-clause-order : goal.returns-in-Ok-drop_on-clause-order
returns-in-Ok-drop_on-clause-order g c =
    let store = c.args.pages.now in
    let block = c.args.spot.block in
    let blocks = c.sizes.ensures ∙ ap (λ (l : DiskLayout). l.sizes) c.layout-2.ensures in
    let within : block < store.layout.sizes.index_blocks = omega (arith, c.if-block-sizes.false, ap (λ (s : Sizes). s.index_blocks) blocks) in
    keeps_by_drop g.D.Disk.told c.args.index block store c.drop_on.new.pages (returns-in-Ok-drop_on-clause-pages g c) within
    (λ tells. subst (λ (r : ℕ). kind_of (block_at c.drop_on.new.pages.pages r block) ≡ kind_of (block_at store.pages r block)) (c.relation_of-relation.ensures.number ∙ ap (λ (l : DiskLayout). relation_of l c.args.index) c.layout.ensures) (c.in-Ok-drop_on.ensures.dropped tells).kind)
    (returns-in-Ok-drop_on-clause-alone g c)

pub returns-in-Err-drop_on-clause-order : goal.returns-in-Err-drop_on-clause-order
returns-in-Err-drop_on-clause-order g c = order_kept g.D.Disk.told c.args.index c.args.pages.now c.drop_on.new.pages c.in-Err-drop_on.ensures.kept
