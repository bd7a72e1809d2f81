use Rattle.std.proofs.Common.{◌≡◌, ◌<◌, ◌≤◌, length, subst, ap, ◌∙◌, arith}
use Rattle.block_model.specs.declared.schema.Sizes.{Sizes}
use Rattle.store_layout.specs.DiskLayout.{DiskLayout, relation_blocks}
use Rattle.page_map.specs.PageMap.{block_limit}
use Rattle.coverage.specs.IndexView.{map_page_of}
use Rattle.index_contents.specs.IndexContents.{relation_of}
use Rattle.index_contents.specs.Calls.{past_the_limit}
use Rattle.index_contents.specs.Reading.{uncounted}
use Rattle.page_store.specs.SurvivesLaws.{survives_still}
use Rattle.revmap.proofs.RangeEntries.{entry_past, entry_read}
use Rattle.revmap.proofs.entries.entry.Goals as goal

pub returns-then-block-map_pages-clause-entry : goal.returns-then-block-map_pages-clause-entry
returns-then-block-map_pages-clause-entry g c = λ tells.
    let store = c.args.pages.now in
    let at = c.relation_of-relation.ensures.number ∙ ap (λ (l : DiskLayout). relation_of l c.args.index) c.layout.ensures in
    let below : c.map_pages.result < map_page_of c.args.range = omega (arith, c.if-block-map_pages.true, c.map_page_of-block.ensures) in
    uncounted store.layout store.pages c.args.index c.args.range c.relation_of-relation.result c.map_pages.result at (c.map_pages.ensures.counted tells) below

pub returns-then-block-sizes-clause-entry : goal.returns-then-block-sizes-clause-entry
returns-then-block-sizes-clause-entry g c = λ tells.
    let store = c.args.pages.now in
    let relation = c.relation_of-relation.result in
    let block = c.map_page_of-block.result in
    let at = c.relation_of-relation.ensures.number ∙ ap (λ (l : DiskLayout). relation_of l c.args.index) c.layout.ensures in
    let there = subst (λ (l : DiskLayout). relation < length (relation_blocks l)) c.layout.ensures c.relation_of-relation.ensures.there in
    let limit = subst (λ (l : DiskLayout). block_limit l relation ≡ l.sizes.index_blocks) c.layout.ensures c.relation_of-relation.ensures.limit in
    let blocks = ap (λ (s : Sizes). s.index_blocks) c.sizes.ensures ∙ ap (λ (l : DiskLayout). l.sizes.index_blocks) c.layout-2.ensures in
    let beyond : block_limit store.layout relation ≤ block = omega (arith, limit, blocks, c.if-block-sizes.true) in
    let past = past_the_limit store.layout store.pages relation block c.known.ensures.whole there beyond in
    entry_past store.layout store.pages c.args.index c.args.range relation block c.map_pages.result at c.map_page_of-block.ensures (c.map_pages.ensures.counted tells) c.if-block-map_pages.false past

pub returns-in-Ok-entry_at-clause-entry : goal.returns-in-Ok-entry_at-clause-entry
returns-in-Ok-entry_at-clause-entry g c = λ tells.
    let store = c.args.pages.now in
    let at = c.relation_of-relation.ensures.number ∙ ap (λ (l : DiskLayout). relation_of l c.args.index) c.layout.ensures in
    entry_read store.layout store.pages c.args.index c.args.range c.relation_of-relation.result c.map_page_of-block.result c.entry_of.result c.map_pages.result c.in-Ok-entry_at.entry at c.map_page_of-block.ensures c.entry_of.ensures.number (c.map_pages.ensures.counted tells) c.if-block-map_pages.false (c.in-Ok-entry_at.ensures.entry tells)

pub returns-in-Err-clause-survives : goal.returns-in-Err-clause-survives
returns-in-Err-clause-survives g c = survives_still g.D.Disk.told c.args.pages.now c.ready.ensures.stays

pub returns-then-block-map_pages-clause-survives : goal.returns-then-block-map_pages-clause-survives
returns-then-block-map_pages-clause-survives g c = survives_still g.D.Disk.told c.args.pages.now c.known.ensures.stays

pub returns-then-block-sizes-clause-survives : goal.returns-then-block-sizes-clause-survives
returns-then-block-sizes-clause-survives g c = survives_still g.D.Disk.told c.args.pages.now c.known.ensures.stays
