use Rattle.std.proofs.Common.{◌≡◌, ◌<◌, length, subst, ap, ◌∙◌, arith}
use Rattle.block_model.specs.declared.schema.Sizes.{Sizes}
use Rattle.store_layout.specs.DiskLayout.{DiskLayout, relation_blocks}
use Rattle.page_map.specs.PageMap.{block_limit}
use Rattle.index_contents.specs.IndexContents.{relation_of}
use Rattle.index_contents.specs.Calls.{past_the_limit}
use Rattle.index_contents.specs.PageLaws.{leaves_others}
use Rattle.page_store.specs.SurvivesLaws.{survives_still}
use Rattle.index_contents.specs.OrderLaws.{order_kept}
use Rattle.revmap.proofs.RangeEntries.{holds_map, no_map_there, sets_order, sets_range}
use Rattle.revmap.proofs.entries.set_found.Goals as goal

pub no_such_page-requires-clause-untold : goal.no_such_page-requires-clause-untold
no_such_page-requires-clause-untold g c = λ tells.
    let store = c.args.pages.now in
    let there = subst (λ (l : DiskLayout). c.relation_of-relation.result < length (relation_blocks l)) c.layout.ensures c.relation_of-relation.ensures.there in
    let limit = subst (λ (l : DiskLayout). block_limit l c.relation_of-relation.result ≡ l.sizes.index_blocks) c.layout.ensures c.relation_of-relation.ensures.limit in
    let blocks = c.sizes.ensures ∙ ap (λ (l : DiskLayout). l.sizes) c.layout-2.ensures in
    let past = past_the_limit store.layout store.pages c.relation_of-relation.result c.map_page_of-block.result c.known.ensures.whole there (omega (arith, limit, c.if-block-sizes.true, ap (λ (s : Sizes). s.index_blocks) blocks)) in
    no_map_there _ past (holds_map store.layout store.pages c.args.index c.args.range c.relation_of-relation.result c.map_page_of-block.result (c.relation_of-relation.ensures.number ∙ ap (λ (l : DiskLayout). relation_of l c.args.index) c.layout.ensures) c.map_page_of-block.ensures (c.requires.map tells))

pub set_entry-requires-clause-map : goal.set_entry-requires-clause-map
set_entry-requires-clause-map g c = λ tells.
    let store = c.args.pages.now in
    holds_map store.layout store.pages c.args.index c.args.range c.relation_of-relation.result c.map_page_of-block.result (c.relation_of-relation.ensures.number ∙ ap (λ (l : DiskLayout). relation_of l c.args.index) c.layout.ensures) c.map_page_of-block.ensures (c.requires.map tells)

pub returns-in-Ok-clause-set : goal.returns-in-Ok-clause-set
returns-in-Ok-clause-set g c = λ tells.
    sets_range g.D.Disk.told c.args.index c.args.range c.relation_of-relation.result c.map_page_of-block.result c.entry_of.result c.args.spot c.args.pages.now c.set_entry.new.pages c.an_index_page_has_one_list.ensures.entries (c.relation_of-relation.ensures.number ∙ ap (λ (l : DiskLayout). relation_of l c.args.index) c.layout.ensures) c.map_page_of-block.ensures c.entry_of.ensures.number tells c.set_entry.ensures.others (c.requires.map tells) (c.in-Ok.ensures.set tells)

pub returns-in-Ok-clause-others : goal.returns-in-Ok-clause-others
returns-in-Ok-clause-others g c = leaves_others g.D.Disk.told c.args.index (record { relation = c.relation_of-relation.result; block = c.map_page_of-block.result }) c.args.pages.now c.set_entry.new.pages (c.relation_of-relation.ensures.number ∙ ap (λ (l : DiskLayout). relation_of l c.args.index) c.layout.ensures) c.set_entry.ensures.others

pub returns-in-Err-clause-others : goal.returns-in-Err-clause-others
returns-in-Err-clause-others g c = leaves_others g.D.Disk.told c.args.index (record { relation = c.relation_of-relation.result; block = c.map_page_of-block.result }) c.args.pages.now c.set_entry.new.pages (c.relation_of-relation.ensures.number ∙ ap (λ (l : DiskLayout). relation_of l c.args.index) c.layout.ensures) c.set_entry.ensures.others

pub returns-then-block-sizes-clause-survives : goal.returns-then-block-sizes-clause-survives
returns-then-block-sizes-clause-survives g c = survives_still g.D.Disk.told c.args.pages.now c.known.ensures.stays

pub returns-in-Ok-clause-order : goal.returns-in-Ok-clause-order
returns-in-Ok-clause-order g c =
    sets_order g.D.Disk.told c.args.index c.args.range c.relation_of-relation.result c.map_page_of-block.result c.entry_of.result c.args.spot c.args.pages.now c.set_entry.new.pages
    (c.relation_of-relation.ensures.number ∙ ap (λ (l : DiskLayout). relation_of l c.args.index) c.layout.ensures) c.map_page_of-block.ensures c.set_entry.ensures.others c.requires.map c.in-Ok.ensures.set

pub returns-in-Err-clause-order : goal.returns-in-Err-clause-order
returns-in-Err-clause-order g c = order_kept g.D.Disk.told c.args.index c.args.pages.now c.set_entry.new.pages c.in-Err.ensures.kept
