use Rattle.std.proofs.Common.{ap, ◌∙◌, arith}
use Rattle.std.proofs.lemmas.Bool.{ltb-false, ltb-true}
use Rattle.store_layout.specs.DiskLayout.{DiskLayout}
use Rattle.index_contents.specs.IndexContents.{relation_of}
use Rattle.summarise_core.proofs.Grown.{counted_is}
use Rattle.summarise_core.proofs.growing.is_past_map.Goals as goal

pub returns-clause-past : goal.returns-clause-past
returns-clause-past g c = λ is tells.
    let store = c.args.pages.now in
    let at = c.relation_of-relation.ensures.number ∙ ap (λ (l : DiskLayout). relation_of l c.args.at.index) c.layout.ensures in
    let counted = counted_is store.layout store.pages c.args.at.index c.relation_of-relation.result c.map_pages.result at (c.map_pages.ensures.counted tells) in
    omega (arith, counted, c.map_page_of.ensures, ltb-true c.map_pages.result c.map_page_of.result is)

pub returns-clause-long : goal.returns-clause-long
returns-clause-long g c = λ is tells past.
    let store = c.args.pages.now in
    let at = c.relation_of-relation.ensures.number ∙ ap (λ (l : DiskLayout). relation_of l c.args.at.index) c.layout.ensures in
    let counted = counted_is store.layout store.pages c.args.at.index c.relation_of-relation.result c.map_pages.result at (c.map_pages.ensures.counted tells) in
    omega (arith, counted, c.map_page_of.ensures, past, ltb-false c.map_pages.result c.map_page_of.result is)
