use Rattle.std.proofs.Common.{refl}
use Rattle.page_redo.specs.IndexLaws.{page_index_of}
use Rattle.page_map.proofs.PageKinds.{no_maps}
use Rattle.page_map.proofs.facts.maps_of.Goals as goal

pub returns-then-not-is_index : goal.returns-then-not-is_index
returns-then-not-is_index c = no_maps c.args.form.now c.args.page.now (c.if-not-is_index.ensures.rows refl) c.requires

pub map_pages-requires : goal.map_pages-requires
map_pages-requires c = page_index_of c.args.form.now c.args.page.now (c.if-not-is_index.ensures.index refl) c.requires
