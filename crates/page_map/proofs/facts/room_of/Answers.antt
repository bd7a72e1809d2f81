use Rattle.std.proofs.Common.{refl}
use Rattle.page_redo.specs.IndexLaws.{page_index_of}
use Rattle.page_map.proofs.PageKinds.{no_tuple_room}
use Rattle.page_map.proofs.facts.room_of.Goals as goal

pub returns-then-not-is_index : goal.returns-then-not-is_index
returns-then-not-is_index c = no_tuple_room c.args.form.now c.args.page.now (c.if-not-is_index.ensures.rows refl) c.requires

pub room_for-requires : goal.room_for-requires
room_for-requires c = page_index_of c.args.form.now c.args.page.now (c.if-not-is_index.ensures.index refl) c.requires
