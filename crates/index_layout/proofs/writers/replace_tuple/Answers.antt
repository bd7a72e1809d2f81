use Rattle.std.proofs.Common.{length, get_or, ap}
use Rattle.index_layout.specs.IndexReading.{slots_of, is_regular}
use Rattle.index_layout.proofs.Dropping.{in_place}
use Rattle.index_layout.proofs.PageWrites.{slot_put}
use Rattle.index_layout.proofs.writers.replace_tuple.Goals as goal

pub returns : goal.returns
returns c =
    let page = c.args.page.now in
    let regular = c.page_known.ensures.regular (ap is_regular c.requires.room.0) in
    let there = in_place (slots_of page) c.args.slot (length c.args.tuple.now) c.requires.room.2 in
    record { replaced = slot_put (get_or page 0 0) (slots_of page) c.args.slot c.args.tuple.now c.set_slot.new.page there.0 c.requires.room.1 c.requires.room.0 regular.last c.set_slot.ensures.set }
