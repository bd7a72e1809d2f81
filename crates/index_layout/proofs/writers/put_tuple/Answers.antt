use Rattle.std.proofs.Common.{length, get_or, ap, arith}
use Rattle.index_layout.specs.IndexReading.{slots_of, is_regular}
use Rattle.index_layout.proofs.Dropping.{room_next}
use Rattle.index_layout.proofs.PageWrites.{slot_put_there, slot_put_next}
use Rattle.index_layout.proofs.writers.put_tuple.Goals as goal

pub put_next-requires : goal.put_next-requires
put_next-requires c =
    let slots = slots_of c.args.page.now in
    let regular = c.page_known.ensures.regular (ap is_regular c.requires.room.0) in
    let next = room_next slots c.args.slot (length c.args.tuple.now) (omega (arith, c.slots-count.ensures, c.if-slot-count.false)) c.requires.room.2 in
    record { page = regular.has; whole = c.page_known.ensures.whole; count = c.slots-count.ensures; some = c.requires.room.1; room = next.1 }

pub returns-then-slot-count : goal.returns-then-slot-count
returns-then-slot-count c =
    let page = c.args.page.now in
    let regular = c.page_known.ensures.regular (ap is_regular c.requires.room.0) in
    record { put = slot_put_there (get_or page 0 0) (slots_of page) c.args.slot c.args.tuple.now c.set_slot.new.page (omega (arith, c.slots-count.ensures, c.if-slot-count.true)) c.requires.room.1 c.requires.room.0 regular.last c.set_slot.ensures.set }

pub returns-else-slot-count : goal.returns-else-slot-count
returns-else-slot-count c =
    let page = c.args.page.now in
    let slots = slots_of page in
    let next = room_next slots c.args.slot (length c.args.tuple.now) (omega (arith, c.slots-count.ensures, c.if-slot-count.false)) c.requires.room.2 in
    record { put = slot_put_next (get_or page 0 0) slots c.args.slot c.args.tuple.now c.put_next.new.page next.0 c.requires.room.0 c.put_next.ensures.put }
