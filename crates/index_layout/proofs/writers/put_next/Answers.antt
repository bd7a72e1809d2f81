use Rattle.std.proofs.Common.{◌∷◌, ◌++◌, [], length, get_or, ap, length-append, arith}
use Rattle.std.specs.Prelude.{None}
use Rattle.index_layout.specs.IndexReading.{slots_of}
use Rattle.index_layout.proofs.SlotsRead.{one_list}
use Rattle.index_layout.proofs.Reading.{few_slots, has_read, regular_front}
use Rattle.index_layout.proofs.PageWrites.{next_put, room_added}
use Rattle.index_layout.proofs.writers.put_next.Goals as goal

pub overflow_add-count : goal.overflow_add-count
overflow_add-count c =
    let page = c.args.page.now in
    omega (arith, few_slots (get_or page 0 0) (slots_of page) page c.requires.page, c.requires.count)

pub set_slot-requires : goal.set_slot-requires
set_slot-requires c =
    let page = c.args.page.now in
    let next = c.add_slot.new.page in
    let slots = slots_of page in
    let all = slots ++ None ∷ [] in
    let same = one_list (get_or page 0 0) all next c.add_slot.ensures.added in
    record {
      page = has_read (get_or page 0 0) all next c.add_slot.ensures.added;
      whole = omega (arith, c.requires.whole);
      count = omega (arith, ap length same, length-append slots (None ∷ []), c.requires.count);
      slot = omega arith;
      room = omega (arith, room_added slots (slots_of next) same, c.requires.room);
    }

pub returns : goal.returns
returns c =
    let page = c.args.page.now in
    let next = c.add_slot.new.page in
    let slots = slots_of page in
    let all = slots ++ None ∷ [] in
    let same = one_list (get_or page 0 0) all next c.add_slot.ensures.added in
    record {
      put = next_put (get_or page 0 0) (get_or next 0 0) slots (slots_of next) c.args.count c.args.tuple.now c.set_slot.new.page c.requires.count same (regular_front (get_or page 0 0) all next c.add_slot.ensures.added) c.requires.some c.set_slot.ensures.set;
    }
