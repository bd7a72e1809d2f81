use Rattle.std.proofs.Common.{get_or, arith}
use Rattle.index_layout.specs.IndexReading.{slots_of}
use Rattle.index_layout.proofs.Reading.{few_slots}
use Rattle.index_layout.proofs.PageWrites.{slot_added}
use Rattle.index_layout.proofs.writers.add_slot.Goals as goal

pub overflow_add-count : goal.overflow_add-count
overflow_add-count c =
    let page = c.args.page.now in
    omega (arith, few_slots (get_or page 0 0) (slots_of page) page c.requires.page, c.requires.count)

pub returns : goal.returns
returns c =
    let page = c.args.page.now in
    record { added = slot_added (get_or page 0 0) (slots_of page) page c.put_u16.new.bytes c.args.count c.requires.page c.requires.count c.requires.room c.put_u16.ensures.put }
