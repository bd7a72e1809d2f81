use Rattle.std.proofs.Common.{List, length, get_or, sym, ap, ◌∙◌}
use Rattle.index_layout.specs.IndexPages.{Slot}
use Rattle.index_layout.specs.IndexReading.{slots_of}
use Rattle.index_layout.specs.IndexWrites.{dropped, trimmed}
use Rattle.index_layout.proofs.SlotsRead.{one_list}
use Rattle.index_layout.proofs.Reading.{has_read}
use Rattle.index_layout.proofs.Dropping.{length-dropped}
use Rattle.index_layout.proofs.PageWrites.{slots_trimmed}
use Rattle.index_layout.proofs.writers.drop_tuples.Goals as goal

pub used_slots-used-requires-clause-page : goal.used_slots-used-requires-clause-page
used_slots-used-requires-clause-page c =
    let page = c.args.page.now in
    has_read (get_or page 0 0) (dropped (slots_of page) c.args.list.now) c.free_slots.new.page c.free_slots.ensures.freed

pub used_slots-used-requires-clause-count : goal.used_slots-used-requires-clause-count
used_slots-used-requires-clause-count c =
    let page = c.args.page.now in
    let list = c.args.list.now in
    c.slots-count.ensures ∙ sym (length-dropped (slots_of page) list) ∙ ap length (one_list (get_or page 0 0) (dropped (slots_of page) list) c.free_slots.new.page c.free_slots.ensures.freed)

pub returns : goal.returns
returns c =
    let page = c.args.page.now in
    let slots = dropped (slots_of page) c.args.list.now in
    let kind = get_or page 0 0 in
    let next = c.free_slots.new.page in
    let used = c.used_slots-used.ensures ∙ ap (λ (s : List Slot). length (trimmed s)) (sym (one_list kind slots next c.free_slots.ensures.freed)) in
    record { dropped = slots_trimmed kind slots next c.put_u16.new.bytes c.used_slots-used.result c.free_slots.ensures.freed used c.put_u16.ensures.put }
