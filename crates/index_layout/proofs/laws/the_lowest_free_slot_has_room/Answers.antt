use Rattle.index_layout.proofs.SlotLaws.{lowest_free, lower_used, lowest_within, page_takes, taken_by_page}
use Rattle.index_layout.proofs.laws.the_lowest_free_slot_has_room.Goals as goal

pub returns : goal.returns
returns c = record { free = lowest_free; lowest = lower_used; within = lowest_within; room = page_takes; least = taken_by_page }
