use Rattle.std.proofs.Common.{◌≡◌, ◌+◌, drop}
use Rattle.index_layout.specs.IndexReading.{free_slot_of, slots_of}
use Rattle.index_layout.proofs.readers.free_slot.Given as goal

abbrev pub invariant-loop-slot : goal.invariant-loop-slot
invariant-loop-slot l = l.slot + free_slot_of (drop l.slot (slots_of l.page)) ≡ free_slot_of (slots_of l.page)
