use Rattle.std.proofs.Common.{◌≡◌, take}
use Rattle.index_layout.specs.IndexReading.{slots_of}
use Rattle.index_layout.specs.IndexWrites.{trimmed}
use Rattle.index_layout.proofs.writers.used_slots.Given as goal

abbrev pub invariant-loop-slot : goal.invariant-loop-slot
invariant-loop-slot l = trimmed (take l.slot (slots_of l.page)) ≡ trimmed (slots_of l.page)
