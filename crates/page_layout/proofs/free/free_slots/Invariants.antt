use Rattle.std.proofs.Common.{◌≡◌, ◌≤◌, List, take}
use Rattle.page_layout.specs.PageContents.{Slot, HasSlots}
use Rattle.page_layout.specs.FreeSlots.{free_count}
use Rattle.page_layout.proofs.free.free_slots.Given as goal

abbrev pub invariant-loop-slot : goal.invariant-loop-slot
invariant-loop-slot l = record { few : l.free ≤ l.slot; counted : (slots : List Slot) → HasSlots l.form l.page slots → l.free ≡ free_count (take l.slot slots) }
