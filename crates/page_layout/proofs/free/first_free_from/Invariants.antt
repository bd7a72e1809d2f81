use Rattle.std.proofs.Common.{◌≡◌, ℕ, ◌<◌, ◌≤◌, List, false, get_or}
use Rattle.std.specs.Prelude.{None}
use Rattle.page_layout.specs.PageContents.{Slot, HasSlots}
use Rattle.page_layout.specs.FreeSlots.{is_free}
use Rattle.page_layout.proofs.free.first_free_from.Given as goal

abbrev pub invariant-loop-slot : goal.invariant-loop-slot
invariant-loop-slot l = (slots : List Slot) → HasSlots l.form l.page slots → (k : ℕ) → l.from ≤ k → k < l.slot → is_free (get_or slots k None) ≡ false
