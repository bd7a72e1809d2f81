use Rattle.std.proofs.Common.{◌≡◌, ◌≤◌, List, [], length, take}
use Rattle.page_layout.specs.PageContents.{Slot, HasSlots, IsUnstarted}
use Rattle.heap_rows.specs.StoredRows.{stored_rows}
use Rattle.heap_rows.proofs.reading.read_rows.Given as goal

abbrev pub invariant-loop-slot : goal.invariant-loop-slot
invariant-loop-slot l = record {
  few : length l.out.rows ≤ l.slot;
  room : l.out.room ≡ l.fn.out.room;
  contents : (slots : List Slot) → HasSlots l.form l.page slots → l.out.rows ≡ stored_rows (take l.slot slots);
  unstarted : IsUnstarted l.page → l.out.rows ≡ [];
}
