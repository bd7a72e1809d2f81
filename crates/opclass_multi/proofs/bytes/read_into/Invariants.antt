use Rattle.std.proofs.Common.{◌≡◌, ◌-◌, ◌≤◌, length, take, drop}
use Rattle.opclass_multi.specs.Reading.{behind, elements_in, read_of}
use Rattle.opclass_multi.proofs.bytes.read_into.Given as goal

abbrev pub invariant-elements : goal.invariant-elements
invariant-elements l = record {
  within : l.at ≤ length l.bytes;
  few : l.intervals ≤ l.limit;
  bound : l.place ≤ l.number;
  size : length l.places ≡ length l.fn.places;
  so_far : read_of l.limit l.bytes ≡ behind l.at (take l.place l.places) (elements_in (l.number - l.place) l.intervals l.before (drop l.at l.bytes));
}
