use Rattle.std.proofs.Common.{◌≡◌, ◌+◌, ◌-◌, ◌*◌, ◌≤◌, ◌++◌, take, drop}
use Rattle.index_layout.specs.IndexWrites.{laid, lengths_in}
use Rattle.index_layout.proofs.moving.lay_offsets.Given as goal

abbrev pub invariant-loop-slot : goal.invariant-loop-slot
invariant-loop-slot l = record {
  bound : l.begin ≤ 8192;
  lengths : lengths_in (l.count - l.slot) (drop (l.at + l.slot * 4) l.page) ≤ l.begin;
  so_far : take (l.at + l.slot * 4) l.page ++ laid l.begin (l.count - l.slot) (drop (l.at + l.slot * 4) l.page) ≡ take l.at l.initial.page ++ laid l.initial.begin l.count (drop l.at l.initial.page);
}
