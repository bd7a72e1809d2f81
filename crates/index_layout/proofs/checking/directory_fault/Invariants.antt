use Rattle.std.proofs.Common.{◌≡◌, ◌+◌, ◌-◌, ◌*◌, ◌≤◌, drop}
use Rattle.index_layout.specs.IndexFaults.{directory_fault, shifted}
use Rattle.index_layout.proofs.checking.directory_fault.Given as goal

abbrev pub invariant-loop-slot : goal.invariant-loop-slot
invariant-loop-slot l = record {
  floor : l.floor ≡ 32 + l.count * 4;
  room : l.floor ≤ l.end;
  within : l.end ≤ 8192;
  so_far : shifted (32 + l.slot * 4) (directory_fault l.floor l.end (l.count - l.slot) (drop (32 + l.slot * 4) l.page)) ≡ shifted 32 (directory_fault l.floor 8192 l.count (drop 32 l.page));
}
