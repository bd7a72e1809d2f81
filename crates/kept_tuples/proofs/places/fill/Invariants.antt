use Rattle.std.proofs.Common.{◌≡◌, ◌-◌, ◌++◌, length, replicate, vec_capacity, vec_len}
use Rattle.kept_tuples.proofs.places.fill.Given as goal

abbrev pub invariant-places : goal.invariant-places
invariant-places g l = record {
  items : l.list.items ≡ l.fn.list.items ++ replicate (l._at - length l.fn.list.items) g.X.Blank.blank;
  reached : vec_len l.list ≡ l._at;
  room : vec_capacity l.list ≡ vec_capacity l.fn.list;
}
