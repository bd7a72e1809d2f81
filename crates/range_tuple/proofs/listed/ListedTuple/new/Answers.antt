use Rattle.std.proofs.Common.{◌≡◌, ◌+◌, ℕ, length, ap, arith}
use Rattle.std.proofs.lemmas.List.{length-map}
use Rattle.block_model.specs.IndexedColumns.{columns_of}
use Rattle.block_model.specs.TupleSize.{part_size, tuple_size}
use Rattle.range_tuple.specs.Tuples.{column_room, empty_column, tuple_room}
use Rattle.range_tuple.proofs.ByPlace.{same_sums}
use Rattle.range_tuple.proofs.listed.ListedTuple.new.Goals as goal

room : (c : goal.In_ok-columns) → tuple_room c.in_ok-columns.columns.items.items ≡ tuple_size (columns_of c.args.schema.now c.args.index.now) c.args.index.now.parts
room c = ap (λ (n : ℕ). 4 + 1 + n) (same_sums column_room (part_size (columns_of c.args.schema.now c.args.index.now)) c.in_ok-columns.columns.items.items c.args.index.now.parts c.in_ok-columns.ensures.rooms)

pub invariant_of-result : goal.invariant_of-result
invariant_of-result c = record {
  range_fits = c.ranges.range.fits;
  some = omega (arith, c.requires.columns, ap length c.in_ok-columns.ensures.columns, length-map c.args.index.now.parts (empty_column (columns_of c.args.schema.now c.args.index.now)));
  fits = omega (arith, c.requires.size, room c);
}

pub returns-clause-room : goal.returns-clause-room
returns-clause-room c = room c
