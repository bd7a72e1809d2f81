use Rattle.std.proofs.Common.{◌≡◌, map, take}
use Rattle.block_model.specs.IndexedColumns.{columns_of}
use Rattle.block_model.specs.TupleSize.{part_size}
use Rattle.range_tuple.specs.Tuples.{empty_column, column_room}
use Rattle.range_tuple.proofs.columns.new_columns.Given as goal

abbrev pub invariant-parts : goal.invariant-parts
invariant-parts l = record {
  columns : l.columns.items ≡ map (empty_column (columns_of l.schema l.index)) (take l.part-index l.index.parts);
  rooms : map column_room l.columns.items ≡ map (part_size (columns_of l.schema l.index)) (take l.part-index l.index.parts);
}
