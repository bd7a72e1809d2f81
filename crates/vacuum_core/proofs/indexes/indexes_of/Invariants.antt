use Rattle.std.proofs.Common.{◌≡◌, ◌++◌, drop}
use Rattle.index_steps.specs.ShownTable.{numbers_from}
use Rattle.vacuum_core.proofs.indexes.indexes_of.Given as goal

-- the numbers of the table's indexes so far
abbrev pub invariant-indexes : goal.invariant-indexes
invariant-indexes l = record {
  counted : l.number ≡ l.index-index;
  so_far : l.numbers.items ++ numbers_from l.table l.number (drop l.index-index l.layout.schema.indexes) ≡ numbers_from l.table 0 l.layout.schema.indexes;
}
