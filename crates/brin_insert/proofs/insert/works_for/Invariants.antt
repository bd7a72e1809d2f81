use Rattle.std.proofs.Common.{◌≡◌, All, take}
use Rattle.brin_insert.specs.Inserts.{IsOfItsIndex, numbers_in}
use Rattle.index_steps.specs.ShownTable.{numbers_from}
use Rattle.brin_insert.proofs.insert.works_for.Given as goal

abbrev pub invariant-indexes : goal.invariant-indexes
invariant-indexes l = record {
  numbers : numbers_in l.works.items ≡ numbers_from l.table 0 (take l.index l.layout.schema.indexes);
  tuples : All (IsOfItsIndex l.layout) l.works.items;
}
