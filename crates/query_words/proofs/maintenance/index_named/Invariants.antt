use Rattle.std.proofs.Common.{◌≡◌, drop}
use Rattle.query_words.specs.Statements.{index_from}
use Rattle.query_words.proofs.maintenance.index_named.Given as goal

abbrev pub invariant-indexes : goal.invariant-indexes
invariant-indexes l = index_from l.i (drop l.i l.indexes) l.name ≡ index_from 0 l.indexes l.name
