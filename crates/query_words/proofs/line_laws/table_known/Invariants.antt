use Rattle.std.specs.Prelude.{All, take}
use Rattle.query_words.specs.Grammar.{IsNameWord}
use Rattle.query_words.proofs.line_laws.table_known.Given as goal

abbrev pub invariant-columns : goal.invariant-columns
invariant-columns l = All (λ c. IsNameWord c.name) (take l.column-index l.table.columns)
