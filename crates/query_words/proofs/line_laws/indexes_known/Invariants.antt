use Rattle.std.specs.Prelude.{All, take}
use Rattle.query_words.specs.Grammar.{IsNameWord}
use Rattle.query_words.proofs.line_laws.indexes_known.Given as goal

abbrev pub invariant-indexes : goal.invariant-indexes
invariant-indexes l = All (λ i. IsNameWord i.name) (take l.index-index l.indexes)
