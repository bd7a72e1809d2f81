use Rattle.std.proofs.Common.{◌≡◌, ◌++◌, drop, map}
use Rattle.std.specs.Prelude.{All}
use Rattle.summarise_core.specs.declared.course.Standing.TheVariants as standings
use Rattle.summarise_core.specs.declared.wish.Wish.TheVariants as wishes
use Rattle.summarise_core.specs.Summarises.{IsSummariseOf, SummariseState}
use Rattle.index_steps.specs.ShownTable.{numbers_from}
use Rattle.session_core.proofs.vacuuming.summaries_of.Given as goal

-- the summaries of the table's indexes so far
abbrev pub invariant-indexes : goal.invariant-indexes
invariant-indexes l = record {
  counted : l.number ≡ l.index-index;
  so_far : map (λ (a : SummariseState). a.index) l.summaries.items ++ numbers_from l.table l.number (drop l.index-index l.layout.schema.indexes) ≡ numbers_from l.table 0 l.layout.schema.indexes;
  of : All (λ (a : SummariseState). IsSummariseOf l.layout a × (a.wish ≡ wishes.Complete)) l.summaries.items;
  new : All (λ (a : SummariseState). a.standing ≡ standings.Begins) l.summaries.items;
}
