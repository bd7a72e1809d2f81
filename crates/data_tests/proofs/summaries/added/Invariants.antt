use Rattle.opclass_multi.specs.Kept.{IsSummary}
use Rattle.data_tests.proofs.summaries.added.Given as goal

abbrev pub invariant-numbers : goal.invariant-numbers
invariant-numbers l = IsSummary l.class l.summary
