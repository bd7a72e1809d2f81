use Rattle.opclass_minmax.specs.ExactSummary.{summary_of}
use Rattle.opclass_minmax.proofs.Extremes.{exact_in_order, exact_includes}
use Rattle.opclass_minmax.proofs.exact.summaries_include_their_values.Goals as goal

pub returns : goal.returns
returns c = λ values all. exact_includes values (summary_of values) (exact_in_order values all)
