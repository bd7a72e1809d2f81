use Rattle.opclass_inclusion.proofs.SpanExactness.{exact_of_both}
use Rattle.opclass_inclusion.proofs.span_exact.span_union_is_exact.Goals as goal

pub returns : goal.returns
returns c = exact_of_both
