use Rattle.std.proofs.Common.{sym, ◌∙◌}
use Rattle.opclass_inclusion.proofs.SpanAsking.{misses_none}
use Rattle.opclass_inclusion.proofs.span_summary.SpanSummary.holds.Goals as goal

pub returns-in-Span-clause-misses_no_match : goal.returns-in-Span-clause-misses_no_match
returns-in-Span-clause-misses_no_match c = λ none compares v within.
    rw c.in-Span.is (misses_none c.args.self.now c.args.op c.in-Span.k c.range_key_holds.ensures.known (sym c.range_key_holds.ensures.answer ∙ none) compares v within)
