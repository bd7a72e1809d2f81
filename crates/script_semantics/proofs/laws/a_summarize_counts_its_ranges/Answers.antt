use Rattle.script_semantics.proofs.Counted.{finals_are_counted}
use Rattle.script_semantics.proofs.laws.a_summarize_counts_its_ranges.Goals as goal

pub returns : goal.returns
returns c = finals_are_counted c.accounts_are_exact.ensures.replies
