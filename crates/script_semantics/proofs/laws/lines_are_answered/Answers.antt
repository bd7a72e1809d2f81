use Rattle.script_semantics.proofs.Bare.{answered}
use Rattle.script_semantics.proofs.Empty.{empty_summarized}
use Rattle.script_semantics.proofs.laws.lines_are_answered.Goals as goal

pub returns-clause-insert : goal.returns-clause-insert
returns-clause-insert c = answered

pub returns-clause-summarize : goal.returns-clause-summarize
returns-clause-summarize c = empty_summarized
