use Rattle.std.proofs.Common.{◌∙◌}
use Rattle.command_line.proofs.MatchLemmas.{agreed_ok, agreed_err}
use Rattle.command_line.proofs.matching.matched.Goals as goal

pub returns-in-Ok-clause-ok : goal.returns-in-Ok-clause-ok
returns-in-Ok-clause-ok c = agreed_ok _ _ _ c.in_ok-command.ensures c.requires c.in-Ok.ensures.kinds c.in-Ok.ensures.matches

pub returns : goal.returns
returns c = record {
  ok = tt;
  usage = λ u. agreed_err _ _ c.in-Err.error c.in_ok-command.ensures c.requires c.in-Err.ensures.kinds (λ h. c.in_default.not-OutOfMemory (c.kind.ensures ∙ h));
}
