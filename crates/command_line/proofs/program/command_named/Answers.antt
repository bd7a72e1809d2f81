use Rattle.std.proofs.Common.{rules, ◌∙◌, ap₂}
use Rattle.clap.specs.Simple.{with_rule}
use Rattle.command_line.proofs.BuildLemmas.{app_more}
use Rattle.command_line.proofs.program.command_named.Goals as goal

pub options-preserved : goal.options-preserved
options-preserved c = record {
  app = c.in_ok-command.ensures.shape c.option_named.ensures.local ∙ ap₂ with_rule c.options.invariant.app c.option_named.ensures.rule ∙ app_more _ _ _ _ c.options-test.true;
  local = search rules;
}
