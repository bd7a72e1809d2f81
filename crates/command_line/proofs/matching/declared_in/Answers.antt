use Rattle.std.proofs.Common.{◌∙◌}
use Rattle.std.proofs.lemmas.Result.{IfOk-weaker}
use Rattle.clap.specs.Words.{found_of}
use Rattle.command_line.proofs.MatchLemmas.{declared_shown, shown_some, shown_none}
use Rattle.command_line.proofs.matching.declared_in.Goals as goal

pub returns-in-None : goal.returns-in-None
returns-in-None c = λ said s. c.new.ensures ∙ shown_none said.declared (c.in-None.ensures ∙ declared_shown (found_of c.args.matches.now) said s)

pub returns-in-Some : goal.returns-in-Some
returns-in-Some c = IfOk-weaker c.copied.result _ _ (λ v h. λ said s. h ∙ shown_some said.declared _ (c.in-Some.ensures ∙ declared_shown (found_of c.args.matches.now) said s)) c.copied.ensures
