use Rattle.std.proofs.Common.{◌∙◌, sym}
use Rattle.clap.specs.Words.{found_of}
use Rattle.command_line.proofs.MatchLemmas.{declared_shown, shown_nothing}
use Rattle.command_line.proofs.matching.declares_nothing.Goals as goal

pub returns : goal.returns
returns c = λ said s. shown_nothing _ _ _ said.declared (sym c.is_none.ensures) (c.get_raw.ensures ∙ declared_shown (found_of c.args.matches.now) said s)
