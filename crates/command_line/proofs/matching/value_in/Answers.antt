use Rattle.std.proofs.Common.{◌∙◌}
use Rattle.clap.specs.Words.{found_of}
use Rattle.command_line.proofs.MatchLemmas.{value_shown}
use Rattle.command_line.proofs.matching.value_in.Goals as goal

pub returns : goal.returns
returns c = λ said s ne. c.get_str.ensures ∙ value_shown (found_of c.args.matches.now) said _ s ne
