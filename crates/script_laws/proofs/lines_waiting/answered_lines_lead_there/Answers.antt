use Rattle.query_words.proofs.FitLemmas.{KnowsValues}
use Rattle.script_laws.proofs.LinesReach.{front_reaches, line_reaches, lines_reach}
use Rattle.script_laws.proofs.lines_waiting.answered_lines_lead_there.Goals as goal

pub returns-clause-lines : goal.returns-clause-lines
returns-clause-lines c = let knows : KnowsValues = record { denoted = c.value_of_is_denoted.ensures; of_kind = c.denoted_is_of_kind.ensures } in lines_reach knows

pub returns-clause-behind : goal.returns-clause-behind
returns-clause-behind c = let knows : KnowsValues = record { denoted = c.value_of_is_denoted.ensures; of_kind = c.denoted_is_of_kind.ensures } in line_reaches knows

pub returns-clause-within : goal.returns-clause-within
returns-clause-within c = let knows : KnowsValues = record { denoted = c.value_of_is_denoted.ensures; of_kind = c.denoted_is_of_kind.ensures } in front_reaches knows
