use Rattle.query_words.proofs.LineLawLemmas.{grammar_read}
use Rattle.query_words.proofs.line_laws.grammar_is_read.Goals as goal

pub returns : goal.returns
returns c = grammar_read c.value_of_is_denoted.ensures
