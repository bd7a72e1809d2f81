use Rattle.query_words.proofs.LineLawLemmas.{read_grammar}
use Rattle.query_words.proofs.line_laws.read_is_grammar.Goals as goal

pub returns : goal.returns
returns c = read_grammar c.value_of_is_denoted.ensures
