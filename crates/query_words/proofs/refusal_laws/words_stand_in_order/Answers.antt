use Rattle.query_words.proofs.PlacesAscend.{line_up, conds_in_order, statement_in_order}
use Rattle.query_words.proofs.refusal_laws.words_stand_in_order.Goals as goal

pub returns-clause-words : goal.returns-clause-words
returns-clause-words c = line_up

pub returns-clause-conds : goal.returns-clause-conds
returns-clause-conds c = conds_in_order

pub returns-clause-statement : goal.returns-clause-statement
returns-clause-statement c = statement_in_order
