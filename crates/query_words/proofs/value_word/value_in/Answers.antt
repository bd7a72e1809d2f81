use Rattle.query_words.proofs.ValueLemmas.{value-read, value_refused}
use Rattle.query_words.proofs.value_word.value_in.Goals as goal

pub returns-in-Ok : goal.returns-in-Ok
returns-in-Ok c = value-read c.value_of_is_denoted.ensures c.args.kind c.args.word.now c.in-Ok.value c.in-Ok.ensures.value

pub returns-in-Err : goal.returns-in-Err
returns-in-Err c = value_refused c.value_of_is_denoted.ensures c.args.kind c.args.word.now _ c.in-Err.ensures.only
