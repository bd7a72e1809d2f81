use Rattle.std.proofs.Common.{sym}
use Rattle.query_words.specs.LineParts.{words_left, word_here}
use Rattle.query_words.proofs.OnePass.{started_once}
use Rattle.query_words.proofs.order.read_started.Goals as goal

pub returns-in-Some-read_verb : goal.returns-in-Some-read_verb
returns-in-Some-read_verb c =
    started_once c.args.language.now c.args.schema.now c.args.line_len (words_left c.args.rest) (words_left c.in-Some.rest) (word_here c.in-Some.word) c.in-Some-read_verb.verb
    c.read_statement.result c.in-Some.ensures.word (sym c.in-Some-read_verb.ensures) c.read_statement.ensures
