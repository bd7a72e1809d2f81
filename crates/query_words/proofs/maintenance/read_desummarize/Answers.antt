use Rattle.std.proofs.Common.{sym}
use Rattle.query_words.specs.LineParts.{words_left, word_here}
use Rattle.query_words.proofs.OnePass.{desummarize_ok}
use Rattle.query_words.proofs.maintenance.read_desummarize.Goals as goal

pub returns : goal.returns
returns c =
    desummarize_ok c.args.schema.now c.args.line_len (words_left c.args.rest) (words_left c.in-Some.rest) (words_left c.in-Some-next_word.rest) (word_here c.in-Some.word) (word_here c.in-Some-next_word.word)
    c.in_ok-index.index c.in_ok-block.block c.in-Some.ensures.word c.in-Some-next_word.ensures.word (sym c.in_ok-index.ensures.index) c.in_ok-index.ensures.named (c.in_ok-block.ensures c.args.line_len)
