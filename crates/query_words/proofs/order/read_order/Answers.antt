use Rattle.std.proofs.Common.{Ok, Err, sym}
use Rattle.query_words.specs.LineParts.{words_left, word_here}
use Rattle.query_words.specs.declared.line.Line.TheVariants as lines
use Rattle.query_words.proofs.OnePass.{verb_once, once_through_ok, once_through_err}
use Rattle.query_words.proofs.order.read_order.Goals as goal

pub returns-in-Ok : goal.returns-in-Ok
returns-in-Ok c =
    verb_once c.args.language.now c.args.schema.now c.args.line_len (words_left c.args.rest) (words_left c.in-Some.rest) (word_here c.in-Some.word) c.in-Some-read_verb.verb
    (λ o. lines.Say c.args.session o) (Ok (lines.Say c.args.session c.in-Ok.order)) c.in-Some.ensures.word (sym c.in-Some-read_verb.ensures) (once_through_ok c.in-Ok.order _ _ (λ o. lines.Say c.args.session o) c.in-Ok.ensures)

pub returns-in-Err : goal.returns-in-Err
returns-in-Err c =
    verb_once c.args.language.now c.args.schema.now c.args.line_len (words_left c.args.rest) (words_left c.in-Some.rest) (word_here c.in-Some.word) c.in-Some-read_verb.verb
    (λ o. lines.Say c.args.session o) (Err c.in-Err.fault) c.in-Some.ensures.word (sym c.in-Some-read_verb.ensures) (once_through_err c.in-Err.fault _ _ (λ o. lines.Say c.args.session o) c.in-Err.ensures)
