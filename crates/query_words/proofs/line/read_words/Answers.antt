use Rattle.std.proofs.Common.{ℕ, List, sym, ◌∙◌, subst}
use Rattle.query_words.specs.LineParts.{words_left, word_here}
use Rattle.query_words.specs.declared.line.Line.TheVariants as lines
use Rattle.query_words.specs.declared.syntax.Expected.TheVariants as expected
use Rattle.query_words.specs.Lines.{ReadsOnce}
use Rattle.query_words.specs.Parsed.{order_of_words}
use Rattle.query_words.specs.Statements.{made_of, order_judged}
use Rattle.query_words.specs.Syntax.{stop_from}
use Rattle.query_words.proofs.OnePass.{say_once}
use Rattle.query_words.proofs.line.read_words.Goals as goal

pub returns : goal.returns
returns c =
    say_once c.args.language.now c.args.schema.now c.args.line_len (words_left c.args.rest) (words_left c.in-Some.behind) (word_here c.in-Some.word) c.read_order.result
    c.in-Some.ensures.word (sym c.is_comment.ensures ∙ c.if-is_comment.false) c.in-Some-new.ensures.1
    (subst
    (λ (s : List ℕ).
    ReadsOnce c.read_order.result (stop_from c.args.language.now c.args.line_len expected.Verb (words_left c.in-Some.behind))
    (made_of (λ o. lines.Say s o) (order_judged c.args.schema.now c.args.line_len (order_of_words c.args.language.now (words_left c.in-Some.behind)))))
    c.in-Some-new.ensures.0 c.read_order.ensures)
