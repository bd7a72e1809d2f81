use Rattle.std.proofs.Common.{ℕ, List, Some, Ok, sym, ap, ◌∙◌, subst}
use Rattle.store_layout.specs.declared.statement.Statement.TheVariants as statements
use Rattle.query_words.specs.declared.line.Line.TheVariants as lines
use Rattle.query_words.specs.declared.line.Order.TheVariants as orders
use Rattle.query_words.specs.declared.syntax.Expected.TheVariants as expected
use Rattle.query_words.specs.declared.verb.Verb.TheVariants as verbs
use Rattle.query_words.specs.LineParts.{words_left, word_here}
use Rattle.query_words.specs.Lines.{ReadsOnce}
use Rattle.query_words.specs.Parsed.{order_of_words}
use Rattle.query_words.specs.Statements.{made_of, order_judged}
use Rattle.query_words.specs.Syntax.{stop_from}
use Rattle.query_words.proofs.OnePass.{insert_once, once_through_ok, say_once, verb_once}
use Rattle.query_words.proofs.order.read_insert.Goals as goal

pub returns-in-Ok : goal.returns-in-Ok
returns-in-Ok c =
    let said = lines.Say c.in_ok-session.session (orders.Whole (statements.Insert c.in-Ok.table c.read_row.new.values)) in
    let behind = verb_once c.args.language.now c.args.schema.now c.args.line_len (words_left c.in_ok-word.behind) (words_left c.in_ok-verb.row) (word_here c.in_ok-verb.verb) verbs.Insert
    (λ o. lines.Say c.in_ok-session.session o) (Ok said) c.in_ok-verb.ensures.word (sym c.in-Some-Insert.ensures ∙ ap Some c.in-Some-Insert.field-0-is)
    (insert_once c.args.language.now c.args.schema.now c.args.line_len (words_left c.in_ok-verb.row) (λ o. lines.Say c.in_ok-session.session o) (Ok said)
    (once_through_ok (statements.Insert c.in-Ok.table c.read_row.new.values) _ _ (λ s. lines.Say c.in_ok-session.session (orders.Whole s)) c.in-Ok.ensures)) in
    say_once c.args.language.now c.args.schema.now c.args.line_len (words_left c.args.rest) (words_left c.in_ok-word.behind) (word_here c.in_ok-word.word) (Ok said)
    c.in_ok-word.ensures.word (sym c.is_comment.ensures ∙ c.if-is_comment.false) c.in_ok-session.ensures.1
    (subst
    (λ (name : List ℕ).
    ReadsOnce (Ok said) (stop_from c.args.language.now c.args.line_len expected.Verb (words_left c.in_ok-word.behind))
    (made_of (λ o. lines.Say name o) (order_judged c.args.schema.now c.args.line_len (order_of_words c.args.language.now (words_left c.in_ok-word.behind)))))
    c.in_ok-session.ensures.0 behind)
