use Rattle.std.proofs.Common.{Bool, cond, None, sym, ap, ◌∙◌}
use Rattle.query_words.specs.LineParts.{words_left}
use Rattle.query_words.specs.Parsed.{said_of}
use Rattle.query_words.specs.Syntax.{stop_of}
use Rattle.query_words.proofs.FoundLines.{once_judged, stop_judged}
use Rattle.query_words.proofs.line.read_any.Goals as goal

pub returns-in-Some-clause-reads : goal.returns-in-Some-clause-reads
returns-in-Some-clause-reads c =
    stop_judged c.args.schema.now c.args.line_len (stop_of c.args.language.now c.args.line_len (words_left c.args.rest)) (said_of c.args.language.now (words_left c.args.rest)) c.is_err.result c.in-Some.at
    (sym c.in-Some.ensures)

pub returns-in-None-clause-reads : goal.returns-in-None-clause-reads
returns-in-None-clause-reads c =
    once_judged c.args.schema.now c.args.line_len (stop_of c.args.language.now c.args.line_len (words_left c.args.rest)) (said_of c.args.language.now (words_left c.args.rest)) c.read_words-read.result c.read_words-read.ensures
    (ap (λ (asked : Bool). cond asked (stop_of c.args.language.now c.args.line_len (words_left c.args.rest)) None) (sym c.is_err.ensures.value) ∙ sym c.in-None.ensures)
