use Rattle.query_words.specs.LineParts.{words_left}
use Rattle.query_words.proofs.OnePass.{whole_once, start_once, step_once, finish_once}
use Rattle.query_words.proofs.order.read_behind.Goals as goal

pub returns-in-Start : goal.returns-in-Start
returns-in-Start c =
    start_once c.args.language.now c.args.schema.now c.args.line_len (words_left c.args.rest) c.args.verb c.started.result c.in-Start.is (c.started.ensures _ _ c.read_started.ensures)

pub returns-in-Step : goal.returns-in-Step
returns-in-Step c = step_once c.args.language.now c.args.schema.now c.args.line_len (words_left c.args.rest) c.args.verb c.stepped.result c.in-Step.is (c.stepped.ensures c.args.line_len)

pub returns-in-Finish : goal.returns-in-Finish
returns-in-Finish c =
    finish_once c.args.language.now c.args.schema.now c.args.line_len (words_left c.args.rest) c.args.verb c.stepped-in-Finish.result c.in-Finish.is (c.stepped-in-Finish.ensures c.args.line_len)

pub returns-in_default : goal.returns-in_default
returns-in_default c =
    whole_once c.args.language.now c.args.schema.now c.args.line_len (words_left c.args.rest) c.args.verb c.whole.result
    c.in_default.not-Start c.in_default.not-Step c.in_default.not-Finish (c.whole.ensures _ _ c.read_statement.ensures)
