use Rattle.std.proofs.Common.{sym}
use Rattle.query_words.specs.LineParts.{words_left, word_here}
use Rattle.query_words.specs.CondParts.{cond_here}
use Rattle.query_words.proofs.OnePass.{no_joint, no_cond, conds_kept, conds_end}
use Rattle.query_words.proofs.query.read_conds.Goals as goal

pub returns-then-not-announces : goal.returns-then-not-announces
returns-then-not-announces c = λ stop.
    absurd (no_joint c.args.line_len c.conds.count (words_left c.args.rest) (words_left c.conds.rest) (word_here c.in-Some.word) (words_left c.in-Some.behind) c.announces.result
    c.conds.invariant.6 c.in-Some.ensures.word c.announces.ensures.announces c.if-not-announces.true stop)

pub returns-in_default-next_cond : goal.returns-in_default-next_cond
returns-in_default-next_cond c = λ stop.
    absurd (no_cond c.args.line_len c.conds.count (words_left c.args.rest) (words_left c.conds.rest) (word_here c.in-Some.word) (words_left c.in-Some.behind) c.announces.result
    c.conds.invariant.6 c.in-Some.ensures.word c.announces.ensures.announces c.if-not-announces.false c.in_default-next_cond.ensures.cond stop)

pub conds-preserved : goal.conds-preserved
conds-preserved c =
    conds_kept c.value_of_is_denoted.ensures c.args.columns.now c.conds.count (words_left c.args.rest) (words_left c.conds.rest) (word_here c.in-Some.word) (words_left c.in-Some.behind)
    (cond_here c.in-Some-next_cond.words) (words_left c.in-Some-next_cond.behind) c.in-Ok.cond c.conds.conds c.keep-has_memory.new.conds c.conds.has_memory c.keep-has_memory.result c.announces.result
    c.conds.invariant c.in-Some.ensures.word c.announces.ensures.announces c.if-not-announces.false c.announces.ensures.room c.in-Some-next_cond.ensures.cond
    (sym c.in-Ok.ensures.cond) c.in-Ok.ensures.said c.keep-has_memory.ensures.kept c.keep-has_memory.ensures.few

pub returns-then-has_memory : goal.returns-then-has_memory
returns-then-has_memory c =
    conds_end c.args.line_len c.args.columns.now c.conds.count (words_left c.args.rest) (words_left c.conds.rest) c.conds.conds c.conds.has_memory c.conds.invariant c.in_default.ensures.word c.if-has_memory.true
