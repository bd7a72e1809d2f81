use Rattle.std.proofs.Common.{◌≡◌, Err, sym, ap, ◌∙◌, subst, arith}
use Rattle.command_line.specs.Words.{index_text, declares_table}
use Rattle.command_line.proofs.Judging.{NoTable, no_table_first, no_table_more, judged_table, judged_undeclared}
use Rattle.command_line.proofs.judge.judge_index.Goals as goal

pub words-init : goal.words-init
words-init c = no_table_first c.args.autos c.args.words.now c.args.index.now.table.now

pub words-preserved : goal.words-preserved
words-preserved c =
    no_table_more c.args.autos c.args.words.now c.words.earlier c.args.index.now.table.now (omega arith) c.words.invariant
    (λ d i e. let k : c.is_table.result ≡ declares_table c.args.index.now.table.now d = c.is_table.ensures d i (c.word-text.ensures ∙ e) in cc)

pub returns-then-is_table : goal.returns-then-is_table
returns-then-is_table c before h =
    judged_table c.args.autos c.args.words.now c.args.word c.words.earlier (index_text c.args.index.now) (omega arith) c.requires.within c.words.invariant
    (λ d i e. let k : c.is_table.result ≡ declares_table c.args.index.now.table.now d = c.is_table.ensures d i (c.word-text.ensures ∙ e) in cc)
    before h c.judge_parts.result (λ t i e. c.judge_parts.ensures t i (c.word-text.ensures ∙ e))

pub returns : goal.returns
returns c before h =
    let all : c.words.earlier ≡ c.args.word = omega arith in
    judged_undeclared c.args.autos c.args.words.now c.args.word (index_text c.args.index.now) (subst (λ n. NoTable c.args.autos c.args.words.now n c.args.index.now.table.now) all c.words.invariant) before h
    ∙ ap Err (sym c.table_place.ensures.place)
