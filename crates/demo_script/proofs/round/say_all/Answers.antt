use Rattle.std.proofs.Common.{◌+◌, arith, drop}
use Rattle.std.proofs.lemmas.Result.{err_from_is_err_and}
use Rattle.demo_script.proofs.LineParts.{all_lines, cut_lines, more_lines, next_text, no_text, texts_of}
use Rattle.demo_script.proofs.round.say_all.Goals as goal

pub returns-in_err-heard-clause-cut : goal.returns-in_err-heard-clause-cut
returns-in_err-heard-clause-cut g c =
    let p = err_from_is_err_and c.from_residual.result c.from_residual.ensures.1 in
    let lines = c.args.lines.now in
    let at = c.lines.line-index in
    rw (p.1, p.2)
    (cut_lines g.A.Answerer.stops c.lines.invariant.so_far c.say.new.answerer c.in_err-heard.field-0.0 _ (texts_of (drop (at + 1) lines)) (next_text lines at _ (omega arith)) c.in_err-heard.ensures.stops)

pub lines-preserved : goal.lines-preserved
lines-preserved g c =
    let lines = c.args.lines.now in
    let at = c.lines.line-index in
    record {
      so_far = more_lines c.lines.invariant.so_far _ (texts_of (drop (at + 1) lines)) (next_text lines at _ (omega arith)) c.in_ok-heard.heard c.in_ok-heard.ensures.heard;
      few = omega (arith, c.lines.invariant.few, c.in_ok-heard.ensures.few);
    }

pub returns-clause-said : goal.returns-clause-said
returns-clause-said g c = all_lines c.lines.invariant.so_far (no_text c.args.lines.now c.lines.line-index (omega arith))
