use Rattle.std.proofs.lemmas.Result.{err_from_is_err_and}
use Rattle.demo_script.proofs.RoundParts.{cut_closing, said_closing}
use Rattle.demo_script.proofs.round.close_round.Goals as goal

pub returns-in_err-heard-clause-cut : goal.returns-in_err-heard-clause-cut
returns-in_err-heard-clause-cut g c =
    let p = err_from_is_err_and c.from_residual.result c.from_residual.ensures.1 in
    rw (p.1, p.2) (cut_closing g.A.Answerer.answers g.A.Answerer.stops c.args.busy c.args.answerer.now c.say.new.answerer _ c.if-not-busy.false c.in_err-heard.ensures.stops)

pub returns-clause-said : goal.returns-clause-said
returns-clause-said g c = said_closing g.A.Answerer.answers c.args.busy c.args.answerer.now c.say.new.answerer c.in_ok-heard.heard c.if-not-busy.false c.in_ok-heard.ensures.heard
