use Rattle.std.proofs.lemmas.Result.{err_from_is_err_and}
use Rattle.demo_script.proofs.RoundParts.{cut_opening, said_opening}
use Rattle.demo_script.proofs.round.open_round.Goals as goal

pub returns-in_err-heard-clause-cut : goal.returns-in_err-heard-clause-cut
returns-in_err-heard-clause-cut g c =
    let p = err_from_is_err_and c.from_residual.result c.from_residual.ensures.1 in
    rw (p.1, p.2) (cut_opening g.A.Answerer.answers g.A.Answerer.stops c.args.answerer.now c.say.new.answerer _ c.args.round (c.if-round-eq0.false) c.in_err-heard.ensures.stops)

pub returns-clause-said : goal.returns-clause-said
returns-clause-said g c = said_opening g.A.Answerer.answers c.args.answerer.now c.say.new.answerer c.args.round c.in_ok-heard.heard c.if-round-eq0.false c.in_ok-heard.ensures.heard
