use Rattle.std.proofs.lemmas.Result.{err_from_is_err_and}
use Rattle.demo_script.proofs.RoundParts.{cut_begun, cut_closed, cut_ended, cut_opened, cut_put, said_round}
use Rattle.demo_script.proofs.round.say_round.Goals as goal

pub returns-in_err-opened-clause-cut : goal.returns-in_err-opened-clause-cut
returns-in_err-opened-clause-cut g c =
    let p = err_from_is_err_and c.from_residual.result c.from_residual.ensures.1 in
    rw (p.1, p.2) (cut_opened c.args.seed c.args.rows c.args.round c.in_err-opened.ensures.cut)

pub returns-in_err-begun-clause-cut : goal.returns-in_err-begun-clause-cut
returns-in_err-begun-clause-cut g c =
    let p = err_from_is_err_and c.from_residual-in_err-begun.result c.from_residual-in_err-begun.ensures.1 in
    rw (p.1, p.2) (cut_begun c.args.seed c.args.rows c.args.round c.in_ok-opened.opened.busy c.in_ok-opened.ensures.said c.in_err-begun.ensures.cut)

pub returns-in_err-put-clause-cut : goal.returns-in_err-put-clause-cut
returns-in_err-put-clause-cut g c =
    let p = err_from_is_err_and c.from_residual-in_err-put.result c.from_residual-in_err-put.ensures.1 in
    rw (p.1, p.2)
    (cut_put c.args.seed c.args.rows c.args.round c.in_ok-opened.opened.busy c.in_ok-opened.ensures.said c.in_ok-begun.ensures.said (rw c.min-count.ensures at c.in_err-put.ensures.cut))

pub returns-in_err-closed-clause-cut : goal.returns-in_err-closed-clause-cut
returns-in_err-closed-clause-cut g c =
    let p = err_from_is_err_and c.from_residual-in_err-closed.result c.from_residual-in_err-closed.ensures.1 in
    rw (p.1, p.2)
    (cut_closed c.args.seed c.args.rows c.args.round c.in_ok-opened.opened.busy c.in_ok-opened.ensures.said c.in_ok-begun.ensures.said c.in_ok-put.put.busy
    (rw c.min-count.ensures at c.in_ok-put.ensures.said) c.in_err-closed.ensures.cut)

pub returns-in_err-committed-clause-cut : goal.returns-in_err-committed-clause-cut
returns-in_err-committed-clause-cut g c =
    let p = err_from_is_err_and c.from_residual-in_err-committed.result c.from_residual-in_err-committed.ensures.1 in
    rw (p.1, p.2)
    (cut_ended c.args.seed c.args.rows c.args.round c.in_ok-opened.opened.busy c.in_ok-opened.ensures.said c.in_ok-begun.ensures.said c.in_ok-put.put.busy
    (rw c.min-count.ensures at c.in_ok-put.ensures.said) c.in_ok-closed.ensures.said c.in_err-committed.ensures.cut)

pub returns-clause-said : goal.returns-clause-said
returns-clause-said g c =
    said_round c.args.seed c.args.rows c.args.round c.in_ok-opened.opened.busy c.in_ok-opened.ensures.said c.in_ok-begun.ensures.said c.in_ok-put.put.busy
    (rw c.min-count.ensures at c.in_ok-put.ensures.said) c.in_ok-closed.ensures.said c.in_ok-committed.ensures.said
