use Rattle.std.proofs.lemmas.Result.{err_from_is_err_and}
use Rattle.demo_script.proofs.LastParts.{played, stopped_last, stopped_rounds}
use Rattle.demo_script.proofs.demo.play.Goals as goal

pub returns-in_err-inserted-clause-stopped : goal.returns-in_err-inserted-clause-stopped
returns-in_err-inserted-clause-stopped g c =
    let p = err_from_is_err_and c.from_residual.result c.from_residual.ensures.1 in
    rw (p.1, p.2) (stopped_rounds c.in_err-inserted.ensures.cut)

pub returns-in_err-last-clause-stopped : goal.returns-in_err-last-clause-stopped
returns-in_err-last-clause-stopped g c =
    let p = err_from_is_err_and c.from_residual-in_err-last.result c.from_residual-in_err-last.ensures.1 in
    rw (p.1, p.2) (stopped_last c.in_ok-inserted.ensures.said c.in_err-last.ensures.cut)

pub returns-clause-played : goal.returns-clause-played
returns-clause-played g c = played c.in_ok-inserted.ensures.said c.in_ok-last.ensures.said
