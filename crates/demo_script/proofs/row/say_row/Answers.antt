use Rattle.std.proofs.lemmas.Result.{err_from_is_err_and}
use Rattle.demo_script.proofs.RowParts.{cut_put, cut_stepped, said_row}
use Rattle.demo_script.proofs.row.say_row.Goals as goal

pub returns-in_err-put-clause-cut : goal.returns-in_err-put-clause-cut
returns-in_err-put-clause-cut g c =
    let p = err_from_is_err_and c.from_residual.result c.from_residual.ensures.1 in
    rw (p.1, p.2) (cut_put c.in_err-put.ensures.cut)

pub returns-in_err-stepped-clause-cut : goal.returns-in_err-stepped-clause-cut
returns-in_err-stepped-clause-cut g c =
    let p = err_from_is_err_and c.from_residual-in_err-stepped.result c.from_residual-in_err-stepped.ensures.1 in
    rw (p.1, p.2) (cut_stepped c.in_ok-put.put.busy c.in_ok-put.ensures.said c.in_err-stepped.ensures.cut)

pub returns-clause-said : goal.returns-clause-said
returns-clause-said g c = said_row c.in_ok-put.put.busy c.in_ok-stepped.stepped.busy c.in_ok-put.ensures.said c.in_ok-stepped.ensures.said
