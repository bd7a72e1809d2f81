use Rattle.std.proofs.Common.{◌+◌, ◌-◌, arith}
use Rattle.std.proofs.lemmas.Result.{err_from_is_err_and}
use Rattle.demo_script.proofs.Progress.{all_rows, cut_rows, more_rows, no_rows}
use Rattle.demo_script.proofs.round.say_rows.Goals as goal

pub rows-init : goal.rows-init
rows-init g c = record {
  so_far = no_rows g.A.Answerer.answers c.args.seed c.args.first c.args.count c.args.busy c.args.answerer.now (c.args.first + c.args.count - c.args.first) (omega arith);
  few = omega arith;
}

pub rows-preserved : goal.rows-preserved
rows-preserved g c = record {
  so_far = more_rows c.rows.invariant.so_far (c.args.first + c.args.count - (c.rows.row + 1)) (omega arith) c.in_ok-end.end.busy c.in_ok-end.ensures.said;
  few = omega (arith, c.rows.invariant.few, c.in_ok-end.ensures.few);
}

pub returns-in_err-end-clause-cut : goal.returns-in_err-end-clause-cut
returns-in_err-end-clause-cut g c =
    let p = err_from_is_err_and c.from_residual.result c.from_residual.ensures.1 in
    rw (p.1, p.2) (cut_rows c.rows.invariant.so_far (c.args.first + c.args.count - (c.rows.row + 1)) (omega arith) c.in_err-end.ensures.cut)

pub returns-clause-said : goal.returns-clause-said
returns-clause-said g c = all_rows c.rows.invariant.so_far (omega arith)
