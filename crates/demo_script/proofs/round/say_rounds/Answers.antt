use Rattle.std.proofs.Common.{◌+◌, ◌-◌, arith}
use Rattle.std.proofs.lemmas.Result.{err_from_is_err_and}
use Rattle.demo_script.specs.Conversation.{rounds_of}
use Rattle.demo_script.proofs.Progress.{all_rounds, cut_rounds, more_rounds, no_rounds}
use Rattle.demo_script.proofs.round.say_rounds.Goals as goal

pub rounds-init : goal.rounds-init
rounds-init g c = record {
  so_far = no_rounds g.A.Answerer.answers c.args.seed c.args.rows (rounds_of c.args.rows) c.args.answerer.now (rounds_of c.args.rows - 0) (omega arith);
  few = omega arith;
}

pub rounds-preserved : goal.rounds-preserved
rounds-preserved g c = record {
  so_far = more_rounds c.rounds.invariant.so_far (rounds_of c.args.rows - (c.rounds.round + 1)) (omega arith) c.in_ok-inserted.ensures.said;
  few = omega (arith, c.rounds.invariant.few, c.in_ok-inserted.ensures.few);
}

pub returns-in_err-inserted-clause-cut : goal.returns-in_err-inserted-clause-cut
returns-in_err-inserted-clause-cut g c =
    let p = err_from_is_err_and c.from_residual.result c.from_residual.ensures.1 in
    rw (p.1, p.2) (cut_rounds c.rounds.invariant.so_far (rounds_of c.args.rows - (c.rounds.round + 1)) (omega arith) c.in_err-inserted.ensures.cut)

pub returns-clause-said : goal.returns-clause-said
returns-clause-said g c = all_rounds c.rounds.invariant.so_far (omega arith)
