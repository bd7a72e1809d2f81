use Rattle.std.proofs.Common.{◌+◌, length, ap, sym, ◌∙◌, rules}
use Rattle.std.proofs.lemmas.List.{length_push}
use Rattle.std.proofs.lemmas.Result.{err_from_is_err_and}
use Rattle.model_laws.proofs.RunSteps.{legal_more, state_more, replies_more}
use Rattle.model_laws.proofs.model.SerialModel.run.Goals as goal

pub returns-in_err-push-clause-err : goal.returns-in_err-push-clause-err
returns-in_err-push-clause-err c =
    let p = err_from_is_err_and c.from_residual-in_err-push.result c.from_residual-in_err-push.ensures.1 in
    rw p.1 (c.entries.entry-index + 1, state_more c.args.self.now c.args.journal.now c.entries.entry-index c.entry-item.result c.entries-test.true c.entry-item.is c.entries.self c.apply.new.self c.entries.invariant.state c.in_ok-answer.ensures.state)

pub entries-preserved : goal.entries-preserved
entries-preserved c =
    let here = c.entries.entry-index in
    record {
      legal = legal_more c.args.self.now c.args.journal.now here c.entry-item.result c.entries-test.true c.entry-item.is c.entries.self c.entries.invariant.legal c.entries.invariant.state (sym c.is_legal.ensures ∙ search rules);
      state = state_more c.args.self.now c.args.journal.now here c.entry-item.result c.entries-test.true c.entry-item.is c.entries.self c.apply.new.self c.entries.invariant.state c.in_ok-answer.ensures.state;
      answered = replies_more c.args.self.now c.args.journal.now here c.entry-item.result c.entries-test.true c.entry-item.is c.entries.self c.entries.answers c.push.new.self c.in_ok-answer.answer c.entries.invariant.state c.entries.invariant.answered c.in_ok-push.ensures.ok c.in_ok-answer.ensures.reply;
      as_many = ap length c.in_ok-push.ensures.ok ∙ length_push c.entries.answers c.in_ok-answer.answer ∙ ap (λ n. n + 1) c.entries.invariant.as_many;
    }
