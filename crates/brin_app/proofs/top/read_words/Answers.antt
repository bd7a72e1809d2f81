use Rattle.std.proofs.Common.{inl}
use Rattle.std.proofs.lemmas.Result.{err_from_is_err_and}
use Rattle.brin_app.proofs.Asked.{no_command, ok_asked, ok_only, ok_right, numbers_within, usage_is, usage_of_command, wrong_nothing, wrong_usage}
use Rattle.brin_app.proofs.top.read_words.Goals as goal

pub returns-in_err-command-clause-usage : goal.returns-in_err-command-clause-usage
returns-in_err-command-clause-usage c = λ e.
    let p = err_from_is_err_and c.from_residual.result c.from_residual.ensures.1 in
    inl (c.in_err-command.ensures.usage (usage_of_command c.in_err-command.field-0.0 (usage_is c.from_residual.result p.0 _ p.1 p.2 e)))

pub returns-in_err-command-clause-nothing : goal.returns-in_err-command-clause-nothing
returns-in_err-command-clause-nothing c = λ e.
    let p = err_from_is_err_and c.from_residual.result c.from_residual.ensures.1 in
    no_command c.args.words.now (c.in_err-command.ensures.usage (usage_of_command c.in_err-command.field-0.0 (usage_is c.from_residual.result p.0 _ p.1 p.2 e)))

pub returns-clause-asked : goal.returns-clause-asked
returns-clause-asked c = ok_asked c.args.words.now c.in_ok-command.command c.in_ok-command.ensures.ok c.task_of.result c.task_of.ensures.asked

pub returns-clause-alone : goal.returns-clause-alone
returns-clause-alone c = ok_only c.args.words.now c.in_ok-command.command c.in_ok-command.ensures.ok c.task_of.result c.task_of.ensures.alone

pub returns-clause-right : goal.returns-clause-right
returns-clause-right c = ok_right c.args.words.now c.in_ok-command.command c.in_ok-command.ensures.ok c.task_of.result c.task_of.ensures.asked

pub returns-clause-usage : goal.returns-clause-usage
returns-clause-usage c = λ e. wrong_usage c.args.words.now c.in_ok-command.command c.in_ok-command.ensures.ok (c.task_of.ensures.usage e)

pub returns-clause-nothing : goal.returns-clause-nothing
returns-clause-nothing c = λ e. wrong_nothing c.args.words.now c.in_ok-command.command c.in_ok-command.ensures.ok (c.task_of.ensures.usage e)

pub task_of-requires : goal.task_of-requires
task_of-requires c = numbers_within c.demos_have_limits.ensures.within c.args.words.now c.in_ok-command.command c.in_ok-command.ensures.ok.is
