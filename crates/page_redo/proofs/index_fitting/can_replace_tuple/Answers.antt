use Rattle.page_redo.proofs.Starts.{of_index}
use Rattle.page_redo.proofs.index_fitting.can_replace_tuple.Goals as goal

pub can_replace-requires : goal.can_replace-requires
can_replace-requires c = (of_index c.args.form.now c.args.page.now c.in-Index.is c.requires).1

pub returns-in-Index-clause-is : goal.returns-in-Index-clause-is
returns-in-Index-clause-is c = λ e. (of_index c.args.form.now c.args.page.now c.in-Index.is c.requires, c.can_replace.ensures.can e)
