use Rattle.page_redo.proofs.Starts.{of_index}
use Rattle.page_redo.proofs.index_fitting.can_drop_tuples.Goals as goal

pub can_drop-requires : goal.can_drop-requires
can_drop-requires c = (of_index c.args.form.now c.args.page.now c.in-Index.is c.requires).1

pub returns-in-Index-clause-is : goal.returns-in-Index-clause-is
returns-in-Index-clause-is c = λ e. (of_index c.args.form.now c.args.page.now c.in-Index.is c.requires, c.can_drop.ensures.can e)
