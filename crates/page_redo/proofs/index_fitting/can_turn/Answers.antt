use Rattle.page_redo.proofs.Starts.{of_index}
use Rattle.page_redo.proofs.index_fitting.can_turn.Goals as goal

pub is_evacuated-requires : goal.is_evacuated-requires
is_evacuated-requires c = (of_index c.args.form.now c.args.page.now c.in-Index.is c.requires).1

pub returns-in-Index-clause-is : goal.returns-in-Index-clause-is
returns-in-Index-clause-is c = λ e. let is = c.is_evacuated.ensures.is e in (of_index c.args.form.now c.args.page.now c.in-Index.is c.requires, is.0, is.1)
