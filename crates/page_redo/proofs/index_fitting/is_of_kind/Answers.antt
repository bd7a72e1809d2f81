use Rattle.std.proofs.Common.{sym, ◌∙◌}
use Rattle.std.proofs.lemmas.Bool.{eqb-true}
use Rattle.page_redo.proofs.Starts.{of_index}
use Rattle.page_redo.proofs.index_fitting.is_of_kind.Goals as goal

pub returns-in-Index-clause-is : goal.returns-in-Index-clause-is
returns-in-Index-clause-is c = λ e. (of_index c.args.form.now c.args.page.now c.in-Index.is c.requires, sym c.kind_of.ensures ∙ eqb-true c.kind_of.result c.args.kind e)
