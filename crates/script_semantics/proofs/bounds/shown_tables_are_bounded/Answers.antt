use Rattle.script_semantics.proofs.Shown.{shown_bounded}
use Rattle.script_semantics.proofs.bounds.shown_tables_are_bounded.Goals as goal

pub returns : goal.returns
returns c = λ layout pages locks table blocks u limits index_pages below has. shown_bounded layout limits pages locks table blocks index_pages u below has
