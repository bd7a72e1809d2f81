use Rattle.page_redo.proofs.Pages.{redone_same}
use Rattle.page_redo.proofs.laws.redo_is_a_function.Goals as goal

pub returns : goal.returns
returns c = λ form page a b changes ra rb. redone_same form page a b changes ra rb
