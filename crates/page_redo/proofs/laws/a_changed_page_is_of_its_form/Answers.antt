use Rattle.page_redo.proofs.Pages.{changed_page}
use Rattle.page_redo.proofs.laws.a_changed_page_is_of_its_form.Goals as goal

pub returns : goal.returns
returns c = λ form old new change fit means. changed_page form old new change fit means
