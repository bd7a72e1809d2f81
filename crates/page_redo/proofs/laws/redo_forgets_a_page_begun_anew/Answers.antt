use Rattle.page_redo.proofs.Pages.{redone_anew}
use Rattle.page_redo.proofs.laws.redo_forgets_a_page_begun_anew.Goals as goal

pub returns : goal.returns
returns c = λ form change changes is page other new r. redone_anew form page other new change changes is r
