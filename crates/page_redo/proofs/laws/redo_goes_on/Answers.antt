use Rattle.page_redo.proofs.Pages.{redone_more}
use Rattle.page_redo.proofs.laws.redo_goes_on.Goals as goal

pub returns : goal.returns
returns c = λ form page mid new first more r s. redone_more form page mid new first more r s
