use Rattle.recovery.proofs.Written.{opens_torn}
use Rattle.recovery.proofs.image_laws.a_page_begun_anew_may_be_torn.Goals as goal

pub returns : goal.returns
returns c = λ place before image pages is torn opened touched.
    opens_torn c.redo_forgets_a_page_begun_anew.ensures c.args.layout.now c.pages_fill_the_disk.ensures place before image pages is torn opened touched
