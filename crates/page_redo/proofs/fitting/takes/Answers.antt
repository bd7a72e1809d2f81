use Rattle.std.proofs.lemmas.Bool.{false≢true}
use Rattle.page_redo.proofs.FitPages.{fits_page}
use Rattle.page_redo.proofs.fitting.takes.Goals as goal

pub returns-in-Err-clause-fits : goal.returns-in-Err-clause-fits
returns-in-Err-clause-fits c = λ e. absurd (false≢true e)

pub returns-in-Err-clause-misfits : goal.returns-in-Err-clause-misfits
returns-in-Err-clause-misfits c = λ e fit. c.in-Err.ensures.refused (fits_page c.args.form.now c.args.page.now c.args.change.now c.in_default.not-FullPage c.in_default.not-PageStart fit)
