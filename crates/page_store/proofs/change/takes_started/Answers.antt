use Rattle.wal_record.specs.Changes.{logged}
use Rattle.page_store.proofs.Loggable.{fits_loggable}
use Rattle.page_store.proofs.change.takes_started.Goals as goal

pub returns-in-Err-clause-refuses : goal.returns-in-Err-clause-refuses
returns-in-Err-clause-refuses c = λ _ page turn. c.in-Err.ensures.misfit turn.0

pub returns-in-Ok-clause-takes : goal.returns-in-Ok-clause-takes
returns-in-Ok-clause-takes c = λ _. fits_loggable c.args.form.now c.redo.new.page (logged c.args.change.now) c.requires.form c.in-Ok.ensures.fitted

pub returns-in-Err-redo_checked-clause-refuses : goal.returns-in-Err-redo_checked-clause-refuses
returns-in-Err-redo_checked-clause-refuses c = λ _ page turn. c.in-Err-redo_checked.ensures.misfit (turn.1 c.redo.new.page c.in_default.ensures.done).0
