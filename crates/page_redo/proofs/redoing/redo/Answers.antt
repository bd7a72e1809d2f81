use Rattle.wal_record.specs.Changes.{logged}
use Rattle.page_redo.proofs.Pages.{changed_page}
use Rattle.page_redo.proofs.redoing.redo.Goals as goal

pub returns-clause-passes : goal.returns-clause-passes
returns-clause-passes c = changed_page c.args.form c.args.page.now c.make.new.page (logged c.args.change.now) (c.takes.ensures.fits c.if-not-takes.false) c.make.ensures
