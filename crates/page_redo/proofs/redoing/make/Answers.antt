use Rattle.std.proofs.Common.{subst, sym}
use Rattle.wal_record.specs.declared.change.Change.{Change}
use Rattle.wal_record.specs.Changes.{logged}
use Rattle.page_redo.specs.Redo.{Fits, Means}
use Rattle.page_redo.proofs.redoing.make.Goals as goal

pub returns-in-StatusSet : goal.returns-in-StatusSet
returns-in-StatusSet c = subst (λ (change : Change). Means c.args.form.now c.args.page.now (logged change) c.set_status.new.page) (sym c.in-StatusSet.is) c.set_status.ensures.set

pub put_tuple-requires-clause-page : goal.put_tuple-requires-clause-page
put_tuple-requires-clause-page c = (subst (λ (change : Change). Fits c.args.form.now c.args.page.now (logged change)) c.in-TuplePut.is c.requires.fits).0.1

pub replace_tuple-requires-clause-page : goal.replace_tuple-requires-clause-page
replace_tuple-requires-clause-page c = (subst (λ (change : Change). Fits c.args.form.now c.args.page.now (logged change)) c.in-TupleReplace.is c.requires.fits).0.1

pub drop_tuples-requires-clause-page : goal.drop_tuples-requires-clause-page
drop_tuples-requires-clause-page c = (subst (λ (change : Change). Fits c.args.form.now c.args.page.now (logged change)) c.in-TupleDrop.is c.requires.fits).0.1

pub evacuate-requires-clause-page : goal.evacuate-requires-clause-page
evacuate-requires-clause-page c = (subst (λ (change : Change). Fits c.args.form.now c.args.page.now (logged change)) c.in-Evacuate.is c.requires.fits).0.1

pub turn_to_map-requires-clause-page : goal.turn_to_map-requires-clause-page
turn_to_map-requires-clause-page c = (subst (λ (change : Change). Fits c.args.form.now c.args.page.now (logged change)) c.in-MapPage.is c.requires.fits).0.1

pub set_entry-requires-clause-page : goal.set_entry-requires-clause-page
set_entry-requires-clause-page c = (subst (λ (change : Change). Fits c.args.form.now c.args.page.now (logged change)) c.in-MapSet.is c.requires.fits).0.1

pub set_map_pages-requires-clause-page : goal.set_map_pages-requires-clause-page
set_map_pages-requires-clause-page c = (subst (λ (change : Change). Fits c.args.form.now c.args.page.now (logged change)) c.in-MetaSet.is c.requires.fits).0.1
