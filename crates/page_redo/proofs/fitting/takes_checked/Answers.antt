use Rattle.std.proofs.Common.{sym, subst}
use Rattle.wal_record.specs.declared.change.Change.{Change}
use Rattle.wal_record.specs.Changes.{logged}
use Rattle.page_redo.specs.Redo.{Fits}
use Rattle.page_redo.proofs.fitting.takes_checked.Goals as goal

pub returns-in-TuplePut-clause-fits : goal.returns-in-TuplePut-clause-fits
returns-in-TuplePut-clause-fits c = λ e. subst (λ (change : Change). Fits c.args.form.now c.args.page.now (logged change)) (sym c.in-TuplePut.is) (c.can_put_tuple.ensures.is e)

pub returns-in-TuplePut-clause-misfits : goal.returns-in-TuplePut-clause-misfits
returns-in-TuplePut-clause-misfits c = λ e fits. c.can_put_tuple.ensures.isnt e (subst (λ (change : Change). Fits c.args.form.now c.args.page.now (logged change)) c.in-TuplePut.is fits)

pub returns-in-TupleReplace-clause-fits : goal.returns-in-TupleReplace-clause-fits
returns-in-TupleReplace-clause-fits c = λ e. subst (λ (change : Change). Fits c.args.form.now c.args.page.now (logged change)) (sym c.in-TupleReplace.is) (c.can_replace_tuple.ensures.is e)

pub returns-in-TupleReplace-clause-misfits : goal.returns-in-TupleReplace-clause-misfits
returns-in-TupleReplace-clause-misfits c = λ e fits. c.can_replace_tuple.ensures.isnt e (subst (λ (change : Change). Fits c.args.form.now c.args.page.now (logged change)) c.in-TupleReplace.is fits)

pub returns-in-TupleDrop-clause-fits : goal.returns-in-TupleDrop-clause-fits
returns-in-TupleDrop-clause-fits c = λ e. subst (λ (change : Change). Fits c.args.form.now c.args.page.now (logged change)) (sym c.in-TupleDrop.is) (c.can_drop_tuples.ensures.is e)

pub returns-in-TupleDrop-clause-misfits : goal.returns-in-TupleDrop-clause-misfits
returns-in-TupleDrop-clause-misfits c = λ e fits. c.can_drop_tuples.ensures.isnt e (subst (λ (change : Change). Fits c.args.form.now c.args.page.now (logged change)) c.in-TupleDrop.is fits)

pub returns-in-Evacuate-clause-fits : goal.returns-in-Evacuate-clause-fits
returns-in-Evacuate-clause-fits c = λ e. subst (λ (change : Change). Fits c.args.form.now c.args.page.now (logged change)) (sym c.in-Evacuate.is) (c.is_of_kind.ensures.is e)

pub returns-in-Evacuate-clause-misfits : goal.returns-in-Evacuate-clause-misfits
returns-in-Evacuate-clause-misfits c = λ e fits. c.is_of_kind.ensures.isnt e (subst (λ (change : Change). Fits c.args.form.now c.args.page.now (logged change)) c.in-Evacuate.is fits)

pub returns-in-MapPage-clause-fits : goal.returns-in-MapPage-clause-fits
returns-in-MapPage-clause-fits c = λ e. subst (λ (change : Change). Fits c.args.form.now c.args.page.now (logged change)) (sym c.in-MapPage.is) (c.can_turn.ensures.is e)

pub returns-in-MapPage-clause-misfits : goal.returns-in-MapPage-clause-misfits
returns-in-MapPage-clause-misfits c = λ e fits. c.can_turn.ensures.isnt e (subst (λ (change : Change). Fits c.args.form.now c.args.page.now (logged change)) c.in-MapPage.is fits)

pub returns-in-MapSet-clause-fits : goal.returns-in-MapSet-clause-fits
returns-in-MapSet-clause-fits c = λ e. subst (λ (change : Change). Fits c.args.form.now c.args.page.now (logged change)) (sym c.in-MapSet.is) (c.can_set_entry.ensures.is e)

pub returns-in-MapSet-clause-misfits : goal.returns-in-MapSet-clause-misfits
returns-in-MapSet-clause-misfits c = λ e fits. c.can_set_entry.ensures.isnt e (subst (λ (change : Change). Fits c.args.form.now c.args.page.now (logged change)) c.in-MapSet.is fits)

pub returns-in-MetaSet-clause-fits : goal.returns-in-MetaSet-clause-fits
returns-in-MetaSet-clause-fits c = λ e. subst (λ (change : Change). Fits c.args.form.now c.args.page.now (logged change)) (sym c.in-MetaSet.is) (c.is_of_kind-in-MetaSet.ensures.is e)

pub returns-in-MetaSet-clause-misfits : goal.returns-in-MetaSet-clause-misfits
returns-in-MetaSet-clause-misfits c = λ e fits. c.is_of_kind-in-MetaSet.ensures.isnt e (subst (λ (change : Change). Fits c.args.form.now c.args.page.now (logged change)) c.in-MetaSet.is fits)
