use Rattle.std.proofs.Common.{refl, sym, ap, subst}
use Rattle.block_model.specs.declared.reply.What.{What}
use Rattle.page_locks.specs.declared.did.Did.{Did}
use Rattle.session_parts.specs.declared.faults.Step.TheVariants as steps
use Rattle.session_maintenance.specs.declared.settle.Came.TheVariants as cames
use Rattle.session_maintenance.specs.Settled.{HoldsAPage, IsTold}
use Rattle.session_maintenance.proofs.Settling.{found_below, found_there}
use Rattle.session_maintenance.proofs.settle.told.Goals as goal

pub index_of-index-requires : goal.index_of-index-requires
index_of-index-requires c = subst (HoldsAPage c.args.layout.now) c.in-Blocked.is c.requires.page

pub page_waited_for-what-requires : goal.page_waited_for-what-requires
page_waited_for-what-requires c = found_below c.args.layout.now c.in-Blocked.held.page.relation c.index_of-index.result c.index_of-index.ensures (subst (HoldsAPage c.args.layout.now) c.in-Blocked.is c.requires.page)

pub lock_waited_for-what-requires : goal.lock_waited_for-what-requires
lock_waited_for-what-requires c = c.requires.table

pub returns-in-Moved : goal.returns-in-Moved
returns-in-Moved c = subst (λ (x : Did). IsTold c.args.layout.now c.args.table x (cames.Goes (steps.Moved c.in-Moved.point))) (sym c.in-Moved.is) refl

pub returns-in-Finished : goal.returns-in-Finished
returns-in-Finished c = subst (λ (x : Did). IsTold c.args.layout.now c.args.table x (cames.Ends c.in-Finished.point)) (sym c.in-Finished.is) refl

pub returns-in-Blocked : goal.returns-in-Blocked
returns-in-Blocked c = subst (λ (x : Did). IsTold c.args.layout.now c.args.table x (cames.Goes (steps.Blocked c.page_waited_for-what.result c.in-Blocked.held.by))) (sym c.in-Blocked.is)
    (λ index table at of there. ap (λ (what : What). cames.Goes (steps.Blocked what c.in-Blocked.held.by))
    (c.page_waited_for-what.ensures.among table at (found_there c.args.layout.now c.in-Blocked.held.page.relation c.index_of-index.result index table at c.index_of-index.ensures of there)))

pub returns-in-NoRight : goal.returns-in-NoRight
returns-in-NoRight c = subst (λ (x : Did). IsTold c.args.layout.now c.args.table x (cames.Goes (steps.Blocked c.lock_waited_for-what.result c.in-NoRight.by))) (sym c.in-NoRight.is)
    (ap (λ (what : What). cames.Goes (steps.Blocked what c.in-NoRight.by)) c.lock_waited_for-what.ensures)
