use Rattle.std.proofs.Common.{sym, subst, ◌∙◌}
use Rattle.store_layout.specs.DiskLayout.{DiskLayout}
use Rattle.page_map.specs.Keeps.{Tells, Untold}
use Rattle.page_locks.specs.LockHolders.{holder}
use Rattle.index_contents.specs.IndexContents.{relation_of}
use Rattle.index_steps.specs.declared.next.PageState.TheVariants as states
use Rattle.index_steps.specs.declared.growth_stage.Stage.TheVariants as stages
use Rattle.index_steps.specs.Called.{hand_at}
use Rattle.index_steps.specs.NextPages.{IsNextDamaged}
use Rattle.page_map.specs.declared.faults.StoreError.TheVariants as errors
use Rattle.index_steps.specs.Readings.{NamesPageOf}
use Rattle.index_steps.specs.StepCauses.{HasLeftOver}
use Rattle.index_steps.proofs.Found.{left_over_there, not_left_over, stands_still}
use Rattle.index_steps.specs.LockLaws.{same_apart, takes_none}
use Rattle.index_steps.proofs.Onward.{called_on, called_too, refused_too}
use Rattle.index_steps.proofs.Refusals.{refused}
use Rattle.index_steps.proofs.counting.count_made.Goals as goal

pub returns-in-Err-clause-called : goal.returns-in-Err-clause-called
returns-in-Err-clause-called g c = λ was.
    let store = c.args.pages.now in
    refused g.D.Disk.told store c.next_page.new.pages c.next_page.ensures.kept c.args.actor c.next_page.ensures.survives (Tells g.D.Disk.told store → HasLeftOver store.layout store.pages c.args.index → ⊥) (hand_at c.args.index stages.Count was) was c.args.locks.now c.args.locks.now c.in-Err.error
    (same_apart (relation_of store.layout c.args.index) c.args.actor (holder c.args.locks.now)) (takes_none 0 c.args.locks.now c.args.actor) c.in-Err.ensures.at
    (refused_too g.D.Disk.told (Tells g.D.Disk.told store → IsNextDamaged store.layout store.pages c.args.index) (Tells g.D.Disk.told store → HasLeftOver store.layout store.pages c.args.index → ⊥) store c.next_page.new.pages c.in-Err.error
    (λ damaged tells left. c.a_page_of_a_state_is_not_damaged.ensures store.layout store.pages c.args.index _ states.LeftOver left (damaged tells)) c.in-Err.ensures.outcome)

pub finish-requires-clause-next : goal.finish-requires-clause-next
finish-requires-clause-next g c = λ tells_now.
    let store = c.args.pages.now in
    let tells = sym c.next_page.ensures.kept.leaves.tells ∙ tells_now in
    stands_still g.D.Disk.told c.args.index c.in-Some.block states.LeftOver store c.next_page.new.pages c.next_page.ensures.kept tells
    (left_over_there store.layout store.pages c.args.index c.in-Some.block c.in-Ok.next (c.left_over.ensures.some c.in-Some.block c.in-Some.is) (c.in-Ok.ensures.next tells))

pub returns-in-Some-clause-called : goal.returns-in-Some-clause-called
returns-in-Some-clause-called g c = λ was.
    let store = c.args.pages.now in
    called_too g.D.Disk.told c.args.actor (Untold g.D.Disk.told store) (Tells g.D.Disk.told store → HasLeftOver store.layout store.pages c.args.index → ⊥) (hand_at c.args.index stages.Count was) was store c.finish.new.pages c.args.locks.now c.finish.new.locks c.finish.result (λ untold tells. absurd (untold tells))
    (called_on g.D.Disk.told store c.next_page.new.pages c.finish.new.pages c.next_page.ensures.kept c.in-Ok.ensures.outcome.0 c.in-Ok.ensures.outcome.1 c.in-Ok.ensures.outcome.2 c.args.actor (hand_at c.args.index stages.Count was) was c.args.locks.now c.finish.new.locks c.finish.result c.next_page.ensures.survives
    (c.finish.ensures was))

pub returns-in-None-clause-called : goal.returns-in-None-clause-called
returns-in-None-clause-called g c = λ was.
    let store = c.args.pages.now in
    refused g.D.Disk.told store c.next_page.new.pages c.next_page.ensures.kept c.args.actor c.next_page.ensures.survives (Tells g.D.Disk.told store → HasLeftOver store.layout store.pages c.args.index → ⊥) (hand_at c.args.index stages.Count was) was c.args.locks.now c.args.locks.now (errors.Damaged c.page_at.result)
    (same_apart (relation_of store.layout c.args.index) c.args.actor (holder c.args.locks.now)) (takes_none 0 c.args.locks.now c.args.actor)
    (subst (λ (l : DiskLayout). NamesPageOf l c.args.index (errors.Damaged c.page_at.result)) c.next_page.ensures.kept.leaves.layout c.page_at.ensures)
    (c.in-Ok.ensures.outcome.0, c.in-Ok.ensures.outcome.1, c.in-Ok.ensures.outcome.2, λ tells left. not_left_over store.layout store.pages c.args.index c.in-Ok.next (c.in-Ok.ensures.next tells) (c.left_over.ensures.none c.in-None.is) left)
