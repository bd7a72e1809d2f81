use Rattle.std.proofs.Common.{sym, subst}
use Rattle.std.specs.Prelude.{OnOk}
use Rattle.page_map.specs.Keeps.{Tells}
use Rattle.index_steps.specs.declared.growth_stage.Stage.{Stage}
use Rattle.index_steps.specs.Called.{Called, hand_at}
use Rattle.index_steps.specs.StepCauses.{DamageAt}
use Rattle.index_steps.proofs.Arms.{on_ok_too}
use Rattle.index_steps.proofs.extend.step_in.Goals as goal

pub returns-in-Judge-clause-called : goal.returns-in-Judge-clause-called
returns-in-Judge-clause-called g c =
    let store = c.args.pages.now in
    subst (λ (s : Stage). Called g.D.Disk.told c.args.actor (Tells g.D.Disk.told store → DamageAt store.layout store.pages c.args.index s) (hand_at c.args.index s c.args.moved.now) c.judge.new.moved store c.judge.new.pages c.args.locks.now c.judge.new.locks c.judge.result) (sym c.in-Judge.is) (c.judge.ensures.called c.args.moved.now)

pub returns-in-Count-clause-called : goal.returns-in-Count-clause-called
returns-in-Count-clause-called g c =
    let store = c.args.pages.now in
    subst (λ (s : Stage). Called g.D.Disk.told c.args.actor (Tells g.D.Disk.told store → DamageAt store.layout store.pages c.args.index s) (hand_at c.args.index s c.args.moved.now) c.args.moved.now store c.count_made.new.pages c.args.locks.now c.count_made.new.locks c.count_made.result) (sym c.in-Count.is) (c.count_made.ensures.called c.args.moved.now)

pub returns-in-Count-clause-undamaged : goal.returns-in-Count-clause-undamaged
returns-in-Count-clause-undamaged g c =
    let store = c.args.pages.now in
    subst (λ (s : Stage). OnOk c.count_made.result (Tells g.D.Disk.told store → DamageAt store.layout store.pages c.args.index s → ⊥)) (sym c.in-Count.is)
    (on_ok_too c.count_made.result (λ left tells damage. damage (left tells)) c.count_made.ensures.undamaged)

pub returns-in-Set-clause-called : goal.returns-in-Set-clause-called
returns-in-Set-clause-called g c =
    let store = c.args.pages.now in
    subst (λ (s : Stage). Called g.D.Disk.told c.args.actor (Tells g.D.Disk.told store → DamageAt store.layout store.pages c.args.index s) (hand_at c.args.index s c.args.moved.now) c.args.moved.now store c.set.new.pages c.args.locks.now c.args.locks.now c.set.result) (sym c.in-Set.is) (c.set.ensures c.args.moved.now)

pub returns-in-Drop-clause-called : goal.returns-in-Drop-clause-called
returns-in-Drop-clause-called g c =
    let store = c.args.pages.now in
    subst (λ (s : Stage). Called g.D.Disk.told c.args.actor (Tells g.D.Disk.told store → DamageAt store.layout store.pages c.args.index s) (hand_at c.args.index s c.args.moved.now) c.args.moved.now store c.drop_old.new.pages c.args.locks.now c.drop_old.new.locks c.drop_old.result) (sym c.in-Drop.is) (c.drop_old.ensures c.args.moved.now)
