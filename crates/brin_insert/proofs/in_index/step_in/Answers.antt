use Rattle.std.proofs.Common.{refl, sym, subst}
use Rattle.brin_insert.specs.declared.stage.Stage.{Stage}
use Rattle.brin_insert.specs.declared.stage.Stage.TheVariants as stages
use Rattle.index_steps.proofs.Arms.{ok_too}
use Rattle.brin_insert.specs.InsertCalled.{Called}
use Rattle.brin_insert.proofs.Called.{copy_is_no_drop, map_is_no_drop, reads_called}
use Rattle.brin_insert.proofs.in_index.step_in.Goals as goal

pub returns-in-Map-clause-called : goal.returns-in-Map-clause-called
returns-in-Map-clause-called g c =
    let told = g.D.Disk.told in
    let at = c.args.at in
    let old = c.args.pages.now in
    let new = c.map.new.pages in
    let locks = c.args.locks.now in
    let copied = c.args.copied.now in
    let after = c.map.new.copied in
    let tuple = c.args.tuple.now in
    let values = c.args.values.now in
    subst (λ (stage : Stage). Called told at stage copied after tuple tuple values old new locks locks c.map.result) (sym c.in-Map.is)
    (reads_called told at stages.Map copied after tuple tuple values old new locks c.map.result refl map_is_no_drop refl
    (ok_too _ _ c.map.result (λ o steps tells r same. steps tells locks copied tuple tuple r) c.map.ensures.stepped) c.map.ensures.stands c.map.ensures.undamaged c.map.ensures.reads)

pub returns-in-Copy-clause-called : goal.returns-in-Copy-clause-called
returns-in-Copy-clause-called g c =
    let told = g.D.Disk.told in
    let at = c.args.at in
    let old = c.args.pages.now in
    let new = c.copy.new.pages in
    let locks = c.args.locks.now in
    let copied = c.args.copied.now in
    let after = c.copy.new.copied in
    let tuple = c.args.tuple.now in
    let wider = c.copy.new.tuple in
    let values = c.args.values.now in
    subst (λ (stage : Stage). Called told at stage copied after tuple wider values old new locks locks c.copy.result) (sym c.in-Copy.is)
    (reads_called told at (stages.Copy c.in-Copy.spot) copied after tuple wider values old new locks c.copy.result refl (copy_is_no_drop c.in-Copy.spot) refl
    (ok_too _ _ c.copy.result (λ o steps tells r same. steps tells copied r same) c.copy.ensures.stepped) c.copy.ensures.stands c.copy.ensures.undamaged c.copy.ensures.reads)

pub returns-in-Swap-clause-called : goal.returns-in-Swap-clause-called
returns-in-Swap-clause-called g c =
    let tuple = c.args.tuple.now in
    subst (λ (stage : Stage). Called g.D.Disk.told c.args.at stage c.args.copied.now c.args.copied.now tuple tuple c.args.values.now c.args.pages.now c.move_in.new.pages c.args.locks.now c.move_in.new.locks c.move_in.result) (sym c.in-Swap.is)
    (c.move_in.ensures.called c.args.values.now)

pub returns-in-Set-clause-called : goal.returns-in-Set-clause-called
returns-in-Set-clause-called g c =
    let tuple = c.args.tuple.now in
    subst (λ (stage : Stage). Called g.D.Disk.told c.args.at stage c.args.copied.now c.args.copied.now tuple tuple c.args.values.now c.args.pages.now c.move_in-in-Set.new.pages c.args.locks.now c.move_in-in-Set.new.locks c.move_in-in-Set.result) (sym c.in-Set.is)
    (c.move_in-in-Set.ensures.called c.args.values.now)

pub returns-in-Drop-clause-called : goal.returns-in-Drop-clause-called
returns-in-Drop-clause-called g c =
    let tuple = c.args.tuple.now in
    subst (λ (stage : Stage). Called g.D.Disk.told c.args.at stage c.args.copied.now c.args.copied.now tuple tuple c.args.values.now c.args.pages.now c.move_in-in-Drop.new.pages c.args.locks.now c.move_in-in-Drop.new.locks c.move_in-in-Drop.result) (sym c.in-Drop.is)
    (c.move_in-in-Drop.ensures.called c.args.values.now)
