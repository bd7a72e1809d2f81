use Rattle.std.proofs.Common.{refl, sym, subst, ◌∙◌}
use Rattle.index_steps.specs.IndexTuples.{shape_of}
use Rattle.index_steps.proofs.Arms.{ok_too, on_ok_of}
use Rattle.summarise_core.specs.declared.range_stage.Stage.{Stage}
use Rattle.summarise_core.specs.declared.range_stage.Stage.TheVariants as stages
use Rattle.summarise_core.specs.declared.work.Work.{Work}
use Rattle.summarise_core.specs.ShownHeap.{heap_of}
use Rattle.summarise_core.specs.SummariseCalled.{Called}
use Rattle.summarise_core.specs.SummariseHands.{GrowsToPlace}
use Rattle.summarise_core.specs.Works.{hand_of}
use Rattle.summarise_core.proofs.Called.{read_called}
use Rattle.summarise_core.proofs.work.step_in.Goals as goal

pub returns-in-Map-clause-called : goal.returns-in-Map-clause-called
returns-in-Map-clause-called g c =
    let old = c.args.pages.now in
    let at = c.args.at in
    let locks = c.args.locks.now in
    let was = c.args.work.now in
    let is : Work = record was { copied = c.look.new.copied } in
    let of = c.requires.of in
    let rests = subst (λ (stage : Stage). GrowsToPlace was.growth.stage stage) c.in-Map.is c.requires.grows in
    subst (λ (stage : Stage). Called g.D.Disk.told at stage was is old c.look.new.pages locks locks c.look.result) (sym c.in-Map.is)
    (read_called g.D.Disk.told at stages.Map was is old c.look.new.pages locks c.look.result refl (λ given. given) rests refl (record { running = of.running; united = of.united; room = of.room; extent = of.extent; growth = of.growth })
    (ok_too _ _ c.look.result (λ o steps tells blocks has. steps tells locks (heap_of old.layout at.index blocks) (hand_of stages.Map was) rests) c.look.ensures.stepped)
    (ok_too _ _ c.look.result (λ o exact tells blocks has. exact (shape_of old.layout at.index) (heap_of old.layout at.index blocks) (hand_of stages.Map was)) c.look.ensures.exact)
    c.look.ensures.stands c.look.ensures.undamaged c.look.ensures.reads)

pub returns-in-Tuple-clause-called : goal.returns-in-Tuple-clause-called
returns-in-Tuple-clause-called g c =
    let old = c.args.pages.now in
    let at = c.args.at in
    let locks = c.args.locks.now in
    let was = c.args.work.now in
    let is : Work = record was { copied = c.take_up.new.copied; united = c.take_up.new.united } in
    let of = c.requires.of in
    let here = stages.Tuple c.in-Tuple.x in
    subst (λ (stage : Stage). Called g.D.Disk.told at stage was is old c.take_up.new.pages locks locks c.take_up.result) (sym c.in-Tuple.is)
    (read_called g.D.Disk.told at here was is old c.take_up.new.pages locks c.take_up.result refl (λ given. given) (subst (λ (stage : Stage). GrowsToPlace was.growth.stage stage) c.in-Tuple.is c.requires.grows) refl
    (record { running = of.running; united = c.take_up.ensures.same_index ∙ of.united; room = of.room; extent = of.extent; growth = of.growth })
    (ok_too _ _ c.take_up.result (λ o steps tells blocks has. steps tells locks (heap_of old.layout at.index blocks) (hand_of here was)) c.take_up.ensures.stepped)
    (ok_too _ _ c.take_up.result (λ o exact tells blocks has. exact (shape_of old.layout at.index) (heap_of old.layout at.index blocks) (hand_of here was)) c.take_up.ensures.exact)
    c.take_up.ensures.stands c.take_up.ensures.undamaged c.take_up.ensures.reads)

pub returns-in-Extent-clause-called : goal.returns-in-Extent-clause-called
returns-in-Extent-clause-called g c =
    let old = c.args.pages.now in
    let locks = c.args.locks.now in
    let was = c.args.work.now in
    let made = c.begin_pass.ensures in
    subst (λ (stage : Stage). Called g.D.Disk.told c.args.at stage was c.begin_pass.new.work old old locks locks c.begin_pass.result) (sym c.in-Extent.is)
    (read_called g.D.Disk.told c.args.at stages.Extent was c.begin_pass.new.work old old locks c.begin_pass.result refl (λ given. given) (subst (λ (stage : Stage). GrowsToPlace was.growth.stage stage) c.in-Extent.is c.requires.grows) made.same_growth made.of
    (ok_too _ _ c.begin_pass.result (λ o steps tells blocks has. steps tells blocks has locks) made.stepped) made.exact made.stands (on_ok_of c.begin_pass.result (λ tells damage. damage)) made.reads)

pub returns-in-Pass-clause-called : goal.returns-in-Pass-clause-called
returns-in-Pass-clause-called g c =
    let old = c.args.pages.now in
    let locks = c.args.locks.now in
    let was = c.args.work.now in
    let made = c.go_on.ensures in
    subst (λ (stage : Stage). Called g.D.Disk.told c.args.at stage was c.go_on.new.work old c.go_on.new.pages locks locks c.go_on.result) (sym c.in-Pass.is)
    (read_called g.D.Disk.told c.args.at stages.Pass was c.go_on.new.work old c.go_on.new.pages locks c.go_on.result refl (λ given. given) (subst (λ (stage : Stage). GrowsToPlace was.growth.stage stage) c.in-Pass.is c.requires.grows) made.same_growth made.of
    (ok_too _ _ c.go_on.result (λ o steps tells blocks has. steps tells blocks has locks) made.stepped) made.exact made.stands made.undamaged made.reads)

pub returns-in-Copy-clause-called : goal.returns-in-Copy-clause-called
returns-in-Copy-clause-called g c =
    let old = c.args.pages.now in
    let locks = c.args.locks.now in
    let was = c.args.work.now in
    let made = c.unite_in.ensures in
    subst (λ (stage : Stage). Called g.D.Disk.told c.args.at stage was c.unite_in.new.work old c.unite_in.new.pages locks locks c.unite_in.result) (sym c.in-Copy.is)
    (read_called g.D.Disk.told c.args.at (stages.Copy c.in-Copy.x) was c.unite_in.new.work old c.unite_in.new.pages locks c.unite_in.result refl (λ given. given) (subst (λ (stage : Stage). GrowsToPlace was.growth.stage stage) c.in-Copy.is c.requires.grows) made.same_growth made.of
    (ok_too _ _ c.unite_in.result (λ o steps tells blocks has. steps tells locks (heap_of old.layout c.args.at.index blocks)) made.stepped) made.exact made.stands made.undamaged made.reads)

pub returns-in-Place-clause-called : goal.returns-in-Place-clause-called
returns-in-Place-clause-called g c =
    subst (λ (stage : Stage). Called g.D.Disk.told c.args.at stage c.args.work.now c.place_in.new.work c.args.pages.now c.place_in.new.pages c.args.locks.now c.place_in.new.locks c.place_in.result) (sym c.in-Place.is) c.place_in.ensures.called

pub returns-in-Name-clause-called : goal.returns-in-Name-clause-called
returns-in-Name-clause-called g c =
    let was = c.args.work.now in
    let of = c.requires.of in
    subst (λ (stage : Stage). Called g.D.Disk.told c.args.at stage was was c.args.pages.now c.name.new.pages c.args.locks.now c.name.new.locks c.name.result) (sym c.in-Name.is)
    (c.name.ensures was (record { running = of.running; united = of.united; room = of.room; extent = of.extent; growth = of.growth }) (subst (λ (stage : Stage). GrowsToPlace was.growth.stage stage) c.in-Name.is c.requires.grows))

pub returns-in-Swap-clause-called : goal.returns-in-Swap-clause-called
returns-in-Swap-clause-called g c =
    subst (λ (stage : Stage). Called g.D.Disk.told c.args.at stage c.args.work.now c.args.work.now c.args.pages.now c.move_in.new.pages c.args.locks.now c.move_in.new.locks c.move_in.result) (sym c.in-Swap.is) c.move_in.ensures.called

pub returns-in-Set-clause-called : goal.returns-in-Set-clause-called
returns-in-Set-clause-called g c =
    subst (λ (stage : Stage). Called g.D.Disk.told c.args.at stage c.args.work.now c.args.work.now c.args.pages.now c.move_in-in-Set.new.pages c.args.locks.now c.move_in-in-Set.new.locks c.move_in-in-Set.result) (sym c.in-Set.is) c.move_in-in-Set.ensures.called

pub returns-in-Drop-clause-called : goal.returns-in-Drop-clause-called
returns-in-Drop-clause-called g c =
    subst (λ (stage : Stage). Called g.D.Disk.told c.args.at stage c.args.work.now c.args.work.now c.args.pages.now c.move_in-in-Drop.new.pages c.args.locks.now c.move_in-in-Drop.new.locks c.move_in-in-Drop.result) (sym c.in-Drop.is) c.move_in-in-Drop.ensures.called
