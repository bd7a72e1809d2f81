use Rattle.std.proofs.Common.{sym, subst}
use Rattle.std.specs.Prelude.{Ok}
use Rattle.page_locks.specs.declared.did.Did.{Did}
use Rattle.summarise_core.specs.declared.range_stage.Stage.{Stage}
use Rattle.summarise_core.specs.SummariseCalled.{Called, stage_of_move}
use Rattle.summarise_core.proofs.Called.{move_did, move_failed}
use Rattle.summarise_core.proofs.in_range.move_in.Goals as goal

pub returns-in-Ok-clause-called : goal.returns-in-Ok-clause-called
returns-in-Ok-clause-called g c =
    let work = c.args.work.now in
    subst (λ (o : Stage × Did). Called g.D.Disk.told c.args.at (stage_of_move c.args.step) work work c.args.pages.now c.step_move.new.pages c.args.locks.now c.step_move.new.locks (Ok o)) (sym c.after_move.ensures)
    (move_did g.D.Disk.told c.args.at work c.args.pages.now c.step_move.new.pages c.args.locks.now c.step_move.new.locks c.args.step c.requires.of c.requires.rests c.in-Ok.made c.in-Ok.ensures.called)

pub returns-in-Err-clause-called : goal.returns-in-Err-clause-called
returns-in-Err-clause-called g c =
    move_failed g.D.Disk.told c.args.at c.args.work.now c.args.pages.now c.step_move.new.pages c.args.locks.now c.step_move.new.locks c.args.step c.requires.of c.requires.rests c.in-Err.fault c.in-Err.ensures.called
