use Rattle.std.proofs.Common.{sym, subst}
use Rattle.std.specs.Prelude.{Ok}
use Rattle.page_locks.specs.declared.did.Did.{Did}
use Rattle.brin_insert.specs.declared.stage.Stage.{Stage}
use Rattle.brin_insert.specs.InsertCalled.{Called, stage_of_move}
use Rattle.brin_insert.proofs.Called.{move_did, move_failed}
use Rattle.brin_insert.proofs.in_index.move_in.Goals as goal

pub returns-in-Ok-clause-called : goal.returns-in-Ok-clause-called
returns-in-Ok-clause-called g c = λ values.
    let copied = c.args.copied.now in
    let tuple = c.args.tuple.now in
    subst (λ (o : Stage × Did). Called g.D.Disk.told c.args.at (stage_of_move c.args.step) copied copied tuple tuple values c.args.pages.now c.step_move.new.pages c.args.locks.now c.step_move.new.locks (Ok o)) (sym c.after_move.ensures)
    (move_did g.D.Disk.told c.args.at copied tuple values c.args.pages.now c.step_move.new.pages c.args.locks.now c.step_move.new.locks c.args.step c.in-Ok.made c.in-Ok.ensures.called)

pub returns-in-Err-clause-called : goal.returns-in-Err-clause-called
returns-in-Err-clause-called g c = λ values.
    move_failed g.D.Disk.told c.args.at c.args.copied.now c.args.tuple.now values c.args.pages.now c.step_move.new.pages c.args.locks.now c.step_move.new.locks c.args.step c.in-Err.fault c.in-Err.ensures.called
