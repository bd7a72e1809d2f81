use Rattle.std.proofs.Common.{◌≡◌, ℕ, suc, ◌+◌, ◌*◌, length, take, refl, sym, ◌∙◌, ap, subst, arith}
use Rattle.std.specs.Prelude.{Err}
use Rattle.log_area.specs.Frames.{LogFrame, row_of}
use Rattle.recovery.specs.RedoesFrame.{AreRedone, LogCause}
use Rattle.recovery.specs.declared.redo_fault.RedoFault.{RedoFault}
use Rattle.recovery.proofs.Answering.{log_cause}
use Rattle.recovery.proofs.Logs.{frame_amiss, frames_moments, frames_more, length-row_next, length-row_take}
use Rattle.recovery.proofs.Steps.{redoing_kept}
use Rattle.recovery.proofs.frames.redo.Goals as goal

pub frames-init : goal.frames-init
frames-init g c = record { ready = c.requires.ready; same = refl; marks = c.requires.marks; gate = omega arith; redone = λ start r. r; later = omega arith }

pub returns-in-Err-clause-any_moment : goal.returns-in-Err-clause-any_moment
returns-in-Err-clause-any_moment g c = λ start r.
    frames_moments c.args.layout.now c.args.frames.now c.frames.at (record { changes = c.frame-count.result.0.now; count = c.frame-count.result.1 }) c.frame-count.ensures start (g.D.Disk.told c.frames.disk) c.frames.pool c.frames.marks (c.frames.invariant.redone start r)
    (g.D.Disk.told c.redo_frame.new.disk) c.redo_frame.ensures.any_moment

pub returns-in-Err-clause-cause : goal.returns-in-Err-clause-cause
returns-in-Err-clause-cause g c =
    let layout = c.args.layout.now in
    let frames = c.args.frames.now in
    let frame : LogFrame = record { changes = c.frame-count.result.0.now; count = c.frame-count.result.1 } in
    let old = g.D.Disk.told c.args.disk.now in
    let mid = g.D.Disk.told c.frames.disk in
    let new = g.D.Disk.told c.redo_frame.new.disk in
    subst (λ (fault : RedoFault). LogCause {T = Unit {0}} layout c.args.area frames old c.args.pool.now c.args.marks.now new (Err fault)) (sym c.fault_at.ensures)
    (log_cause (Unit {0}) layout c.args.area c.frames.gate frames frame old mid c.args.pool.now c.frames.pool c.args.marks.now c.frames.marks new c.in-Err.stop c.frames.invariant.later
    (λ amiss start r tells.
    let so_far = c.frames.invariant.redone start r in
    frame_amiss layout frames c.frames.at frame c.frame-count.ensures start mid c.frames.pool c.frames.marks so_far c.args.area c.frames.gate c.frames.invariant.gate amiss
    (so_far.redoing.moments.tells_contents ∙ sym r.redoing.moments.tells_contents ∙ tells)) c.in-Err.ensures.cause)

pub overflow_add-gate-in-frames : goal.overflow_add-gate-in-frames
overflow_add-gate-in-frames g c =
    let frame : LogFrame = record { changes = c.frame-count.result.0.now; count = c.frame-count.result.1 } in
    omega (arith, c.frames.invariant.gate, length-row_next c.args.frames.now c.frames.at frame c.frame-count.ensures, length-row_take c.args.frames.now (suc c.frames.at), c.requires.row)

pub frames-preserved : goal.frames-preserved
frames-preserved g c =
    let layout = c.args.layout.now in
    let frames = c.args.frames.now in
    let frame : LogFrame = record { changes = c.frame-count.result.0.now; count = c.frame-count.result.1 } in
    let mid = g.D.Disk.told c.frames.disk in
    let new = g.D.Disk.told c.redo_frame.new.disk in
    let next : suc c.frames.at ≡ c.frames.at + 1 = omega arith in
    record {
      ready = c.in-Ok.ensures.ready;
      same = c.in-Ok.ensures.frames ∙ c.frames.invariant.same;
      marks = ap (λ (n : ℕ). 8192 * n) c.redo_frame.auto.marks ∙ c.frames.invariant.marks;
      gate = subst (λ (k : ℕ). c.frames.gate + (7 + length frame.changes) ≡ c.args.area + length (row_of (take k frames))) next (omega (arith, c.frames.invariant.gate, length-row_next frames c.frames.at frame c.frame-count.ensures));
      redone = λ start r. subst (λ (k : ℕ). AreRedone layout frames (take k frames) start new c.redo_frame.new.pool c.redo_frame.new.marks) next
          (frames_more layout frames c.frames.at frame c.frame-count.ensures start mid c.frames.pool c.frames.marks (c.frames.invariant.redone start r) new c.redo_frame.new.pool c.redo_frame.new.marks c.in-Ok.ensures.redone);
      later = omega (arith, c.frames.invariant.later, c.in-Ok.ensures.cause);
    }

pub returns-clause-any_moment : goal.returns-clause-any_moment
returns-clause-any_moment g c = λ start r.
    let done = c.frames.invariant.redone start r in
    redoing_kept c.args.layout.now c.args.frames.now start done.done (g.D.Disk.told c.frames.disk) c.frames.pool done.redoing
