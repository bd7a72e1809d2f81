use Rattle.std.proofs.Common.{ℕ, ◌*◌, drop, refl, sym, ◌∙◌, ap, subst, arith}
use Rattle.std.proofs.lemmas.List.{take_rest}
use Rattle.log_area.specs.Frames.{LogFrame}
use Rattle.wal_record.specs.Changes.{IsChange, LoggedChange, logged}
use Rattle.wal_record.specs.ChangeBytes.{IsFront, bytes_of}
use Rattle.recovery.proofs.Answering.{frame_cause}
use Rattle.recovery.proofs.InFrames.{amiss_few, amiss_many, amiss_next, amiss_undecoded, frame_redone, in_frame, in_frame_more, moments_here, moments_next, reach_of, some_size}
use Rattle.recovery.proofs.frames.redo_frame.Goals as goal

pub changes-init : goal.changes-init
changes-init g c =
    record {
      ready = c.requires.ready;
      frames = refl;
      marks = c.requires.marks;
      redone = in_frame c.args.layout.now (record { changes = c.args.changes.now; count = c.args.count }) (g.D.Disk.told c.args.disk.now) c.args.pool.now c.args.marks.now;
      later = omega arith;
    }

pub returns-in_default-clause-any_moment : goal.returns-in_default-clause-any_moment
returns-in_default-clause-any_moment g c =
    moments_here c.no_change_begins_another.ensures c.args.layout.now (record { changes = c.args.changes.now; count = c.args.count }) (g.D.Disk.told c.args.disk.now) c.args.pool.now c.args.marks.now
    c.changes.at c.changes.left (g.D.Disk.told c.changes.disk) c.changes.pool c.changes.marks c.changes.invariant.redone

pub returns-in_default-clause-cause : goal.returns-in_default-clause-cause
returns-in_default-clause-cause g c =
    let none : ((change : LoggedChange) → IsChange change → IsFront (bytes_of change) (drop c.changes.at c.args.changes.now) → ⊥) =
    λ change is front. c.in_default.ensures.refused change is (subst (IsFront (bytes_of change)) (sym (take_rest c.args.changes.now c.changes.at)) front) in (
      amiss_undecoded c.no_change_begins_another.ensures c.args.layout.now (record { changes = c.args.changes.now; count = c.args.count }) (g.D.Disk.told c.args.disk.now) c.args.pool.now c.args.marks.now
          c.changes.at c.changes.left (g.D.Disk.told c.changes.disk) c.changes.pool c.changes.marks c.changes.invariant.redone c.changes-test.true none,
      c.changes.invariant.later,
    )

pub returns-then-left-eq0-clause-any_moment : goal.returns-then-left-eq0-clause-any_moment
returns-then-left-eq0-clause-any_moment g c =
    moments_here c.no_change_begins_another.ensures c.args.layout.now (record { changes = c.args.changes.now; count = c.args.count }) (g.D.Disk.told c.args.disk.now) c.args.pool.now c.args.marks.now
    c.changes.at c.changes.left (g.D.Disk.told c.changes.disk) c.changes.pool c.changes.marks c.changes.invariant.redone

pub returns-then-left-eq0-clause-cause : goal.returns-then-left-eq0-clause-cause
returns-then-left-eq0-clause-cause g c = (
  amiss_many c.no_change_begins_another.ensures c.args.layout.now (record { changes = c.args.changes.now; count = c.args.count }) (g.D.Disk.told c.args.disk.now) c.args.pool.now c.args.marks.now
      c.changes.at c.changes.left (g.D.Disk.told c.changes.disk) c.changes.pool c.changes.marks c.changes.invariant.redone c.changes-test.true (omega (arith, c.if-left-eq0.true)),
  c.changes.invariant.later,
)

pub returns-in-Err-clause-any_moment : goal.returns-in-Err-clause-any_moment
returns-in-Err-clause-any_moment g c =
    moments_next c.no_change_begins_another.ensures c.args.layout.now (record { changes = c.args.changes.now; count = c.args.count }) (g.D.Disk.told c.args.disk.now) c.args.pool.now c.args.marks.now
    c.changes.at c.changes.left (g.D.Disk.told c.changes.disk) c.changes.pool c.changes.marks c.changes.invariant.redone (g.D.Disk.told c.redo_change.new.disk) c.redo_change.ensures.any_moment

pub returns-in-Err-clause-cause : goal.returns-in-Err-clause-cause
returns-in-Err-clause-cause g c =
    let change = logged c.in-Ok.read.0 in
    let front : IsFront (bytes_of change) (drop c.changes.at c.args.changes.now) = subst (IsFront (bytes_of change)) (take_rest c.args.changes.now c.changes.at) c.in-Ok.ensures.front in
    frame_cause (Unit {0}) c.args.layout.now (record { changes = c.args.changes.now; count = c.args.count }) change (g.D.Disk.told c.args.disk.now) (g.D.Disk.told c.changes.disk) c.args.pool.now c.changes.pool c.args.marks.now c.changes.marks (g.D.Disk.told c.redo_change.new.disk) c.in-Err.stop
    c.changes.invariant.later
    (amiss_next c.no_change_begins_another.ensures c.args.layout.now (record { changes = c.args.changes.now; count = c.args.count }) (g.D.Disk.told c.args.disk.now) c.args.pool.now c.args.marks.now
    c.changes.at c.changes.left (g.D.Disk.told c.changes.disk) c.changes.pool c.changes.marks c.changes.invariant.redone change c.in-Ok.ensures.change front) c.in-Err.ensures.cause

pub changes-smaller : goal.changes-smaller
changes-smaller g c =
    let change = logged c.in-Ok.read.0 in
    let front : IsFront (bytes_of change) (drop c.changes.at c.args.changes.now) = subst (IsFront (bytes_of change)) (take_rest c.args.changes.now c.changes.at) c.in-Ok.ensures.front in
    omega (arith, reach_of c.args.changes.now c.changes.at change front c.changes-test.true, some_size change, c.in-Ok.ensures.length)

pub changes-preserved : goal.changes-preserved
changes-preserved g c =
    let change = logged c.in-Ok.read.0 in
    let front : IsFront (bytes_of change) (drop c.changes.at c.args.changes.now) = subst (IsFront (bytes_of change)) (take_rest c.args.changes.now c.changes.at) c.in-Ok.ensures.front in
    let frame : LogFrame = record { changes = c.args.changes.now; count = c.args.count } in
    record {
      ready = c.in-Ok-redo_change.ensures.ready;
      frames = c.in-Ok-redo_change.ensures.frames ∙ c.changes.invariant.frames;
      marks = ap (λ (n : ℕ). 8192 * n) c.redo_change.auto.marks ∙ c.changes.invariant.marks;
      redone = in_frame_more c.no_change_begins_another.ensures c.args.layout.now frame (g.D.Disk.told c.args.disk.now) c.args.pool.now c.args.marks.now c.changes.at c.changes.left c.in-Ok.read.1
          (g.D.Disk.told c.changes.disk) c.changes.pool c.changes.marks change (g.D.Disk.told c.redo_change.new.disk) c.redo_change.new.pool c.redo_change.new.marks
          c.in-Ok.ensures.change front c.in-Ok.ensures.length (omega (arith, reach_of c.args.changes.now c.changes.at change front c.changes-test.true, c.in-Ok.ensures.length)) (omega (arith, c.if-left-eq0.false)) c.in-Ok-redo_change.ensures.redone c.changes.invariant.redone;
      later = omega (arith, c.changes.invariant.later, c.in-Ok-redo_change.ensures.cause);
    }

pub returns-then-left-gt0-clause-any_moment : goal.returns-then-left-gt0-clause-any_moment
returns-then-left-gt0-clause-any_moment g c =
    moments_here c.no_change_begins_another.ensures c.args.layout.now (record { changes = c.args.changes.now; count = c.args.count }) (g.D.Disk.told c.args.disk.now) c.args.pool.now c.args.marks.now
    c.changes.at c.changes.left (g.D.Disk.told c.changes.disk) c.changes.pool c.changes.marks c.changes.invariant.redone

pub returns-then-left-gt0-clause-cause : goal.returns-then-left-gt0-clause-cause
returns-then-left-gt0-clause-cause g c = (
  amiss_few c.no_change_begins_another.ensures c.args.layout.now (record { changes = c.args.changes.now; count = c.args.count }) (g.D.Disk.told c.args.disk.now) c.args.pool.now c.args.marks.now
      c.changes.at c.changes.left (g.D.Disk.told c.changes.disk) c.changes.pool c.changes.marks c.changes.invariant.redone c.changes-test.false c.if-left-gt0.true,
  c.changes.invariant.later,
)

pub returns-clause-redone : goal.returns-clause-redone
returns-clause-redone g c =
    frame_redone c.no_change_begins_another.ensures c.args.layout.now (record { changes = c.args.changes.now; count = c.args.count }) (g.D.Disk.told c.args.disk.now) c.args.pool.now c.args.marks.now
    c.changes.at c.changes.left (g.D.Disk.told c.changes.disk) c.changes.pool c.changes.marks c.changes.invariant.redone c.changes-test.false (omega (arith, c.if-left-gt0.false))

pub returns-clause-any_moment : goal.returns-clause-any_moment
returns-clause-any_moment g c =
    moments_here c.no_change_begins_another.ensures c.args.layout.now (record { changes = c.args.changes.now; count = c.args.count }) (g.D.Disk.told c.args.disk.now) c.args.pool.now c.args.marks.now
    c.changes.at c.changes.left (g.D.Disk.told c.changes.disk) c.changes.pool c.changes.marks c.changes.invariant.redone
