use Rattle.std.proofs.Common.{◌≡◌, ◌≢◌, ℕ, List, sym, ◌∙◌, ap, subst, arith}
use Rattle.std.specs.Prelude.{IsTrue, slice_index, Err}
use Rattle.byte_fields.specs.Fields.{field_at, AreBytes}
use Rattle.disk_trait.specs.Told.{Told}
use Rattle.log_area.specs.Frames.{HoldsFrames}
use Rattle.log_area.specs.Reading.{IsFrontOf, FrameCause}
use Rattle.log_area.proofs.Reading.{IsRead, read_on, holds_read, passes_read}
use Rattle.log_area.proofs.Lookups.{same_default}
use Rattle.log_area.proofs.Causes.{area_cause}
use Rattle.log_area.proofs.opening.read_frames.Goals as goal

pub returns-in-Err-read_frame-clause-cause : goal.returns-in-Err-read_frame-clause-cause
returns-in-Err-read_frame-clause-cause g c =
    let old = g.D.Disk.told c.args.disk.now in
    let new = g.D.Disk.told c.read_frame.new.disk in
    let one : slice_index c.frames.bytes.items c.frames.at ≡ 1 = omega (arith, same_default c.frames.bytes.items c.frames.at c.index.result.now 0 c.frames.invariant.read.inside, c.index.ensures, c.frames-test.true) in
    area_cause ℕ ℕ c.args.area.start c.args.area.room c.frames.at old new (g.D.Disk.told c.frames.disk).faults c.in-Err-read_frame.fault c.frames.invariant.later
    (λ tells passes. passes_read c.args.area.start c.args.area.room c.frames.at c.frames.bytes.items c.frames.gates.items old.contents c.frames.invariant.read c.frames.invariant.within (c.frames.invariant.known tells) one passes)
    (subst (λ (d : Told). FrameCause {T = ℕ} c.args.area.start c.args.area.room c.frames.at d new (Err c.in-Err-read_frame.fault)) c.frames.invariant.same c.in-Err-read_frame.ensures.cause)

pub frames-preserved : goal.frames-preserved
frames-preserved g c =
    let old = g.D.Disk.told c.args.disk.now in
    let new = g.D.Disk.told c.read_frame.new.disk in
    let all = c.read_frame.new.bytes.items in
    let one : slice_index c.frames.bytes.items c.frames.at ≡ 1 = omega (arith, same_default c.frames.bytes.items c.frames.at c.index.result.now 0 c.frames.invariant.read.inside, c.index.ensures, c.frames-test.true) in
    let next = c.in-Ok-read_frame.next in
    let small : AreBytes all = subst AreBytes c.deref.ensures.value c.bytes_known.ensures in
    record {
      known = subst (λ (d : Told). IsTrue d.tells_contents → IsFrontOf c.args.area.start all d.contents) c.frames.invariant.same c.in-Ok-read_frame.ensures.known;
      within = c.in-Ok-read_frame.ensures.enough.1;
      read =
          subst (λ (gates : List ℕ). IsRead all gates next) (sym c.in-Ok-push.ensures.items)
          (read_on c.frames.bytes.items all c.frames.gates.items c.frames.at next c.in-Ok-read_frame.ensures.extends small c.frames.invariant.read one c.in-Ok-read_frame.ensures.next c.in-Ok-read_frame.ensures.enough.0);
      same = c.in-Ok-read_frame.ensures.same ∙ ap (λ (d : Told). record d { faults = new.faults }) c.frames.invariant.same;
      later = omega (arith, c.frames.invariant.later, ap (λ (d : Told). d.faults) c.frames.invariant.same, c.in-Ok-read_frame.ensures.cause);
    }

pub returns-clause-holds : goal.returns-clause-holds
returns-clause-holds g c tells =
    let old = g.D.Disk.told c.args.disk.now in
    let shut : slice_index c.frames.bytes.items c.frames.at ≢ 1 =
    λ one. absurd (omega (arith, same_default c.frames.bytes.items c.frames.at c.index.result.now 0 c.frames.invariant.read.inside, c.index.ensures, c.frames-test.false, one)) in
    subst (HoldsFrames (field_at old.contents c.args.area.start c.args.area.room)) (sym c.of.ensures)
    (holds_read c.args.area.start c.args.area.room c.frames.at c.frames.bytes.items c.frames.gates.items old.contents c.frames.invariant.read c.frames.invariant.within (c.frames.invariant.known tells) shut)
