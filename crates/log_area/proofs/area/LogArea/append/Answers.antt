use Rattle.std.proofs.Common.{◌+◌, ◌≤◌, ℕ, length, sym, ◌∙◌, ap, subst, arith}
use Rattle.disk_trait.specs.Follows.{Follows}
use Rattle.disk_trait.specs.Throughout.{Throughout}
use Rattle.log_area.specs.Frames.{LogFrame, FitsFields}
use Rattle.log_area.specs.Log.{Log, ComesBy, areas_end, gate_of}
use Rattle.log_area.specs.Published.{Published, PublishedOrTorn, closed_frame}
use Rattle.log_area.specs.Appended.{Appended, KeptOrAppended}
use Rattle.log_area.proofs.Standing.{area_high}
use Rattle.log_area.proofs.Appending.{has_appended, may_have_appended, all_kept_or_appended, now_appended}
use Rattle.log_area.proofs.area.LogArea.append.Goals as goal

pub overflow_add-gate : goal.overflow_add-gate
overflow_add-gate g c =
    let log : Log = record { room = c.self.inside.room; byte = c.self.inside.byte; used = c.self.inside.used } in
    omega (arith, area_high log, c.self.invariant.0.small, c.self.invariant.0.closed, c.start_of_area.ensures)

pub publish-requires : goal.publish-requires
publish-requires g c =
    let old = g.D.Disk.told c.args.disk.now in
    let log : Log = record { room = c.self.inside.room; byte = c.self.inside.byte; used = c.self.inside.used } in
    let f : LogFrame = record { changes = c.args.changes.now; count = c.args.count } in
    let size : areas_end log.room ≤ old.size = subst (λ (l : Log). areas_end l.room ≤ old.size) (sym c.self.view_is) c.requires in
    let room : log.used + 8 + length f.changes ≤ log.room = omega (arith, c.if-need-left.false, c.self.invariant.0.closed) in
    let fits : FitsFields f = record { length = omega (arith, room, c.self.invariant.0.small); count = c.ranges.count.fits } in
    record {
      room = omega (arith, room, area_high log, c.start_of_area.ensures, size);
      buffer = ap length c.deref_mut.ensures.value ∙ c.self.invariant.1;
      small = fits.length;
    }

pub returns-in-Ok-clause-appended : goal.returns-in-Ok-clause-appended
returns-in-Ok-clause-appended g c =
    let old = g.D.Disk.told c.args.disk.now in
    let new = g.D.Disk.told c.publish.new.disk in
    let log : Log = record { room = c.self.inside.room; byte = c.self.inside.byte; used = c.self.inside.used } in
    let f : LogFrame = record { changes = c.args.changes.now; count = c.args.count } in
    let size : areas_end log.room ≤ old.size = subst (λ (l : Log). areas_end l.room ≤ old.size) (sym c.self.view_is) c.requires in
    let room : log.used + 8 + length f.changes ≤ log.room = omega (arith, c.if-need-left.false, c.self.invariant.0.closed) in
    let fits : FitsFields f = record { length = omega (arith, room, c.self.invariant.0.small); count = c.ranges.count.fits } in
    let published : Follows (Published (gate_of log) (closed_frame f)) old new =
    subst (λ (n : ℕ). Follows (Published (n + c.self.inside.used) (closed_frame f)) old new) c.start_of_area.ensures c.in-Ok.ensures.published in
    subst (λ (l : Log). Follows (Appended l f) old new) c.self.view_is
    (now_appended log f fits room old new size (g.met.D.Disk.images_fit c.args.disk.now) published)

pub returns-in-Ok-clause-written : goal.returns-in-Ok-clause-written
returns-in-Ok-clause-written g c tells =
    let old = g.D.Disk.told c.args.disk.now in
    let new = g.D.Disk.told c.publish.new.disk in
    let log : Log = record { room = c.self.inside.room; byte = c.self.inside.byte; used = c.self.inside.used } in
    let f : LogFrame = record { changes = c.args.changes.now; count = c.args.count } in
    let size : areas_end log.room ≤ old.size = subst (λ (l : Log). areas_end l.room ≤ old.size) (sym c.self.view_is) c.requires in
    let room : log.used + 8 + length f.changes ≤ log.room = omega (arith, c.if-need-left.false, c.self.invariant.0.closed) in
    let fits : FitsFields f = record { length = omega (arith, room, c.self.invariant.0.small); count = c.ranges.count.fits } in
    let published : Published (gate_of log) (closed_frame f) old.contents new.contents =
    subst (λ (n : ℕ). Published (n + c.self.inside.used) (closed_frame f) old.contents new.contents) c.start_of_area.ensures (c.in-Ok.ensures.written tells) in
    subst (λ (l : Log). Appended l f old.contents new.contents) c.self.view_is
    (has_appended log f fits room old.contents new.contents (omega (arith, size, g.met.D.Disk.contents_fit c.args.disk.now tells)) published)

pub returns-in-Ok-clause-any_moment : goal.returns-in-Ok-clause-any_moment
returns-in-Ok-clause-any_moment g c =
    let old = g.D.Disk.told c.args.disk.now in
    let new = g.D.Disk.told c.publish.new.disk in
    let log : Log = record { room = c.self.inside.room; byte = c.self.inside.byte; used = c.self.inside.used } in
    let f : LogFrame = record { changes = c.args.changes.now; count = c.args.count } in
    let size : areas_end log.room ≤ old.size = subst (λ (l : Log). areas_end l.room ≤ old.size) (sym c.self.view_is) c.requires in
    let room : log.used + 8 + length f.changes ≤ log.room = omega (arith, c.if-need-left.false, c.self.invariant.0.closed) in
    let fits : FitsFields f = record { length = omega (arith, room, c.self.invariant.0.small); count = c.ranges.count.fits } in
    let all : Throughout old new (ComesBy (PublishedOrTorn (gate_of log) (closed_frame f)) old) =
    subst (λ (n : ℕ). Throughout old new (ComesBy (PublishedOrTorn (n + c.self.inside.used) (closed_frame f)) old)) c.start_of_area.ensures c.publish.ensures.any_moment in
    subst (λ (l : Log). Throughout old new (ComesBy (KeptOrAppended l f) old)) c.self.view_is
    (all_kept_or_appended log f fits room old new size (g.met.D.Disk.images_fit c.args.disk.now) all)

pub returns-in-Err-clause-any_moment : goal.returns-in-Err-clause-any_moment
returns-in-Err-clause-any_moment g c =
    let old = g.D.Disk.told c.args.disk.now in
    let new = g.D.Disk.told c.publish.new.disk in
    let log : Log = record { room = c.self.inside.room; byte = c.self.inside.byte; used = c.self.inside.used } in
    let f : LogFrame = record { changes = c.args.changes.now; count = c.args.count } in
    let size : areas_end log.room ≤ old.size = subst (λ (l : Log). areas_end l.room ≤ old.size) (sym c.self.view_is) c.requires in
    let room : log.used + 8 + length f.changes ≤ log.room = omega (arith, c.if-need-left.false, c.self.invariant.0.closed) in
    let fits : FitsFields f = record { length = omega (arith, room, c.self.invariant.0.small); count = c.ranges.count.fits } in
    let all : Throughout old new (ComesBy (PublishedOrTorn (gate_of log) (closed_frame f)) old) =
    subst (λ (n : ℕ). Throughout old new (ComesBy (PublishedOrTorn (n + c.self.inside.used) (closed_frame f)) old)) c.start_of_area.ensures c.publish.ensures.any_moment in
    subst (λ (l : Log). Throughout old new (ComesBy (KeptOrAppended l f) old)) c.self.view_is
    (all_kept_or_appended log f fits room old new size (g.met.D.Disk.images_fit c.args.disk.now) all)

pub returns-in-Ok-clause-contents : goal.returns-in-Ok-clause-contents
returns-in-Ok-clause-contents g c tells =
    let old = g.D.Disk.told c.args.disk.now in
    let new = g.D.Disk.told c.publish.new.disk in
    let log : Log = record { room = c.self.inside.room; byte = c.self.inside.byte; used = c.self.inside.used } in
    let f : LogFrame = record { changes = c.args.changes.now; count = c.args.count } in
    let size : areas_end log.room ≤ old.size = subst (λ (l : Log). areas_end l.room ≤ old.size) (sym c.self.view_is) c.requires in
    let room : log.used + 8 + length f.changes ≤ log.room = omega (arith, c.if-need-left.false, c.self.invariant.0.closed) in
    let fits : FitsFields f = record { length = omega (arith, room, c.self.invariant.0.small); count = c.ranges.count.fits } in
    let may : PublishedOrTorn (gate_of log) (closed_frame f) old.contents new.contents =
    subst (λ (n : ℕ). PublishedOrTorn (n + c.self.inside.used) (closed_frame f) old.contents new.contents) c.start_of_area.ensures (c.publish.ensures.told tells) in
    subst (λ (l : Log). KeptOrAppended l f old.contents new.contents) c.self.view_is
    (may_have_appended log f fits room old.contents new.contents (omega (arith, size, g.met.D.Disk.contents_fit c.args.disk.now tells)) may)

pub returns-in-Err-clause-contents : goal.returns-in-Err-clause-contents
returns-in-Err-clause-contents g c tells =
    let old = g.D.Disk.told c.args.disk.now in
    let new = g.D.Disk.told c.publish.new.disk in
    let log : Log = record { room = c.self.inside.room; byte = c.self.inside.byte; used = c.self.inside.used } in
    let f : LogFrame = record { changes = c.args.changes.now; count = c.args.count } in
    let size : areas_end log.room ≤ old.size = subst (λ (l : Log). areas_end l.room ≤ old.size) (sym c.self.view_is) c.requires in
    let room : log.used + 8 + length f.changes ≤ log.room = omega (arith, c.if-need-left.false, c.self.invariant.0.closed) in
    let fits : FitsFields f = record { length = omega (arith, room, c.self.invariant.0.small); count = c.ranges.count.fits } in
    let may : PublishedOrTorn (gate_of log) (closed_frame f) old.contents new.contents =
    subst (λ (n : ℕ). PublishedOrTorn (n + c.self.inside.used) (closed_frame f) old.contents new.contents) c.start_of_area.ensures (c.publish.ensures.told tells) in
    subst (λ (l : Log). KeptOrAppended l f old.contents new.contents) c.self.view_is
    (may_have_appended log f fits room old.contents new.contents (omega (arith, size, g.met.D.Disk.contents_fit c.args.disk.now tells)) may)
