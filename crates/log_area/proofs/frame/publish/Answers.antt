use Rattle.std.proofs.Common.{inl, inr, ◌+◌, ℕ, length, sym, ◌∙◌, subst}
use Rattle.disk_trait.specs.Torn.{Torn}
use Rattle.log_area.specs.Frames.{LogFrame}
use Rattle.log_area.specs.Published.{closed_frame}
use Rattle.log_area.proofs.Publishing.{Lawful, first_published, all_published, now_published, told_published, told_opened}
use Rattle.log_area.proofs.Appending.{width}
use Rattle.log_area.proofs.frame.publish.Goals as goal

pub returns-in_err-write_frame-clause-any_moment : goal.returns-in_err-write_frame-clause-any_moment
returns-in_err-write_frame-clause-any_moment g c =
    let old = g.D.Disk.told c.args.disk.now in
    let mid = g.D.Disk.told c.write_frame.new.disk in
    let f : LogFrame = record { changes = c.args.changes.now; count = c.args.count } in
    let n = length f.changes + 7 in
    let lawful : Lawful old = record { fit = g.met.D.Disk.contents_fit c.args.disk.now; images = g.met.D.Disk.images_fit c.args.disk.now; told = g.met.D.Disk.images_need_contents c.args.disk.now; counts = g.met.D.Disk.now_is_since c.args.disk.now } in
    let after : Lawful mid = record { fit = g.met.D.Disk.contents_fit c.write_frame.new.disk; images = g.met.D.Disk.images_fit c.write_frame.new.disk; told = g.met.D.Disk.images_need_contents c.write_frame.new.disk; counts = g.met.D.Disk.now_is_since c.write_frame.new.disk } in
    first_published old mid c.args.gate n (closed_frame f) (width f) lawful after c.requires.room c.write_frame.ensures.any_moment

pub returns-in_err-write_frame-clause-told : goal.returns-in_err-write_frame-clause-told
returns-in_err-write_frame-clause-told g c tells =
    let old = g.D.Disk.told c.args.disk.now in
    let mid = g.D.Disk.told c.write_frame.new.disk in
    let f : LogFrame = record { changes = c.args.changes.now; count = c.args.count } in
    let n = length f.changes + 7 in
    let lawful : Lawful old = record { fit = g.met.D.Disk.contents_fit c.args.disk.now; images = g.met.D.Disk.images_fit c.args.disk.now; told = g.met.D.Disk.images_need_contents c.args.disk.now; counts = g.met.D.Disk.now_is_since c.args.disk.now } in
    let after : Lawful mid = record { fit = g.met.D.Disk.contents_fit c.write_frame.new.disk; images = g.met.D.Disk.images_fit c.write_frame.new.disk; told = g.met.D.Disk.images_need_contents c.write_frame.new.disk; counts = g.met.D.Disk.now_is_since c.write_frame.new.disk } in
    inl (subst (λ (k : ℕ). Torn (c.args.gate + 1) k old.contents mid.contents) (sym (width f)) (c.write_frame.ensures.others tells))

pub returns-in_err-write_and_sync-clause-any_moment : goal.returns-in_err-write_and_sync-clause-any_moment
returns-in_err-write_and_sync-clause-any_moment g c =
    let old = g.D.Disk.told c.args.disk.now in
    let mid = g.D.Disk.told c.write_frame.new.disk in
    let f : LogFrame = record { changes = c.args.changes.now; count = c.args.count } in
    let n = length f.changes + 7 in
    let lawful : Lawful old = record { fit = g.met.D.Disk.contents_fit c.args.disk.now; images = g.met.D.Disk.images_fit c.args.disk.now; told = g.met.D.Disk.images_need_contents c.args.disk.now; counts = g.met.D.Disk.now_is_since c.args.disk.now } in
    let after : Lawful mid = record { fit = g.met.D.Disk.contents_fit c.write_frame.new.disk; images = g.met.D.Disk.images_fit c.write_frame.new.disk; told = g.met.D.Disk.images_need_contents c.write_frame.new.disk; counts = g.met.D.Disk.now_is_since c.write_frame.new.disk } in
    let new = g.D.Disk.told c.write_and_sync.new.disk in
    let first = c.write_frame.ensures.any_moment in
    let written = c.in_ok-write_frame.ensures.written in
    let stable = c.in_ok-write_frame.ensures.stable in
    all_published old mid c.args.gate n (closed_frame f) (width f) lawful after c.requires.room first written stable new c.write_and_sync.ensures.any_moment

pub returns-in_err-write_and_sync-clause-told : goal.returns-in_err-write_and_sync-clause-told
returns-in_err-write_and_sync-clause-told g c tells =
    let old = g.D.Disk.told c.args.disk.now in
    let mid = g.D.Disk.told c.write_frame.new.disk in
    let f : LogFrame = record { changes = c.args.changes.now; count = c.args.count } in
    let n = length f.changes + 7 in
    let lawful : Lawful old = record { fit = g.met.D.Disk.contents_fit c.args.disk.now; images = g.met.D.Disk.images_fit c.args.disk.now; told = g.met.D.Disk.images_need_contents c.args.disk.now; counts = g.met.D.Disk.now_is_since c.args.disk.now } in
    let after : Lawful mid = record { fit = g.met.D.Disk.contents_fit c.write_frame.new.disk; images = g.met.D.Disk.images_fit c.write_frame.new.disk; told = g.met.D.Disk.images_need_contents c.write_frame.new.disk; counts = g.met.D.Disk.now_is_since c.write_frame.new.disk } in
    let new = g.D.Disk.told c.write_and_sync.new.disk in
    let first = c.write_frame.ensures.any_moment in
    let written = c.in_ok-write_frame.ensures.written in
    let stable = c.in_ok-write_frame.ensures.stable in
    inr (told_published old mid c.args.gate n (closed_frame f) (width f) lawful after c.requires.room first written stable new tells (c.write_frame.ensures.others tells) (c.write_and_sync.ensures.others (first.tells_contents ∙ tells)))

pub returns-clause-any_moment : goal.returns-clause-any_moment
returns-clause-any_moment g c =
    let old = g.D.Disk.told c.args.disk.now in
    let mid = g.D.Disk.told c.write_frame.new.disk in
    let f : LogFrame = record { changes = c.args.changes.now; count = c.args.count } in
    let n = length f.changes + 7 in
    let lawful : Lawful old = record { fit = g.met.D.Disk.contents_fit c.args.disk.now; images = g.met.D.Disk.images_fit c.args.disk.now; told = g.met.D.Disk.images_need_contents c.args.disk.now; counts = g.met.D.Disk.now_is_since c.args.disk.now } in
    let after : Lawful mid = record { fit = g.met.D.Disk.contents_fit c.write_frame.new.disk; images = g.met.D.Disk.images_fit c.write_frame.new.disk; told = g.met.D.Disk.images_need_contents c.write_frame.new.disk; counts = g.met.D.Disk.now_is_since c.write_frame.new.disk } in
    let new = g.D.Disk.told c.write_and_sync.new.disk in
    let first = c.write_frame.ensures.any_moment in
    let written = c.in_ok-write_frame.ensures.written in
    let stable = c.in_ok-write_frame.ensures.stable in
    all_published old mid c.args.gate n (closed_frame f) (width f) lawful after c.requires.room first written stable new c.write_and_sync.ensures.any_moment

pub returns-clause-told : goal.returns-clause-told
returns-clause-told g c tells =
    let old = g.D.Disk.told c.args.disk.now in
    let mid = g.D.Disk.told c.write_frame.new.disk in
    let f : LogFrame = record { changes = c.args.changes.now; count = c.args.count } in
    let n = length f.changes + 7 in
    let lawful : Lawful old = record { fit = g.met.D.Disk.contents_fit c.args.disk.now; images = g.met.D.Disk.images_fit c.args.disk.now; told = g.met.D.Disk.images_need_contents c.args.disk.now; counts = g.met.D.Disk.now_is_since c.args.disk.now } in
    let after : Lawful mid = record { fit = g.met.D.Disk.contents_fit c.write_frame.new.disk; images = g.met.D.Disk.images_fit c.write_frame.new.disk; told = g.met.D.Disk.images_need_contents c.write_frame.new.disk; counts = g.met.D.Disk.now_is_since c.write_frame.new.disk } in
    let new = g.D.Disk.told c.write_and_sync.new.disk in
    let first = c.write_frame.ensures.any_moment in
    let written = c.in_ok-write_frame.ensures.written in
    let stable = c.in_ok-write_frame.ensures.stable in
    inr (told_published old mid c.args.gate n (closed_frame f) (width f) lawful after c.requires.room first written stable new tells (c.write_frame.ensures.others tells) (c.write_and_sync.ensures.others (first.tells_contents ∙ tells)))

pub returns-clause-published : goal.returns-clause-published
returns-clause-published g c =
    let old = g.D.Disk.told c.args.disk.now in
    let mid = g.D.Disk.told c.write_frame.new.disk in
    let f : LogFrame = record { changes = c.args.changes.now; count = c.args.count } in
    let n = length f.changes + 7 in
    let lawful : Lawful old = record { fit = g.met.D.Disk.contents_fit c.args.disk.now; images = g.met.D.Disk.images_fit c.args.disk.now; told = g.met.D.Disk.images_need_contents c.args.disk.now; counts = g.met.D.Disk.now_is_since c.args.disk.now } in
    let after : Lawful mid = record { fit = g.met.D.Disk.contents_fit c.write_frame.new.disk; images = g.met.D.Disk.images_fit c.write_frame.new.disk; told = g.met.D.Disk.images_need_contents c.write_frame.new.disk; counts = g.met.D.Disk.now_is_since c.write_frame.new.disk } in
    let new = g.D.Disk.told c.write_and_sync.new.disk in
    let first = c.write_frame.ensures.any_moment in
    let written = c.in_ok-write_frame.ensures.written in
    let stable = c.in_ok-write_frame.ensures.stable in
    let last : Lawful new = record { fit = g.met.D.Disk.contents_fit c.write_and_sync.new.disk; images = g.met.D.Disk.images_fit c.write_and_sync.new.disk; told = g.met.D.Disk.images_need_contents c.write_and_sync.new.disk; counts = g.met.D.Disk.now_is_since c.write_and_sync.new.disk } in
    now_published old mid c.args.gate n (closed_frame f) (width f) lawful after c.requires.room first written stable new last c.write_and_sync.ensures.any_moment c.in_ok-write_and_sync.ensures.written c.in_ok-write_and_sync.ensures.stable

pub returns-clause-written : goal.returns-clause-written
returns-clause-written g c tells =
    let old = g.D.Disk.told c.args.disk.now in
    let mid = g.D.Disk.told c.write_frame.new.disk in
    let f : LogFrame = record { changes = c.args.changes.now; count = c.args.count } in
    let n = length f.changes + 7 in
    let lawful : Lawful old = record { fit = g.met.D.Disk.contents_fit c.args.disk.now; images = g.met.D.Disk.images_fit c.args.disk.now; told = g.met.D.Disk.images_need_contents c.args.disk.now; counts = g.met.D.Disk.now_is_since c.args.disk.now } in
    let after : Lawful mid = record { fit = g.met.D.Disk.contents_fit c.write_frame.new.disk; images = g.met.D.Disk.images_fit c.write_frame.new.disk; told = g.met.D.Disk.images_need_contents c.write_frame.new.disk; counts = g.met.D.Disk.now_is_since c.write_frame.new.disk } in
    let new = g.D.Disk.told c.write_and_sync.new.disk in
    let first = c.write_frame.ensures.any_moment in
    let written = c.in_ok-write_frame.ensures.written in
    let stable = c.in_ok-write_frame.ensures.stable in
    record {
      behind = told_published old mid c.args.gate n (closed_frame f) (width f) lawful after c.requires.room first written stable new tells (c.write_frame.ensures.others tells) (c.write_and_sync.ensures.others (first.tells_contents ∙ tells));
      opened = told_opened old mid c.args.gate n (closed_frame f) (width f) lawful after c.requires.room first written stable new tells c.in_ok-write_and_sync.ensures.written;
    }
