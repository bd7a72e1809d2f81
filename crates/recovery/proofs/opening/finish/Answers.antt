use Rattle.std.proofs.Common.{ℕ, ◌*◌, ◌≤◌, sym, ◌∙◌, ap, subst, arith}
use Rattle.std.specs.Prelude.{IsTrue}
use Rattle.block_model.specs.declared.limits.TheConstants.{PAGE_SIZE}
use Rattle.store_layout.specs.DiskLayout.{area_size}
use Rattle.disk_trait.specs.Told.{Told}
use Rattle.log_area.specs.Frames.{HoldsFrames}
use Rattle.log_area.specs.Log.{chosen_area}
use Rattle.buffer_pool.specs.PoolState.{PoolState}
use Rattle.recovery.specs.Opens.{OpensAs}
use Rattle.recovery.specs.Reaches.{OpensAsBefore}
use Rattle.recovery.specs.ShownPages.{shown_pages}
use Rattle.recovery.specs.PooledPages.{HoldsDurablePages}
use Rattle.recovery.proofs.Steps.{kept_read, moments_read}
use Rattle.recovery.specs.Begun.{IsBegun}
use Rattle.recovery.specs.declared.beginning.Begun.{Begun}
use Rattle.recovery.specs.declared.opening.Opened.{Opened}
use Rattle.recovery.specs.Opened.{IsOpened}
use Rattle.recovery.specs.StartCauses.{HasStore}
use Rattle.recovery.proofs.Begins.{holds_none}
use Rattle.recovery.proofs.Finishing.{judge_cause, judge_some, none_redone, opened_at, opened_read, opens_at, redo_cause, redo_some}
use Rattle.recovery.proofs.Joining.{front_of}
use Rattle.recovery.proofs.opening.finish.Goals as goal

-- the disk at the start has a store of the layout
has_store : (b : Begun) (disk : Told) → IsBegun b disk → IsTrue disk.tells_contents → HasStore b.layout disk.size disk.contents
has_store b disk begun tells = record { control = begun.control tells; sized = sym begun.size }

holds_frames : (b : Begun) (disk : Told) → IsBegun b disk → IsTrue disk.tells_contents → HoldsFrames (chosen_area (area_size b.layout) disk.contents) b.frames
holds_frames b disk begun tells = subst (λ (room : ℕ). HoldsFrames (chosen_area room disk.contents) b.frames) begun.room (begun.stands tells).holds

pub redo_log-requires-clause-ready : goal.redo_log-requires-clause-ready
redo_log-requires-clause-ready g c = record {
  sized = c.requires.begun.size;
  some = subst (λ (pool : PoolState). 1 ≤ pool.frames) (sym c.requires.begun.empty) (omega (arith, c.known.ensures.sizes.some_frames));
  held = subst (HoldsDurablePages c.args.begun.layout) (sym c.requires.begun.empty) (holds_none c.args.begun.layout c.args.begun.layout.sizes.frames);
}

pub returns-in-Err-clause-any_moment : goal.returns-in-Err-clause-any_moment
returns-in-Err-clause-any_moment g c =
    let old = g.D.Disk.told c.args.disk.now in
    (c.redo_log.ensures.any_moment old
    (none_redone c.args.begun old c.requires.begun c.requires.stable (λ image now. g.met.D.Disk.images_need_contents c.args.disk.now image now) (λ image since. g.met.D.Disk.since_now_is_now c.args.disk.now image since))).moments

pub returns-in-Err-clause-front : goal.returns-in-Err-clause-front
returns-in-Err-clause-front g c = λ tells.
    let old = g.D.Disk.told c.args.disk.now in
    front_of c.one_layout.ensures c.args.begun.layout old.contents (g.D.Disk.told c.redo_log.new.disk).contents (c.requires.begun.control tells)
    ((c.redo_log.ensures.any_moment old
    (none_redone c.args.begun old c.requires.begun c.requires.stable (λ image now. g.met.D.Disk.images_need_contents c.args.disk.now image now) (λ image since. g.met.D.Disk.since_now_is_now c.args.disk.now image since))).front tells)

pub returns-in-Err-clause-cause : goal.returns-in-Err-clause-cause
returns-in-Err-clause-cause g c =
    let old = g.D.Disk.told c.args.disk.now in
    redo_cause Opened c.args.begun.layout c.args.begun.area c.args.begun.frames old (g.D.Disk.told c.redo_log.new.disk) c.args.begun.pool c.args.begun.marks.items c.in-Err.fault
    (none_redone c.args.begun old c.requires.begun c.requires.stable (λ image now. g.met.D.Disk.images_need_contents c.args.disk.now image now) (λ image since. g.met.D.Disk.since_now_is_now c.args.disk.now image since))
    (has_store c.args.begun old c.requires.begun) (holds_frames c.args.begun old c.requires.begun) c.requires.begun.begins c.in-Err.ensures.cause

pub returns-in-Err-judge-clause-front : goal.returns-in-Err-judge-clause-front
returns-in-Err-judge-clause-front g c = λ tells.
    let old = g.D.Disk.told c.args.disk.now in
    front_of c.one_layout.ensures c.args.begun.layout old.contents (g.D.Disk.told c.judge.new.disk).contents (c.requires.begun.control tells)
    ((kept_read c.args.begun.layout old (g.D.Disk.told c.redo_log.new.disk) (g.D.Disk.told c.judge.new.disk) c.judge.ensures.same
    (c.redo_log.ensures.any_moment old
    (none_redone c.args.begun old c.requires.begun c.requires.stable (λ image now. g.met.D.Disk.images_need_contents c.args.disk.now image now) (λ image since. g.met.D.Disk.since_now_is_now c.args.disk.now image since)))).front tells)

pub returns-in-Err-judge-clause-any_moment : goal.returns-in-Err-judge-clause-any_moment
returns-in-Err-judge-clause-any_moment g c =
    let old = g.D.Disk.told c.args.disk.now in
    moments_read old (g.D.Disk.told c.redo_log.new.disk) (g.D.Disk.told c.judge.new.disk) (OpensAsBefore old) c.judge.ensures.same
    (c.redo_log.ensures.any_moment old
    (none_redone c.args.begun old c.requires.begun c.requires.stable (λ image now. g.met.D.Disk.images_need_contents c.args.disk.now image now) (λ image since. g.met.D.Disk.since_now_is_now c.args.disk.now image since))).moments

pub returns-in-Err-judge-clause-cause : goal.returns-in-Err-judge-clause-cause
returns-in-Err-judge-clause-cause g c =
    let old = g.D.Disk.told c.args.disk.now in
    let mid = g.D.Disk.told c.redo_log.new.disk in
    judge_cause Opened c.args.begun.layout c.args.begun.frames old mid (g.D.Disk.told c.judge.new.disk) c.redo_log.new.pool c.redo_log.new.marks.items c.in-Err-judge.fault
    (c.in-Ok.ensures.redone old
    (none_redone c.args.begun old c.requires.begun c.requires.stable (λ image now. g.met.D.Disk.images_need_contents c.args.disk.now image now) (λ image since. g.met.D.Disk.since_now_is_now c.args.disk.now image since)))
    (has_store c.args.begun old c.requires.begun) (holds_frames c.args.begun old c.requires.begun) c.in-Ok.ensures.cause c.in-Err-judge.ensures.cause

pub returns-clause-opened : goal.returns-clause-opened
returns-clause-opened g c =
    let old = g.D.Disk.told c.args.disk.now in
    let mid = g.D.Disk.told c.redo_log.new.disk in
    let o : Opened = record { layout = c.args.begun.layout; log = c.args.begun.log; pool = c.redo_log.new.pool; marks = c.redo_log.new.marks; facts = c.in-Ok-judge.facts } in
    subst (λ (pool : PoolState). IsOpened (record { layout = c.args.begun.layout; log = c.args.begun.log; pool = pool; marks = c.redo_log.new.marks; facts = c.in-Ok-judge.facts }) (g.D.Disk.told c.judge.new.disk)) (sym c.in-Ok-judge.ensures.pool)
    (opened_read o mid (g.D.Disk.told c.judge.new.disk) c.in-Ok-judge.ensures.same
    (opened_at o c.args.begun.frames old mid
    (c.in-Ok.ensures.redone old
    (none_redone c.args.begun old c.requires.begun c.requires.stable (λ image now. g.met.D.Disk.images_need_contents c.args.disk.now image now) (λ image since. g.met.D.Disk.since_now_is_now c.args.disk.now image since)))
    c.requires.begun.room c.requires.begun.control c.requires.begun.stands c.in-Ok-judge.ensures.judged c.redo_forgets_a_page_begun_anew.ensures (λ image now. g.met.D.Disk.images_need_contents c.redo_log.new.disk image now)
    c.in-Ok.ensures.ready (c.in-Ok.ensures.frames ∙ ap (λ (pool : PoolState). pool.frames) c.requires.begun.empty) (ap (λ (n : ℕ). PAGE_SIZE * n) c.in-Ok.ensures.marks ∙ c.requires.begun.marked) c.in-Ok-judge.ensures.order))

pub returns-clause-pages : goal.returns-clause-pages
returns-clause-pages g c = λ tells.
    let old = g.D.Disk.told c.args.disk.now in
    let mid = g.D.Disk.told c.redo_log.new.disk in
    let o : Opened = record { layout = c.args.begun.layout; log = c.args.begun.log; pool = c.redo_log.new.pool; marks = c.redo_log.new.marks; facts = c.in-Ok-judge.facts } in
    let opens = opens_at o c.args.begun.frames old mid
    (c.in-Ok.ensures.redone old
    (none_redone c.args.begun old c.requires.begun c.requires.stable (λ image now. g.met.D.Disk.images_need_contents c.args.disk.now image now) (λ image since. g.met.D.Disk.since_now_is_now c.args.disk.now image since)))
    c.requires.begun.room c.requires.begun.control c.requires.begun.stands c.in-Ok-judge.ensures.judged c.redo_forgets_a_page_begun_anew.ensures tells in
    subst (λ (pool : PoolState). OpensAs c.args.begun.layout old.contents (shown_pages c.args.begun.layout pool (g.D.Disk.told c.judge.new.disk).contents)) (sym c.in-Ok-judge.ensures.pool)
    (subst (λ (t : Told). OpensAs c.args.begun.layout old.contents (shown_pages c.args.begun.layout c.redo_log.new.pool t.contents)) (sym c.in-Ok-judge.ensures.same) opens)

pub returns-clause-front : goal.returns-clause-front
returns-clause-front g c = λ tells.
    let old = g.D.Disk.told c.args.disk.now in
    front_of c.one_layout.ensures c.args.begun.layout old.contents (g.D.Disk.told c.judge.new.disk).contents (c.requires.begun.control tells)
    ((kept_read c.args.begun.layout old (g.D.Disk.told c.redo_log.new.disk) (g.D.Disk.told c.judge.new.disk) c.judge.ensures.same
    (c.redo_log.ensures.any_moment old
    (none_redone c.args.begun old c.requires.begun c.requires.stable (λ image now. g.met.D.Disk.images_need_contents c.args.disk.now image now) (λ image since. g.met.D.Disk.since_now_is_now c.args.disk.now image since)))).front tells)

pub returns-clause-any_moment : goal.returns-clause-any_moment
returns-clause-any_moment g c =
    let old = g.D.Disk.told c.args.disk.now in
    moments_read old (g.D.Disk.told c.redo_log.new.disk) (g.D.Disk.told c.judge.new.disk) (OpensAsBefore old) c.judge.ensures.same
    (c.redo_log.ensures.any_moment old
    (none_redone c.args.begun old c.requires.begun c.requires.stable (λ image now. g.met.D.Disk.images_need_contents c.args.disk.now image now) (λ image since. g.met.D.Disk.since_now_is_now c.args.disk.now image since))).moments

pub returns-in-Err-clause-store : goal.returns-in-Err-clause-store
returns-in-Err-clause-store g c =
    redo_some Opened c.args.begun.layout c.args.begun.area c.args.begun.frames (g.D.Disk.told c.args.disk.now) (g.D.Disk.told c.redo_log.new.disk) c.args.begun.pool c.args.begun.marks.items c.in-Err.fault c.in-Err.ensures.cause

pub returns-in-Err-judge-clause-store : goal.returns-in-Err-judge-clause-store
returns-in-Err-judge-clause-store g c =
    judge_some Opened c.args.begun.layout (g.D.Disk.told c.redo_log.new.disk) (g.D.Disk.told c.judge.new.disk) c.redo_log.new.pool c.in-Err-judge.fault c.in-Err-judge.ensures.cause
