use Rattle.std.specs.Prelude.{Err}
use Rattle.recovery.specs.declared.opening.Opened.{Opened}
use Rattle.recovery.proofs.Ends.{after_before}
use Rattle.recovery.proofs.Finishing.{cause_before}
use Rattle.recovery.proofs.Joining.{front_behind, front_still, keeps_front, moments_synced, untouched_synced}
use Rattle.recovery.proofs.opening.open.Goals as goal

pub returns-in_default-clause-any_moment : goal.returns-in_default-clause-any_moment
returns-in_default-clause-any_moment g c =
    moments_synced (g.D.Disk.told c.args.disk.now) (g.D.Disk.told c.sync.new.self) (λ image since. g.met.D.Disk.since_now_is_now c.args.disk.now image since) c.sync.ensures.images c.sync.ensures.moments

pub returns-in-Ok-open_synced-clause-any_moment : goal.returns-in-Ok-open_synced-clause-any_moment
returns-in-Ok-open_synced-clause-any_moment g c =
    let old = g.D.Disk.told c.args.disk.now in
    let mid = g.D.Disk.told c.sync.new.self in
    after_before old mid (g.D.Disk.told c.open_synced.new.disk) c.sync.ensures.images
    (moments_synced old mid (λ image since. g.met.D.Disk.since_now_is_now c.args.disk.now image since) c.sync.ensures.images c.sync.ensures.moments) c.open_synced.ensures.any_moment

pub returns-in-Err-clause-cause : goal.returns-in-Err-clause-cause
returns-in-Err-clause-cause g c =
    let old = g.D.Disk.told c.args.disk.now in
    let mid = g.D.Disk.told c.sync.new.self in
    cause_before Opened old mid (g.D.Disk.told c.open_synced.new.disk) (Err c.in-Err.fault) c.sync.ensures.same c.sync.ensures.moments.size c.sync.ensures.moments.tells_contents c.in-Ok.ensures.cause.later c.in-Err.ensures.cause

pub returns-in-Err-clause-untouched : goal.returns-in-Err-clause-untouched
returns-in-Err-clause-untouched g c = λ is.
    untouched_synced (g.D.Disk.told c.args.disk.now) (g.D.Disk.told c.sync.new.self) (g.D.Disk.told c.open_synced.new.disk) (λ image since. g.met.D.Disk.since_now_is_now c.args.disk.now image since) c.sync.ensures.images c.sync.ensures.moments c.sync.ensures.same
    (c.in-Err.ensures.untouched is)

pub returns-in_default-clause-front : goal.returns-in_default-clause-front
returns-in_default-clause-front g c =
    let old = g.D.Disk.told c.args.disk.now in
    let new = g.D.Disk.told c.sync.new.self in
    keeps_front c.one_layout.ensures old new (λ _. front_still old new c.sync.ensures.same)
    (moments_synced old new (λ image since. g.met.D.Disk.since_now_is_now c.args.disk.now image since) c.sync.ensures.images c.sync.ensures.moments)

pub returns-in-Ok-open_synced-clause-front : goal.returns-in-Ok-open_synced-clause-front
returns-in-Ok-open_synced-clause-front g c =
    let old = g.D.Disk.told c.args.disk.now in
    let mid = g.D.Disk.told c.sync.new.self in
    let new = g.D.Disk.told c.open_synced.new.disk in
    keeps_front c.one_layout.ensures old new (front_behind old mid new c.sync.ensures.same c.sync.ensures.moments.tells_contents c.open_synced.ensures.front)
    (after_before old mid new c.sync.ensures.images (moments_synced old mid (λ image since. g.met.D.Disk.since_now_is_now c.args.disk.now image since) c.sync.ensures.images c.sync.ensures.moments) c.open_synced.ensures.any_moment)

pub returns-in-Err-clause-front : goal.returns-in-Err-clause-front
returns-in-Err-clause-front g c =
    let old = g.D.Disk.told c.args.disk.now in
    let mid = g.D.Disk.told c.sync.new.self in
    let new = g.D.Disk.told c.open_synced.new.disk in
    keeps_front c.one_layout.ensures old new (front_behind old mid new c.sync.ensures.same c.sync.ensures.moments.tells_contents c.open_synced.ensures.front)
    (after_before old mid new c.sync.ensures.images (moments_synced old mid (λ image since. g.met.D.Disk.since_now_is_now c.args.disk.now image since) c.sync.ensures.images c.sync.ensures.moments) c.open_synced.ensures.any_moment)
