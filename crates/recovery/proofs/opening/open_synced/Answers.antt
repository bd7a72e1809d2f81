use Rattle.std.proofs.Common.{sym, ap, subst}
use Rattle.std.specs.Prelude.{IsTrue, Err}
use Rattle.disk_trait.specs.IsStable.{IsStable}
use Rattle.disk_trait.specs.Told.{Told}
use Rattle.recovery.specs.declared.opening.Opened.{Opened}
use Rattle.recovery.proofs.Ends.{after_before}
use Rattle.recovery.proofs.Finishing.{cause_before}
use Rattle.recovery.proofs.Joining.{front_behind, front_still, moments_reads, untouched_read}
use Rattle.recovery.proofs.opening.open_synced.Goals as goal

pub finish-requires-clause-stable : goal.finish-requires-clause-stable
finish-requires-clause-stable g c = subst IsStable (sym c.begin.ensures.same) c.requires

pub returns-in-Ok-finish-clause-any_moment : goal.returns-in-Ok-finish-clause-any_moment
returns-in-Ok-finish-clause-any_moment g c =
    let old = g.D.Disk.told c.args.disk.now in
    let mid = g.D.Disk.told c.begin.new.disk in
    after_before old mid (g.D.Disk.told c.finish.new.disk) (λ image now. subst (λ (t : Told). IsTrue (t.now image)) c.begin.ensures.same now)
    (moments_reads old mid (λ image since. g.met.D.Disk.since_now_is_now c.args.disk.now image since) c.begin.ensures.same) c.finish.ensures.any_moment

pub returns-in-Err-finish-clause-any_moment : goal.returns-in-Err-finish-clause-any_moment
returns-in-Err-finish-clause-any_moment g c =
    let old = g.D.Disk.told c.args.disk.now in
    let mid = g.D.Disk.told c.begin.new.disk in
    after_before old mid (g.D.Disk.told c.finish.new.disk) (λ image now. subst (λ (t : Told). IsTrue (t.now image)) c.begin.ensures.same now)
    (moments_reads old mid (λ image since. g.met.D.Disk.since_now_is_now c.args.disk.now image since) c.begin.ensures.same) c.finish.ensures.any_moment

pub returns-in-Err-finish-clause-cause : goal.returns-in-Err-finish-clause-cause
returns-in-Err-finish-clause-cause g c =
    let old = g.D.Disk.told c.args.disk.now in
    let mid = g.D.Disk.told c.begin.new.disk in
    cause_before Opened old mid (g.D.Disk.told c.finish.new.disk) (Err c.in-Err-finish.fault) (ap (λ (t : Told). t.contents) c.begin.ensures.same) (ap (λ (t : Told). t.size) c.begin.ensures.same)
    (ap (λ (t : Told). t.tells_contents) c.begin.ensures.same) c.in-Ok.ensures.cause c.in-Err-finish.ensures.cause

pub returns-in-Err-finish-clause-untouched : goal.returns-in-Err-finish-clause-untouched
returns-in-Err-finish-clause-untouched g c = λ is. absurd (c.in-Err-finish.ensures.store is)

pub returns-in-Err-clause-untouched : goal.returns-in-Err-clause-untouched
returns-in-Err-clause-untouched g c = λ is.
    untouched_read (g.D.Disk.told c.args.disk.now) (g.D.Disk.told c.begin.new.disk) (λ image since. g.met.D.Disk.since_now_is_now c.args.disk.now image since) c.begin.ensures.same

pub returns-in-Ok-finish-clause-front : goal.returns-in-Ok-finish-clause-front
returns-in-Ok-finish-clause-front g c =
    let same = c.begin.ensures.same in
    front_behind (g.D.Disk.told c.args.disk.now) (g.D.Disk.told c.begin.new.disk) (g.D.Disk.told c.finish.new.disk) (ap (λ (t : Told). t.contents) same) (ap (λ (t : Told). t.tells_contents) same) c.finish.ensures.front

pub returns-in-Err-finish-clause-front : goal.returns-in-Err-finish-clause-front
returns-in-Err-finish-clause-front g c =
    let same = c.begin.ensures.same in
    front_behind (g.D.Disk.told c.args.disk.now) (g.D.Disk.told c.begin.new.disk) (g.D.Disk.told c.finish.new.disk) (ap (λ (t : Told). t.contents) same) (ap (λ (t : Told). t.tells_contents) same) c.finish.ensures.front

pub returns-in-Err-clause-front : goal.returns-in-Err-clause-front
returns-in-Err-clause-front g c = λ _. front_still (g.D.Disk.told c.args.disk.now) (g.D.Disk.told c.begin.new.disk) (ap (λ (t : Told). t.contents) c.begin.ensures.same)
