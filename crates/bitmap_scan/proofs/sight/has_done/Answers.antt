use Rattle.std.proofs.Common.{sym}
use Rattle.page_store.specs.SurvivesLaws.{survives_still}
use Rattle.bitmap_scan.proofs.Remembered.{done_by_commit, done_by_nobody, done_by_none, done_own, stands_read}
use Rattle.bitmap_scan.proofs.VisibleRows.{sight_of}
use Rattle.bitmap_scan.proofs.sight.has_done.Goals as goal

pub returns-then-t-own-clause-done : goal.returns-then-t-own-clause-done
returns-then-t-own-clause-done g c = λ tells statuses has. done_own (sight_of c.args.snapshot.now c.args.own c.args.tx.now.first statuses) c.args.t c.if-t-own.true

pub returns-then-t-own-clause-survives : goal.returns-then-t-own-clause-survives
returns-then-t-own-clause-survives g c = survives_still g.D.Disk.told c.args.pages.now c.known.ensures.stays

pub returns-then-t-eq0-clause-done : goal.returns-then-t-eq0-clause-done
returns-then-t-eq0-clause-done g c = λ tells statuses has. done_by_nobody c.args.snapshot.now c.args.own c.args.tx.now.first statuses c.args.t c.if-t-eq0.true c.if-t-own.false

pub returns-then-t-eq0-clause-survives : goal.returns-then-t-eq0-clause-survives
returns-then-t-eq0-clause-survives g c = survives_still g.D.Disk.told c.args.pages.now c.known.ensures.stays

pub returns-in-Some-clause-done : goal.returns-in-Some-clause-done
returns-in-Some-clause-done g c = λ tells statuses has.
    let sight = sight_of c.args.snapshot.now c.args.own c.args.tx.now.first statuses in
    done_by_commit sight c.args.t c.if-t-own.false c.in-Some.committed (c.in-Some.ensures sight (c.requires.remembers tells statuses has))

pub returns-in-Some-clause-survives : goal.returns-in-Some-clause-survives
returns-in-Some-clause-survives g c = survives_still g.D.Disk.told c.args.pages.now c.known.ensures.stays

pub returns-then-not-had_ended-clause-done : goal.returns-then-not-had_ended-clause-done
returns-then-not-had_ended-clause-done g c = λ tells statuses has. done_by_none (sight_of c.args.snapshot.now c.args.own c.args.tx.now.first statuses) c.args.t c.if-t-own.false (sym c.if-not-had_ended.ensures)

pub returns-then-not-had_ended-clause-survives : goal.returns-then-not-had_ended-clause-survives
returns-then-not-had_ended-clause-survives g c = survives_still g.D.Disk.told c.args.pages.now c.known.ensures.stays

pub returns-clause-done : goal.returns-clause-done
returns-clause-done g c = λ tells statuses has.
    done_by_commit (sight_of c.args.snapshot.now c.args.own c.args.tx.now.first statuses) c.args.t c.if-t-own.false c.is_committed-committed.result
    (stands_read c.args.snapshot.now c.args.own c.args.tx.now.first statuses c.args.t c.in_ok-status.status c.is_committed-committed.result (sym c.if-not-had_ended.ensures) c.if-t-eq0.false c.is_committed-committed.ensures (c.in_ok-status.ensures.shown tells statuses has))

pub returns-clause-remembers : goal.returns-clause-remembers
returns-clause-remembers g c = λ tells statuses has.
    stands_read c.args.snapshot.now c.args.own c.args.tx.now.first statuses c.args.t c.in_ok-status.status c.is_committed-committed.result (sym c.if-not-had_ended.ensures) c.if-t-eq0.false c.is_committed-committed.ensures (c.in_ok-status.ensures.shown tells statuses has)

pub returns-clause-survives : goal.returns-clause-survives
returns-clause-survives g c = c.in_ok-status.ensures.survives

pub returns-in_err-status-clause-survives : goal.returns-in_err-status-clause-survives
returns-in_err-status-clause-survives g c = c.in_err-status.ensures.survives
