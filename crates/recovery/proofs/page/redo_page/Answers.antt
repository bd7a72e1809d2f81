use Rattle.std.proofs.Common.{sym, subst, arith}
use Rattle.wal_record.specs.Changes.{logged}
use Rattle.buffer_pool.specs.PoolState.{PoolState}
use Rattle.recovery.specs.RedoesPage.{ChangesHeld}
use Rattle.recovery.specs.Redoing.{Redoing}
use Rattle.recovery.proofs.Pooling.{misfits_held, redoes_held}
use Rattle.recovery.proofs.page.redo_page.Goals as goal

pub returns-in-Ok-clause-redone : goal.returns-in-Ok-clause-redone
returns-in-Ok-clause-redone g c =
    let h = subst (ChangesHeld c.args.layout.now c.args.place (logged c.args.change.now) c.args.pool.now c.redo_held.new.pool) c.in-Ok.is c.in-Some.ensures.changed in
    redoes_held c.args.layout.now c.args.place (logged c.args.change.now) (g.D.Disk.told c.args.disk.now) c.args.pool.now c.redo_held.new.pool h.0 h.1 h.2 h.3 h.4 h.5 h.6

pub returns-in-Err-clause-cause : goal.returns-in-Err-clause-cause
returns-in-Err-clause-cause g c =
    let h = subst (ChangesHeld c.args.layout.now c.args.place (logged c.args.change.now) c.args.pool.now c.redo_held.new.pool) c.in-Err.is c.in-Some.ensures.changed in
    (misfits_held c.args.layout.now c.args.place (logged c.args.change.now) (g.D.Disk.told c.args.disk.now) c.args.pool.now h.0 h.1 h.2, omega arith)

pub returns-in_default-clause-any_moment : goal.returns-in_default-clause-any_moment
returns-in_default-clause-any_moment g c = λ frames start done r.
    c.redo_absent.ensures.any_moment frames start done
    (subst (λ (pool : PoolState). Redoing c.args.layout.now frames start done (g.D.Disk.told c.args.disk.now) pool) (sym c.in_default.ensures.absent.1) r)
