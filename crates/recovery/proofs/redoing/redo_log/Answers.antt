use Rattle.std.proofs.Common.{[], sym, subst}
use Rattle.recovery.specs.RedoesFrame.{AreRedone}
use Rattle.recovery.proofs.redoing.redo_log.Goals as goal

pub returns-in-Ok-clause-any_moment : goal.returns-in-Ok-clause-any_moment
returns-in-Ok-clause-any_moment g c = λ start r.
    c.in-Ok.ensures.any_moment start (subst (AreRedone c.args.layout.now c.args.frames.now [] start (g.D.Disk.told c.args.disk.now) c.args.pool.now) (sym c.deref_mut.ensures.value) r)

pub returns-in-Err-Damaged-clause-any_moment : goal.returns-in-Err-Damaged-clause-any_moment
returns-in-Err-Damaged-clause-any_moment g c = λ start r.
    c.in-Err-Damaged.ensures.any_moment start (subst (AreRedone c.args.layout.now c.args.frames.now [] start (g.D.Disk.told c.args.disk.now) c.args.pool.now) (sym c.deref_mut.ensures.value) r)

pub returns-in-Err-Disk-clause-any_moment : goal.returns-in-Err-Disk-clause-any_moment
returns-in-Err-Disk-clause-any_moment g c = λ start r.
    c.in-Err-Disk.ensures.any_moment start (subst (AreRedone c.args.layout.now c.args.frames.now [] start (g.D.Disk.told c.args.disk.now) c.args.pool.now) (sym c.deref_mut.ensures.value) r)
