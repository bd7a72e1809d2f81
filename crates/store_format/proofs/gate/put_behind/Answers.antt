use Rattle.std.proofs.Common.{length}
use Rattle.store_format.proofs.Gates.{closed_on, behind_on}
use Rattle.store_format.proofs.gate.put_behind.Goals as goal

pub returns-clause-closed : goal.returns-clause-closed
returns-clause-closed g c =
    closed_on (g.D.Disk.told c.args.disk.now) (g.D.Disk.told c.write.new.self) c.args.at (length c.args.bytes.now) c.requires.behind c.requires.closed c.write.ensures.images

pub returns-clause-any_moment : goal.returns-clause-any_moment
returns-clause-any_moment g c =
    let old = g.D.Disk.told c.args.disk.now in
    let new = g.D.Disk.told c.write.new.self in
    behind_on old new (g.met.D.Disk.since_now_is_now c.args.disk.now) c.requires.closed (closed_on old new c.args.at (length c.args.bytes.now) c.requires.behind c.requires.closed c.write.ensures.images) c.write.ensures.moments
