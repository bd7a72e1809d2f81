use Rattle.store_format.proofs.Gates.{opening}
use Rattle.store_format.proofs.gate.open_gate.Goals as goal

pub returns-in_err-write_and_sync-clause-any_moment : goal.returns-in_err-write_and_sync-clause-any_moment
returns-in_err-write_and_sync-clause-any_moment g c = opening (g.D.Disk.told c.args.disk.now) (g.D.Disk.told c.write_and_sync.new.disk) c.write_and_sync.ensures.any_moment

pub returns-clause-any_moment : goal.returns-clause-any_moment
returns-clause-any_moment g c = opening (g.D.Disk.told c.args.disk.now) (g.D.Disk.told c.write_and_sync.new.disk) c.write_and_sync.ensures.any_moment
