use Rattle.brin_app.proofs.Holding.{laws_of}
use Rattle.brin_app.proofs.top.disk_laws.Goals as goal

pub returns-clause-obeys : goal.returns-clause-obeys
returns-clause-obeys g c = laws_of g.D.Disk.told g.met.D.Disk.images_need_contents g.met.D.Disk.contents_are_an_image g.met.D.Disk.now_is_since

pub returns-clause-only : goal.returns-clause-only
returns-clause-only g c = g.met.D.Disk.since_now_is_now c.args.disk.now
