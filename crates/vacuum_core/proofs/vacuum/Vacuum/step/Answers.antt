use Rattle.vacuum_core.proofs.Naming.{order_by_table}
use Rattle.vacuum_core.proofs.vacuum.Vacuum.step.Goals as goal

pub returns-in-Prunes-clause-order : goal.returns-in-Prunes-clause-order
returns-in-Prunes-clause-order g c = λ index low. order_by_table g.D.Disk.told c.args.self.now.table c.args.pages.now c.prune_block.new.pages c.prune_block.ensures.others c.requires.of.table index
