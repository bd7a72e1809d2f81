use Rattle.std.proofs.Common.{ap}
use Rattle.disk_trait.specs.Recorded.{Recorded}
use Rattle.disk_trait.proofs.CrashImages.{fresh_image}
use Rattle.disk_trait.proofs.memory_disk.MemoryDisk.from_image.Goals as goal

pub returns-clause-stable : goal.returns-clause-stable
returns-clause-stable c = fresh_image c.args.bytes.items c.new.result.events (ap (λ (p : Recorded). p.events) c.new.ensures)
