use Rattle.std.proofs.Common.{ap, ◌∙◌}
use Rattle.disk_trait.specs.Recorded.{with_sync}
use Rattle.disk_trait.specs.Memory.{Recording}
use Rattle.disk_trait.proofs.CrashImages.{synced_stable, synced_images, sync_goes_on}
use Rattle.disk_trait.proofs.memory_disk.MemoryDiskDisk.sync.Goals as goal

pub returns-clause-stable : goal.returns-clause-stable
returns-clause-stable c = synced_stable c.self.inside.bytes.items c.self.inside.past c.record_sync.new.past c.if-not-record_sync.ensures.recorded

pub returns-clause-images : goal.returns-clause-images
returns-clause-images c =
    rw (← c.self.view_is) (synced_images c.self.inside.bytes.items c.self.inside.past c.record_sync.new.past c.if-not-record_sync.ensures.recorded)

pub returns-clause-moments : goal.returns-clause-moments
returns-clause-moments c =
    sync_goes_on c.args.self.now (record { contents = c.self.inside.bytes.items; past = c.record_sync.new.past; calls = c.fails_now-fails.new.self })
    (ap (λ (d : Recording). d.contents) c.self.view_is) (c.if-not-record_sync.ensures.recorded ∙ ap (λ (d : Recording). with_sync d.past) c.self.view_is)
