use Rattle.std.proofs.Common.{◌≡◌, List, ℕ, length, take, drop, ap, ◌∙◌}
use Rattle.disk_trait.specs.Spliced.{spliced}
use Rattle.disk_trait.specs.Recorded.{Recorded, with_write}
use Rattle.disk_trait.specs.Memory.{Recording}
use Rattle.disk_trait.proofs.CrashImages.{write_follows, write_goes_on}
use Rattle.disk_trait.proofs.memory_disk.MemoryDiskDisk.write.Goals as goal

-- the disk behind the fields
module _ (seen disk : Recording) (is : seen ≡ disk) (at : ℕ) (bytes : List ℕ) where
  contents_of : (held : List ℕ) → held ≡ spliced seen.contents at bytes → held ≡ spliced disk.contents at bytes
  contents_of held put = put ∙ ap (λ (d : Recording). spliced d.contents at bytes) is

  past_of : (past : Recorded) → past ≡ with_write seen.past at (take (length bytes) (drop at seen.contents)) → past ≡ with_write disk.past at (take (length bytes) (drop at disk.contents))
  past_of past noted = noted ∙ ap (λ (d : Recording). with_write d.past at (take (length bytes) (drop at d.contents))) is

pub returns-then-fails-clause-images : goal.returns-then-fails-clause-images
returns-then-fails-clause-images c =
    write_follows c.args.self.now (record { contents = c.record_write.new.held.items; past = c.record_write.new.past; calls = c.count_fault-then-fails.new.self }) c.args.at c.args.bytes.now c.requires
    (contents_of _ _ c.self.view_is c.args.at c.args.bytes.now _ c.if-not-record_write.ensures.written) (past_of _ _ c.self.view_is c.args.at c.args.bytes.now _ c.if-not-record_write.ensures.recorded)

pub returns-then-fails-clause-moments : goal.returns-then-fails-clause-moments
returns-then-fails-clause-moments c =
    write_goes_on c.args.self.now (record { contents = c.record_write.new.held.items; past = c.record_write.new.past; calls = c.count_fault-then-fails.new.self }) c.args.at c.args.bytes.now c.requires
    (contents_of _ _ c.self.view_is c.args.at c.args.bytes.now _ c.if-not-record_write.ensures.written) (past_of _ _ c.self.view_is c.args.at c.args.bytes.now _ c.if-not-record_write.ensures.recorded)

pub returns-clause-images : goal.returns-clause-images
returns-clause-images c =
    write_follows c.args.self.now (record { contents = c.record_write.new.held.items; past = c.record_write.new.past; calls = c.fails_now-fails.new.self }) c.args.at c.args.bytes.now c.requires
    (contents_of _ _ c.self.view_is c.args.at c.args.bytes.now _ c.if-not-record_write.ensures.written) (past_of _ _ c.self.view_is c.args.at c.args.bytes.now _ c.if-not-record_write.ensures.recorded)

pub returns-clause-moments : goal.returns-clause-moments
returns-clause-moments c =
    write_goes_on c.args.self.now (record { contents = c.record_write.new.held.items; past = c.record_write.new.past; calls = c.fails_now-fails.new.self }) c.args.at c.args.bytes.now c.requires
    (contents_of _ _ c.self.view_is c.args.at c.args.bytes.now _ c.if-not-record_write.ensures.written) (past_of _ _ c.self.view_is c.args.at c.args.bytes.now _ c.if-not-record_write.ensures.recorded)
