use Rattle.std.proofs.Common.{arith}
use Rattle.opclass_bloom.proofs.Bytes.{length_bytes}
use Rattle.opclass_bloom.proofs.class.BloomOpClass.encode.Goals as goal

pub write-requires : goal.write-requires
write-requires c = rw (length_bytes c.args.s.now, c.requires.of_class) c.requires.room

pub returns-clause-within : goal.returns-clause-within
returns-clause-within c = rw (c.write.ensures.size, length_bytes c.args.s.now, c.requires.of_class) (omega arith)
