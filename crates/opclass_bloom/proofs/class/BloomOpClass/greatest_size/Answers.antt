use Rattle.std.proofs.Common.{arith}
use Rattle.opclass_bloom.proofs.Bytes.{length_bytes, read_again}
use Rattle.opclass_bloom.proofs.class.BloomOpClass.greatest_size.Goals as goal

pub returns-clause-bound : goal.returns-clause-bound
returns-clause-bound c = λ s of. rw (length_bytes s, of) (omega arith)

pub returns-clause-read_again : goal.returns-clause-read_again
returns-clause-read_again c = λ s of_class. read_again c.args.self.now s c.size.result of_class c.size.ensures.whole_bytes
