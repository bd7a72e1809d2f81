use Rattle.opclass_bloom.proofs.Empty.{empty_includes_nothing}
use Rattle.opclass_bloom.proofs.class.BloomOpClass.empty.Goals as goal

pub returns-clause-includes_nothing : goal.returns-clause-includes_nothing
returns-clause-includes_nothing c = empty_includes_nothing c.args.self.now c.known.ensures.least_hashes
