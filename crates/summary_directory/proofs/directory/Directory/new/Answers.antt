use Rattle.summary_directory.proofs.Steps.{begins}
use Rattle.summary_directory.proofs.directory.Directory.new.Goals as goal

pub new-requires-clause-rule : goal.new-requires-clause-rule
new-requires-clause-rule c = begins c.empty_shelf-first.result c.empty_shelf-first.ensures
