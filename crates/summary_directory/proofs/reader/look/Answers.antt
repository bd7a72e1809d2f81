use Rattle.summary_directory.proofs.Steps.{looks}
use Rattle.summary_directory.proofs.reader.look.Goals as goal

pub enter_as-requires : goal.enter_as-requires
enter_as-requires c x = looks _ _ x
