use Rattle.command_line.proofs.SpeltLaws.{init_defaults, run_defaults, threads_defaults}
use Rattle.command_line.proofs.laws.sizes_have_defaults.Goals as goal

pub returns : goal.returns
returns c = (init_defaults, run_defaults, threads_defaults)
