use Rattle.std.proofs.Common.{rules}
use Rattle.demo_script.specs.DemoStore.{demo_declarations}
use Rattle.demo_script.proofs.layout.declarations.Goals as goal

pub returns : goal.returns
unfolding demo_declarations
returns c = search rules
