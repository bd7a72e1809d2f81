use Rattle.store_layout.proofs.FirstBroken.{is_least_broken}
use Rattle.store_layout.proofs.layout.the_first_broken_rule_is_the_least.Goals as goal

pub returns : goal.returns
returns c = is_least_broken c.args.schema.now c.args.sizes
