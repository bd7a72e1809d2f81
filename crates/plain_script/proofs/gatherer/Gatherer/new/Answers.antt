use Rattle.plain_script.proofs.Gathered.{gathered_none}
use Rattle.plain_script.proofs.gatherer.Gatherer.new.Goals as goal

pub invariant_of-result : goal.invariant_of-result
invariant_of-result c = gathered_none c.args.layout.now.schema c.new.result.items c.new-2.result.items c.new.ensures.items c.new-2.ensures.items
